-- The levels of a block that was read: 64 of them, each in -2048..2047.
use Prim.Native.Nat.{ℕ, suc, ◌<◌, ◌≤◌}
use mathlib.Core.Path.{◌≡◌, ap}
use mathlib.Core.List.{List, [], ◌∷◌}
use native.Mathlib.Omega.{arith}
use lib.Dec.{T, leb, leb→le}
use lib.ListN.{length, get_or}
use lib.IntN.{ℤ, pos, negsuc, nat_abs}
use lib.Signed.{mag}
use Rattle.whole.specs.Lists.{each_cons}
use Rattle.whole.specs.Ring.{mag_nat_abs}
use Rattle.whole.specs.Expressions.{Within}
use Rattle.reading.specs.declared.Bits.{Bits}
use Rattle.reading.specs.Reader.{got}
use Rattle.reading.specs.Bits.{one}
use Rattle.reading.specs.Huffman.{Table}
use Rattle.reading.specs.Block.{block, predictable}
use Rattle.reading.proofs.Plain.{and_left}
use Rattle.reading.proofs.BlockWritten.{AllSmall}
use Rattle.reading.proofs.ScanWritten.{FineBlock}
use Rattle.reading.proofs.FineRead.{file_bits, block_fine}

pub predictable_small : (z : ℤ) → T (predictable z) → mag z < 2048
predictable_small (pos n) t = omega (arith, leb→le n 2047 t)
predictable_small (negsuc n) t = omega (arith, leb→le n 2047 (and_left (leb n 2047) _ t))

-- each level in -2048..2047
pub record Small (l : List ℤ) : Type 0 where
  pub each : (i : ℕ) → mag (get_or l i (pos 0)) < 2048

small_cons : (z : ℤ) (l : List ℤ) → mag z < 2048 → Small l → Small (z ∷ l)
small_cons z l h k = record { each = each_cons (λ _ x. mag x < 2048) z l (pos 0) h k.each }

small_nil : Small []
small_nil = record { each = λ i. omega arith }

small_all : (l : List ℤ) → AllSmall l → Small l
small_all [] h = small_nil
small_all (z ∷ l) h = small_cons z l (omega (arith, mag_nat_abs z, h.0)) (small_all l h.1)

-- a number in -2048..2047 is at most 2048 in magnitude
pub small_within : (l : List ℤ) → Small l → Within 2048 l
small_within l h = record { each = λ i. near (get_or l i (pos 0)) (h.each i) }
  where
    near : (z : ℤ) → mag z < 2048 → nat_abs z ≤ 2048
    near (pos n) k = omega arith
    near (negsuc n) k = omega arith

-- ---- a block

pub record Whole (l : List ℤ) : Type 0 where
  pub long : length l ≡ 64
  pub small : Small l

pub fine_levels : (p : ℤ) (l : List ℤ) → FineBlock p l → Whole l
fine_levels p [] f = absurd f
fine_levels p (v ∷ l) f = record { long = ap suc f.whole; small = small_cons v l (predictable_small v f.ranged) (small_all l f.small) }

module _ (s : List ℕ) (dc ac : Table) (p : ℤ) (b : Bits) where
  pub block_whole : {l : List ℤ} {q : Bits} → block (one s) dc ac p b ≡ got l q → Whole l
  block_whole {l} {q} e = fine_levels p l (block_fine (one s) (file_bits s) dc ac p b q l e)

  pub block_small : {l : List ℤ} {q : Bits} → block (one s) dc ac p b ≡ got l q → Small l
  block_small e = (block_whole e).small

  pub block_long : {l : List ℤ} {q : Bits} → block (one s) dc ac p b ≡ got l q → length l ≡ 64
  block_long e = (block_whole e).long
