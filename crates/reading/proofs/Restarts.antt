-- Padding, a byte at a place, and what is read before a block: one law for each way through their tests.
use mathlib.Core.List.{List}
use mathlib.Core.Path.{◌≡◌, refl, sym}
use mathlib.Core.Bool.{Bool, true, false, cond}
use Prim.Native.Nat.{ℕ, ◌-◌, ◌%◌, ◌^◌, ◌<◌, ◌≤◌}
use native.Mathlib.Nat.{mod-eq_of_lt}
use native.Mathlib.Omega.{arith}
use lib.Pow.{pow_mono}
use lib.Dec.{eqb}
use lib.ListN.{length, get_or}
use lib.IntN.{ℤ}
use borrow.Author.Tests.{ne_eqb}
use Rattle.reading.specs.Tests.{◌and◌, is_at}
use Rattle.reading.specs.Bits.{Source, padded}
use Rattle.reading.specs.Reader.{◌>>◌, give}
use Rattle.reading.specs.Layout.{mcu_of, opens_mcu, due_before, restart_due, restart_code}
use Rattle.reading.specs.Scan.{Plan, no_predictors, restart, ahead}
use Rattle.reading.proofs.FileBytes.{element_in, element_out}

-- ---- padding

-- more unread bits than a byte has are never all ones
pub padded_over : (byte left : ℕ) → 8 < left → byte < 256 → false ≡ padded (record { at = 0; byte = byte; left = left })
padded_over byte left h i =
    let p : 2 ^ 9 ≤ 2 ^ left = pow_mono {i = 9} h in
    let z : byte % 2 ^ left ≡ byte = mod-eq_of_lt (omega arith) in
    sym (ne_eqb _ _ (λ (e : byte % 2 ^ left ≡ 2 ^ left - 1). let y : ⊥ = omega arith in y))

-- ---- a byte at a place

pub is_at_lem : (s : List ℕ) (i x : ℕ) → i < length s → is_at s i x ≡ eqb (get_or s i 0) x
is_at_lem s i x h = rw (element_in s i h)

pub is_out : (s : List ℕ) (i x : ℕ) → length s ≤ i → is_at s i x ≡ false
is_out s i x h = rw (element_out s i h)

-- ---- what is read before a block

-- a restart, where the block opens an MCU with one due before it
pub ahead_is : {S : Type 0} (src : Source S) (p : Plan) (k : ℕ) (ps : List ℤ)
    → ahead src p k ps
    ≡ cond (restart_due p.shape p.interval k) (src.marker (restart_code p.shape p.interval k) >> give no_predictors) (give ps)
unfolding restart_due
ahead_is src p k ps = go (opens_mcu p.shape k)
  where
    go : (b : Bool)
        → cond b (restart src p.interval (mcu_of p.shape k) ps) (give ps)
        ≡ cond (b and due_before p.interval (mcu_of p.shape k)) (src.marker (restart_code p.shape p.interval k) >> give no_predictors) (give ps)
    go true = refl
    go false = refl
