-- Of a scan that was read: as many blocks as its record says, 64 levels in each, 64 samples of each.
use mathlib.Core.List.{List, [], ◌∷◌, ◌++◌, append_assoc}
use mathlib.Core.Path.{◌≡◌, refl, sym, ◌∙◌, ap, ap₂}
use mathlib.Core.Bool.{Bool, true, false, cond}
use Prim.Native.Nat.{ℕ, suc, ◌+◌, ◌*◌}
use native.Mathlib.Omega.{arith}
use lib.ListN.{length, take, length-append}
use lib.IntN.{ℤ}
use Rattle.reading.specs.declared.Bits.{Bits}
use Rattle.reading.specs.declared.Record.{Record}
use Rattle.reading.specs.Layout.{Shape, channel_of}
use Rattle.reading.specs.Tables.{shape_of, quantizers_of}
use Rattle.reading.specs.Transform.{coefficients, samples}
use Rattle.reading.specs.Code.Painted.{samples_to}
use Rattle.reading.specs.Reading.{dequantized, block_samples, samples_of}
use Rattle.reading.specs.Scan.{Plan, plan_of, no_predictors, whole, broke, levels}
use Rattle.reading.specs.Code.Scans.{nowhere, readable, scan_of}
use Rattle.reading.proofs.DoubleSum.{length_samples}
use Rattle.reading.proofs.Reasons.{no_break}
use Rattle.reading.proofs.FineRead.{levels_fine}
use Rattle.reading.proofs.ScanWritten.{FineBlocks}

-- ---- blocks of 64 levels

abbrev pub Whole : List (List ℤ) → Type 0
Whole [] = Unit {0}
Whole (l ∷ ls) = (length l ≡ 64) × Whole ls

pub fine_whole : (p : Plan) (k : ℕ) (ps : List ℤ) (ls : List (List ℤ)) → FineBlocks p k ps ls → Whole ls
fine_whole p k ps [] f = tt
fine_whole p k ps ([] ∷ ls) f = absurd f.0
fine_whole p k ps ((v ∷ l) ∷ ls) f = (ap suc f.0.whole, fine_whole p (suc k) _ ls f.1)

-- ---- the samples of blocks one after another

abbrev pub samples_from : Shape → (ℕ → List ℕ) → ℕ → List (List ℤ) → List ℕ
samples_from p q k ls = block_samples (dequantized p q k ls)

pub samples_to_length : (q : List ℕ) (l : List ℤ) (n : ℕ) → length (samples_to q l n) ≡ 64
unfolding samples_to
samples_to_length q l n = length_samples (coefficients q (take n l))

module _ (p : Shape) (q : ℕ → List ℕ) where
  pub samples_from_length : (k : ℕ) (ls : List (List ℤ)) → length (samples_from p q k ls) ≡ 64 * length ls
  samples_from_length k [] = refl
  samples_from_length k (l ∷ ls) =
      let c : List ℤ = coefficients (q (channel_of p k)) l in
      length-append (samples c) (samples_from p q (suc k) ls)
      ∙ ap₂ (λ (a b : ℕ). a + b) (length_samples c) (samples_from_length (suc k) ls) ∙ omega arith

  pub samples_from_append : (k : ℕ) (ls ms : List (List ℤ)) → samples_from p q k (ls ++ ms) ≡ samples_from p q k ls ++ samples_from p q (k + length ls) ms
  samples_from_append k [] ms = let z : k ≡ k + 0 = omega arith in ap (λ (i : ℕ). samples_from p q i ms) z
  samples_from_append k (l ∷ ls) ms =
      let c : List ℤ = coefficients (q (channel_of p k)) l in
      let z : suc k + length ls ≡ k + suc (length ls) = omega arith in
      ap (λ (r : List ℕ). samples c ++ r) (samples_from_append (suc k) ls ms ∙ ap (λ (i : ℕ). samples_from p q (suc k) ls ++ samples_from p q i ms) z)
      ∙ sym (append_assoc (samples c) (samples_from p q (suc k) ls) (samples_from p q (k + suc (length ls)) ms))

-- ---- a record's scan

-- where the numbers of a record allow it, its scan is read as the rules say
pub scan_is : (s : List ℕ) (r : Record) → readable s r ≡ true → scan_of s r ≡ levels s r
unfolding scan_of
scan_is s r e = rw e refl

-- and where it is read at all, too
pub scan_levels : (s : List ℕ) (r : Record) {ls : List (List ℤ)} {b : Bits} → scan_of s r ≡ whole ls b → levels s r ≡ whole ls b
unfolding scan_of
scan_levels s r {ls} {b} e = go (readable s r) e
  where
    go : (t : Bool) → cond t (levels s r) (broke nowhere) ≡ whole ls b → levels s r ≡ whole ls b
    go true h = h
    go false h = absurd (no_break nowhere ls b h)

module _ (s : List ℕ) (r : Record) {ls : List (List ℤ)} {b : Bits} (e : levels s r ≡ whole ls b) where
  pub blocks_counted : length ls ≡ r.blocks
  blocks_counted = (levels_fine s r ls b e).1

  pub blocks_whole : Whole ls
  blocks_whole = fine_whole (plan_of s r) 0 no_predictors ls (levels_fine s r ls b e).0

  pub samples_counted : length (samples_of s r ls) ≡ 64 * r.blocks
  samples_counted = samples_from_length (shape_of r.frame) (quantizers_of s r) 0 ls ∙ ap (λ (k : ℕ). 64 * k) blocks_counted
