-- One level more is one store more.
use Rattle.std.proofs.Common.{◌≡◌, ◌^◌, ◌≤◌, ℕ, List, ℤ, pos, nat_abs, ◌*ℤ◌, get_or, set}
use Rattle.std.proofs.Common.{take, min, w16, w64, to_z, of_z, ◌∙◌, ap, ap₂, to_z-of_z, arith, rules}
use native.Mathlib.Decide.{dec_le}
use mir.Val.{SFits}
use Rattle.whole.specs.Expressions.{fits_abs}
use Rattle.reading.specs.Transform.{zigzag, coefficients}
use Rattle.reading.proofs.Zigzag.{zigzag_below}
use Rattle.jpeg_transform.proofs.Coefficients.{coefficients_none, coefficients_next, coefficients_all, within_zeros, within_set}
use Rattle.jpeg_transform.proofs.dequantize.Goals as goal

pub loop-k-init : goal.loop-k-init
loop-k-init c = record {
  made = c.requires ∙ coefficients_none c.args.quantizer.now c.args.levels.now;
  small = rw c.requires (within_zeros (2 ^ 23) 64);
}

pub bounds-block-place : goal.bounds-block-place
bounds-block-place c = omega (arith, zigzag_below c.loop-k.k (omega arith))

-- what is stored is the coefficient of level k
stored : {q n : ℕ} {l : ℤ} (z : ℤ) → SFits w16 l → (z ≡ to_z w16 (of_z w16 l) *ℤ pos n) × (nat_abs z ≤ 2 ^ 23) → n ≡ q
    → (to_z w64 (of_z w64 z) ≡ l *ℤ pos q) × (nat_abs (to_z w64 (of_z w64 z)) ≤ 2 ^ 23)
stored z fits r e = let same = to_z-of_z {w = w64} {z = z} (fits_abs r.1 tt) in
    (same ∙ r.0 ∙ ap₂ (λ (a : ℤ) (b : ℕ). a *ℤ pos b) (to_z-of_z fits) e, rw same r.1)

pub loop-k-preserved : goal.loop-k-preserved
loop-k-preserved c =
    let q = c.args.quantizer.now in
    let l = c.args.levels.now in
    let k = c.loop-k.k in
    let r = c.coefficient.ensures in
    let fits : SFits w16 (get_or l k (pos 0)) = search rules in
    let new = stored c.coefficient.result fits r c.at_or.ensures in
    record {
      made = ap₂ (λ (b : List ℤ) (z : ℤ). set b (get_or zigzag k 0) z) c.loop-k.invariant.made new.0 ∙ coefficients_next q l k (omega arith);
      small = within_set (get_or zigzag k 0) _ c.loop-k.invariant.small new.1;
    }

-- the levels that count: as many as are given, or all 64
counted : (q : List ℕ) (l : List ℤ) (k n : ℕ) → k ≡ min n 64 → coefficients q (take k l) ≡ coefficients q (take n l)
counted q l k n e = go (dec_le 64 n)
  where
    go : Dec (64 ≤ n) → coefficients q (take k l) ≡ coefficients q (take n l)
    go (yes h) = coefficients_all q l k n (omega arith) h
    go (no h) = let same : k ≡ n = omega arith in ap (λ m. coefficients q (take m l)) same

pub returns : goal.returns
returns c = (
  c.loop-k.invariant.made ∙ counted c.args.quantizer.now c.args.levels.now c.loop-k.k c.args.places (omega arith),
  c.loop-k.invariant.small,
)
