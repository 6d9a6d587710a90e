-- The zigzag order and its inverse, and where the levels of a block stand among its coefficients.
use mathlib.Core.Path.{◌≡◌, ◌∙◌, ap}
use mathlib.Core.Bool.{Bool}
use mathlib.Core.List.{List}
use Prim.Native.Nat.{ℕ, zero, suc, ◌+◌, ◌*◌, ◌≤◌, ◌<◌, zero-le}
use native.Mathlib.Omega.{arith}
use lib.Dec.{T, eqb, ltb, ltb→lt, eqb→eq}
use lib.ListN.{get_or, length}
use lib.IntN.{ℤ, pos, nat_abs}
use Rattle.whole.specs.Expressions.{at, Within, abs_mul}
use Rattle.whole.specs.Lists.{from, length_from, get_d_from}
use Rattle.reading.specs.Tests.{all_from}
use Rattle.reading.specs.Transform.{zigzag, zigzag_place, dequantized_at, coefficients}
use Rattle.reading.proofs.Fits.{all_at}

none : (k : ℕ) → 0 + k ≡ k
none k = omega arith

-- what is computed of the 64 places holds of each of them
each_place : (p : ℕ → Bool) → T (all_from 64 0 p) → (k : ℕ) → k < 64 → T (p k)
each_place p t k h = all_at p 64 0 t k zero-le h

pub zigzag_below : (k : ℕ) → k < 64 → get_or zigzag k 0 < 64
zigzag_below k h = ltb→lt (get_or zigzag k 0) 64 (each_place (λ k. ltb (get_or zigzag k 0) 64) tt k h)

pub zigzag_place_lem : (k : ℕ) → k < 64 → zigzag_place (get_or zigzag k 0) ≡ k
zigzag_place_lem k h = eqb→eq (zigzag_place (get_or zigzag k 0)) k (each_place (λ k. eqb (zigzag_place (get_or zigzag k 0)) k) tt k h)

pub place_zigzag : (j : ℕ) → j < 64 → get_or zigzag (zigzag_place j) 0 ≡ j
place_zigzag j h = eqb→eq (get_or zigzag (zigzag_place j) 0) j (each_place (λ j. eqb (get_or zigzag (zigzag_place j) 0) j) tt j h)

pub place_below : (j : ℕ) → j < 64 → zigzag_place j < 64
place_below j h = ltb→lt (zigzag_place j) 64 (each_place (λ j. ltb (zigzag_place j) 64) tt j h)

module _ (q : List ℕ) (l : List ℤ) where
  pub coefficient_at : (j : ℕ) → j < 64 → at (coefficients q l) j ≡ dequantized_at q l (zigzag_place j)
  unfolding coefficients
  coefficient_at j h = get_d_from (λ i. dequantized_at q l (zigzag_place i)) 0 64 j (pos 0) h ∙ ap (λ i. dequantized_at q l (zigzag_place i)) (none j)

  pub length_coefficients : length (coefficients q l) ≡ 64
  unfolding coefficients
  length_coefficients = length_from (λ i. dequantized_at q l (zigzag_place i)) 0 64

  -- level k, by its quantizer, stands at the natural place of zigzag place k
  pub level_at : (k : ℕ) → k < 64 → at (coefficients q l) (get_or zigzag k 0) ≡ dequantized_at q l k
  level_at k h = coefficient_at (get_or zigzag k 0) (zigzag_below k h) ∙ ap (dequantized_at q l) (zigzag_place_lem k h)

  -- every coefficient is at most the largest level by the largest quantizer
  pub coefficients_small : (A B : ℕ) → ((k : ℕ) → nat_abs (at l k) ≤ A) → ((k : ℕ) → get_or q k 0 ≤ B) → Within (A * B) (coefficients q l)
  unfolding coefficients from
  coefficients_small A B hl hq = record { each = go 0 64 }
    where
      go : (i m k : ℕ) → nat_abs (at (from (λ i. dequantized_at q l (zigzag_place i)) i m) k) ≤ A * B
      go i zero k = zero-le
      go i (suc m) zero = abs_mul (at l (zigzag_place i)) (pos (get_or q (zigzag_place i) 0)) (hl (zigzag_place i)) (hq (zigzag_place i))
      go i (suc m) (suc k) = go (suc i) m k
