-- How far the levels of a block reach: from there on all are 0, so a list is its first places and zeros.
use Prim.Native.Nat.{ℕ, zero, suc, ◌+◌, ◌-◌, ◌<◌, ◌≤◌}
use mathlib.Core.Path.{◌≡◌, refl, sym, ◌∙◌, ap}
use mathlib.Core.Bool.{Bool, true, false}
use mathlib.Core.List.{List, [], ◌∷◌, ◌++◌, append_assoc}
use native.Mathlib.Nat.{not-suc-le-zero, le_of_suc-le-suc}
use native.Mathlib.Numerals.{add-one}
use native.Mathlib.Omega.{arith}
use lib.Dec.{ltb}
use lib.ListN.{length, get_or, take, drop, set, length-take, take-append-drop, get_or-eq_default}
use lib.Seq.{take-add, take-suc-set, get_or-take, drop-nil}
use lib.IntN.{ℤ, pos, negsuc, ◌*ℤ◌}
use borrow.Author.Tests.{ltb-true, ltb-false}
use Rattle.whole.specs.Lists.{list_of_cong}
use Rattle.reading.specs.Block.{zeros}
use Rattle.reading.specs.Code.Places.{is_zero, one_more, extent, places}
use Rattle.reading.specs.Transform.{coefficients, zigzag_place, dequantized_at, samples}
use Rattle.reading.specs.Code.Painted.{samples_to}

-- ---- the last level that is not 0, level by level

nonzero : (z : ℤ) → (z ≡ pos 0 → ⊥) → is_zero z ≡ false
nonzero (pos zero) h = absurd (h refl)
nonzero (pos (suc n)) h = refl
nonzero (negsuc n) h = refl

head_none : (z : ℤ) (n : ℕ) → one_more (is_zero z) n ≤ 0 → z ≡ pos 0
head_none (pos zero) n h = refl
head_none (pos (suc m)) n h = absurd (not-suc-le-zero h)
head_none (negsuc m) n h = absurd (not-suc-le-zero h)

tail_none : (t : Bool) (n : ℕ) → one_more t n ≤ 0 → n ≡ 0
tail_none true zero h = refl
tail_none true (suc n) h = absurd (not-suc-le-zero h)
tail_none false n h = absurd (not-suc-le-zero h)

tail_within : (t : Bool) (n k : ℕ) → one_more t n ≤ suc k → n ≤ k
tail_within true zero k h = omega arith
tail_within true (suc n) k h = omega arith
tail_within false n k h = omega arith

-- ---- zeros from a place on

-- the level at a place that the levels do not reach
pub extent_zero : (l : List ℤ) (k : ℕ) → extent l ≤ k → get_or l k (pos 0) ≡ pos 0
extent_zero [] k h = refl
extent_zero (z ∷ l) zero h = head_none z (extent l) h
extent_zero (z ∷ l) (suc k) h = extent_zero l k (tail_within (is_zero z) (extent l) k h)

all_zero : (l : List ℤ) → extent l ≤ 0 → l ≡ zeros (length l)
all_zero [] h = refl
all_zero (z ∷ l) h =
    let none : extent l ≤ 0 = omega (arith, tail_none (is_zero z) (extent l) h) in
    rw (head_none z (extent l) h) (ap (λ m. pos 0 ∷ m) (all_zero l none))

drop_zeros : (l : List ℤ) (k : ℕ) → extent l ≤ k → drop k l ≡ zeros (length l - k)
drop_zeros [] k h = let none : 0 - k ≡ 0 = omega arith in rw none (drop-nil k)
drop_zeros (z ∷ l) zero h = let all : suc (length l) - 0 ≡ suc (length l) = omega arith in rw all (all_zero (z ∷ l) h)
drop_zeros (z ∷ l) (suc k) h =
    let less : suc (length l) - suc k ≡ length l - k = omega arith in
    rw less (drop_zeros l k (tail_within (is_zero z) (extent l) k h))

take_zeros : (n m : ℕ) → n ≤ m → take n (zeros m) ≡ zeros n
take_zeros zero m h = refl
take_zeros (suc n) zero h = absurd (not-suc-le-zero h)
take_zeros (suc n) (suc m) h = ap (λ l. pos 0 ∷ l) (take_zeros n m (le_of_suc-le-suc h))

module _ (l : List ℤ) (k : ℕ) (h : extent l ≤ k) where
  -- the whole list
  pub reach_all : take k l ++ zeros (length l - k) ≡ l
  reach_all = ap (λ m. take k l ++ m) (sym (drop_zeros l k h)) ∙ take-append-drop k l

  -- n places further
  pub reach_take : (n : ℕ) → k + n ≤ length l → take (k + n) l ≡ take k l ++ zeros n
  reach_take n i =
      take-add k n l ∙ ap (λ m. take k l ++ m) (ap (take n) (drop_zeros l k h) ∙ take_zeros n (length l - k) (omega arith))

  -- a level behind n zeros
  pub reach_put : (n : ℕ) (z : ℤ) → k + n < length l → take (k + n + 1) (set l (k + n) z) ≡ take k l ++ (zeros n ++ (z ∷ []))
  reach_put n z i =
      rw add-one (take-suc-set l (k + n) z i)
      ∙ ap (λ m. m ++ (z ∷ [])) (reach_take n (omega arith))
      ∙ append_assoc (take k l) (zeros n) (z ∷ [])

-- ---- a level is put at a place from which on all are 0

extent_set : (l : List ℤ) (i : ℕ) (z : ℤ) → i < length l → extent l ≤ i → (z ≡ pos 0 → ⊥) → extent (set l i z) ≡ suc i
extent_set [] i z h q n = absurd (not-suc-le-zero h)
extent_set (x ∷ l) zero z h q n = rw (nonzero z n, tail_none (is_zero x) (extent l) q)
extent_set (x ∷ l) (suc i) z h q n = rw (extent_set l i z (le_of_suc-le-suc h) (tail_within (is_zero x) (extent l) i q) n) (go (is_zero x))
  where
    go : (t : Bool) → one_more t (suc i) ≡ suc (suc i)
    go true = refl
    go false = refl

extent_first : (l : List ℤ) (z : ℤ) → extent l ≤ 0 → extent (set l 0 z) ≤ 1
extent_first [] z q = omega arith
extent_first (x ∷ l) z q = rw (tail_none (is_zero x) (extent l) q) (go (is_zero z))
  where
    go : (t : Bool) → one_more t 0 ≤ 1
    go true = omega arith
    go false = omega arith

-- the levels reach one place further than where the last one was put
pub record Reached (l : List ℤ) (n : ℕ) : Type 0 where
  pub quiet : extent l ≤ n
  pub many : places l ≡ n

pub reached_put : (l : List ℤ) (i : ℕ) (z : ℤ) → i < length l → extent l ≤ i → (0 < i → z ≡ pos 0 → ⊥) → Reached (set l i z) (i + 1)
unfolding places
reached_put l zero z h q n =
    let m : extent (set l 0 z) ≤ 1 = extent_first l z q in
    record { quiet = m; many = omega arith }
reached_put l (suc i) z h q n =
    let m : extent (set l (suc i) z) ≡ suc (suc i) = extent_set l (suc i) z h q (n (omega arith)) in
    record { quiet = omega arith; many = omega arith }

-- ---- the places of a block say all of its levels

module _ (l : List ℤ) where
  within : extent l ≤ places l
  unfolding places
  within = omega arith

  pub places_some : 0 < places l
  unfolding places
  places_some = omega arith

  pub places_zero : (k : ℕ) → places l ≤ k → get_or l k (pos 0) ≡ pos 0
  places_zero k h = extent_zero l k (omega (arith, within))

  places_at : (k : ℕ) → get_or (take (places l) l) k (pos 0) ≡ get_or l k (pos 0)
  places_at k = go (ltb k (places l)) refl
    where
      go : (t : Bool) → ltb k (places l) ≡ t → get_or (take (places l) l) k (pos 0) ≡ get_or l k (pos 0)
      go true e = get_or-take (places l) l k (pos 0) (ltb-true k (places l) e)
      go false e =
          let out : length (take (places l) l) ≤ k = omega (arith, length-take (places l) l, ltb-false k (places l) e) in
          get_or-eq_default (take (places l) l) (pos 0) out ∙ sym (places_zero k (ltb-false k (places l) e))

  -- so the transform needs no others
  pub places_enough : (q : List ℕ) → coefficients q (take (places l) l) ≡ coefficients q l
  unfolding coefficients
  places_enough q =
      list_of_cong 64 (λ i. dequantized_at q (take (places l) l) (zigzag_place i)) (λ i. dequantized_at q l (zigzag_place i))
      (λ i h. ap (λ z. z *ℤ pos (get_or q (zigzag_place i) 0)) (places_at (zigzag_place i)))

  pub samples_enough : (q : List ℕ) → samples_to q l (places l) ≡ samples (coefficients q l)
  unfolding samples_to
  samples_enough q = ap samples (places_enough q)
