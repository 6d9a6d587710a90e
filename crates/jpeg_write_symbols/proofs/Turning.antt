-- What stands next of a block, one law for each way through: the category of a value, the turn, and the loop that counts zeros.
use Prim.Native.Nat.{ℕ, zero, suc, ◌+◌, ◌*◌, ◌-◌, ◌^◌, ◌<◌, ◌≤◌, min}
use mathlib.Core.Path.{◌≡◌, refl, sym, ap, ◌∙◌, subst}
use mathlib.Core.Bool.{Bool, true, false, cond}
use mathlib.Core.List.{List, ◌∷◌}
use native.Mathlib.Omega.{arith}
use native.Mathlib.Numerals.{add-one}
use native.Mathlib.Nat.{le_trans, add-zero}
use lib.Dec.{eqb, ltb, leb}
use lib.IntN.{ℤ, pos, nat_abs}
use lib.ListN.{length, drop, get_or, drop_of_length-le}
use lib.Seq.{drop-cons}
use lib.Pow.{pow_mono}
use lib.Count.{count_leading_zeros, leading_length}
use borrow.Author.Tests.{eq-eqb, ne_eqb, le-ltb, le-leb, lt-leb, ltb-true, ltb-false, leb-true, leb-false}
use Rattle.whole.specs.Powers.{twice_pow}
use Rattle.reading.specs.Settled.{size_from, field_of}
use Rattle.jpeg_write_symbols.specs.declared.Turn.{Turn}
use Rattle.jpeg_write_symbols.specs.Turns.{category_of, zeros_of, zeros_at, value_at, plain_turn, value_turn, turn_at}

-- ---- categories

size_few : (fuel n m : ℕ) → size_from fuel n m ≤ n + fuel
size_few zero n m = omega arith
size_few (suc fuel) n m = go (ltb m (2 ^ n)) (size_few fuel (suc n) m)
  where
    go : (t : Bool) → size_from fuel (suc n) m ≤ suc n + fuel → cond t n (size_from fuel (suc n) m) ≤ n + suc fuel
    go true h = omega arith
    go false h = omega arith

pub category_few : (m : ℕ) → category_of m ≤ 12
unfolding category_of
category_few m = size_few 12 0 m

-- the length of m in bits is the first that the search meets
size_length : (fuel n m k : ℕ) → n ≤ k → k ≤ n + fuel → m < 2 ^ k → 2 ^ k ≤ 2 * m + 1 → size_from fuel n m ≡ k
size_length zero n m k a b h l = omega arith
size_length (suc fuel) n m k a b h l = go (ltb m (2 ^ n)) refl (λ c. size_length fuel (suc n) m k c (omega arith) h l)
  where
    go : (t : Bool) → ltb m (2 ^ n) ≡ t → (suc n ≤ k → size_from fuel (suc n) m ≡ k) → cond t n (size_from fuel (suc n) m) ≡ k
    go true e ih = at (ltb n k) refl
      where
        at : (t : Bool) → ltb n k ≡ t → n ≡ k
        at true f = let z : ⊥ = omega (arith, ltb-true m (2 ^ n) e, pow_mono {i = suc n} {j = k} (ltb-true n k f), twice_pow n, l) in absurd z
        at false f = omega (arith, ltb-false n k f)
    go false e ih = at (ltb n k) refl
      where
        at : (t : Bool) → ltb n k ≡ t → size_from fuel (suc n) m ≡ k
        at true f = ih (ltb-true n k f)
        at false f = let z : ⊥ = omega (arith, ltb-false m (2 ^ n) e, pow_mono {i = k} {j = n} (ltb-false n k f), h) in absurd z

size_over : (fuel n m : ℕ) → 2 ^ (n + fuel) ≤ m → size_from fuel n m ≡ n + fuel
size_over zero n m h = omega arith
size_over (suc fuel) n m h =
    rw (le-ltb m (2 ^ n) (le_trans (pow_mono {i = n} {j = n + suc fuel} (omega arith)) h))
    (size_over fuel (suc n) m (subst (λ k. 2 ^ k ≤ m) there h) ∙ sym there)
  where
    there : n + suc fuel ≡ suc n + fuel
    there = omega arith

-- a number's length in bits is its smallest category, up to 12
pub category_is : (m : ℕ) {n : ℕ} → m < 18446744073709551616 → n ≡ min (64 - count_leading_zeros 64 m) 12 → n ≡ category_of m
unfolding category_of
category_is m {n} h e = go (leading_length 64 m h)
  where
    go : (k : ℕ) × (count_leading_zeros 64 m + k ≡ 64) × (m < 2 ^ k) × (2 ^ k ≤ 2 * m + 1) → n ≡ size_from 12 0 m
    go s = at (leb s.0 12) refl
      where
        at : (t : Bool) → leb s.0 12 ≡ t → n ≡ size_from 12 0 m
        at true f =
            let low : s.0 ≤ 12 = leb-true s.0 12 f in
            let is : n ≡ s.0 = omega (arith, s.1, e) in
            is ∙ sym (size_length 12 0 m s.0 (omega arith) low s.2 s.3)
        at false f =
            let high : 13 ≤ s.0 = leb-false s.0 12 f in
            let is : n ≡ 12 = omega (arith, s.1, e) in
            is ∙ sym (size_over 12 0 m (omega (arith, pow_mono {i = 13} {j = s.0} high, s.3)))

-- ---- the turns

module _ (l : List ℤ) (p : ℤ) (k run : ℕ) where
  pub turn_end : length l ≤ k → plain_turn 0 k 0 ≡ turn_at l p k run
  unfolding turn_at
  turn_end h = rw (le-leb (length l) k h)

  module _ (h : k < length l) where
    pub turn_skip : 16 ≤ run → plain_turn 240 k (run - 16) ≡ turn_at l p k run
    unfolding turn_at
    turn_skip g = rw (lt-leb (length l) k h, le-leb 16 run g)

    pub value_turn_lem : run < 16 → value_turn run (value_at l p k) k ≡ turn_at l p k run
    unfolding turn_at
    value_turn_lem g = rw (lt-leb (length l) k h, lt-leb 16 run g)

    -- in the code's terms
    pub turn_value : {d : ℤ} {m n f : ℕ} → run < 16 → d ≡ value_at l p k → m ≡ nat_abs d → n ≡ category_of m → f ≡ field_of n d
        → ◌≡◌ {A = Turn} (record { symbol = 16 * run + n; field = f; size = n; place = k + 1; run = 0 }) (turn_at l p k run)
    unfolding value_turn category_of
    turn_value {d} {m} {n} {f} g e a b c = rw (c, b, a, e) (value_turn_lem g)

-- ---- zeros

pub zeros_first : (l : List ℤ) (k : ℕ) → k ≡ 0 → 0 ≡ zeros_at l k
unfolding zeros_at
zeros_first l k e = rw e

pub zeros_start : (l : List ℤ) (k : ℕ) → (k ≡ 0 → ⊥) → zeros_at l k ≡ k - k + zeros_of (drop k l)
unfolding zeros_at
zeros_start l zero e = absurd (e refl)
zeros_start l (suc k) e = none (zeros_of (drop (suc k) l))
  where
    none : (n : ℕ) → n ≡ suc k - suc k + n
    none n = omega arith

-- the levels from place k to j are zero, and j goes no further than the levels
pub record Walk (l : List ℤ) (k j : ℕ) : Type 0 where
  pub past : k ≤ j
  pub within : j - length l ≤ k - length l
  pub same : zeros_at l k ≡ j - k + zeros_of (drop j l)

-- the loop that counts them, in the code's terms
module _ (l : List ℤ) (k j : ℕ) (a : k ≤ j) (same : zeros_at l k ≡ j - k + zeros_of (drop j l)) where
  pub zeros_past : length l ≤ j → j - k ≡ zeros_at l k
  unfolding zeros_of
  zeros_past h = sym (same ∙ ap (λ m. j - k + zeros_of m) (drop_of_length-le l h) ∙ add-zero (j - k))

  module _ (h : j < length l) where
    here : drop j l ≡ get_or l j (pos 0) ∷ drop (suc j) l
    here = drop-cons l j (pos 0) h

    pub zeros_end : (nat_abs (get_or l j (pos 0)) ≡ 0 → ⊥) → j - k ≡ zeros_at l k
    unfolding zeros_of
    zeros_end e = sym (same ∙ ap (λ m. j - k + zeros_of m) here ∙ ap (λ t. j - k + cond t (suc (zeros_of (drop (suc j) l))) 0) (ne_eqb (nat_abs (get_or l j (pos 0))) 0 e) ∙ add-zero (j - k))

    pub zeros_more : nat_abs (get_or l j (pos 0)) ≡ 0 → zeros_at l k ≡ j + 1 - k + zeros_of (drop (j + 1) l)
    unfolding zeros_of
    zeros_more e =
        same ∙ ap (λ m. j - k + zeros_of m) here
        ∙ ap (λ t. j - k + cond t (suc (zeros_of (drop (suc j) l))) 0) (eq-eqb (nat_abs (get_or l j (pos 0))) 0 e)
        ∙ one_more (zeros_of (drop (suc j) l))
        ∙ ap (λ n. j + 1 - k + zeros_of (drop n l)) (sym (add-one j))
      where
        one_more : (n : ℕ) → j - k + suc n ≡ j + 1 - k + n
        one_more n = omega arith
