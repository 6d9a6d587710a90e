-- The coefficients of a block's first levels: one more level is one more store, and a block of which only the first level counts has one
-- sample at all its places. Assumes nothing.
use mathlib.Core.Path.{◌≡◌, refl, sym, ◌∙◌, ap, ap₂, subst}
use mathlib.Core.Bool.{Bool, true, false}
use mathlib.Core.List.{List, [], ◌∷◌, ◌++◌}
use Prim.Native.Nat.{ℕ, zero, suc, ◌+◌, ◌*◌, ◌/◌, ◌%◌, ◌≤◌, ◌<◌, zero-le}
use native.Mathlib.Decide.{ℕ_discrete}
use native.Mathlib.Omega.{arith}
use borrow.Author.Tests.{ltb-true, ltb-false, lt-ltb, le-ltb}
use lib.Dec.{ltb}
use lib.ListN.{get_or, length, set, take, drop, replicate, length-set, length-replicate, get_or-replicate, get_or-map, get_or-eq_default}
use lib.Seq.{get_or-set_same, get_or-set_other, ext_get_or, get_or-take}
use lib.IntN.{ℤ, pos, nat_abs, ◌+ℤ◌, ◌*ℤ◌, +ℤ_idr, zero-*ℤ}
use Rattle.whole.specs.Ring.{*ℤ_assoc}
use Rattle.whole.specs.Expressions.{at, Within}
use Rattle.whole.specs.Lists.{list_of, is_list_of, list_of_cong}
use Rattle.reading.specs.Tests.{over}
use Rattle.reading.specs.Transform.{zigzag, zigzag_place, dequantized_at, coefficients, basis, plane, sample_of, samples}
use Rattle.reading.specs.Code.Painted.{samples_to, painted}
use Rattle.reading.proofs.Zigzag.{zigzag_place_lem, place_zigzag, place_below}
pub use Rattle.reading.proofs.Zigzag.{zigzag_below}
use Rattle.reading.proofs.Zigzag as zig
use Rattle.jpeg_transform.proofs.Stores.{filled}
use Rattle.reading.proofs.DoubleSum.{sum_of, sum_zero, basis_at, double_sum, double_sum_lem}

-- ---- one level more

take_past : {A : Type 0} (n : ℕ) (l : List A) (i : ℕ) (d : A) → n ≤ i → get_or (take n l) i d ≡ d
take_past zero l i d h = refl
take_past (suc n) [] i d h = refl
take_past (suc n) (x ∷ l) zero d h = absurd (none h)
  where
    none : suc n ≤ 0 → ⊥
    none h = omega arith
take_past (suc n) (x ∷ l) (suc i) d h = take_past n l i d (omega arith)

-- away from place n it does not matter whether the level there counts
take_apart : {A : Type 0} (n : ℕ) (l : List A) (i : ℕ) (d : A) → (i ≡ n → ⊥) → get_or (take n l) i d ≡ get_or (take (n + 1) l) i d
take_apart n l i d ne = go (ltb i n) refl
  where
    go : (b : Bool) → ltb i n ≡ b → get_or (take n l) i d ≡ get_or (take (n + 1) l) i d
    go true b = get_or-take n l i d (ltb-true i n b) ∙ sym (get_or-take (n + 1) l i d (omega (arith, ltb-true i n b)))
    go false b = take_past n l i d (ltb-false i n b) ∙ sym (take_past (n + 1) l i d (more (ltb-false i n b)))
      where
        more : n ≤ i → n + 1 ≤ i
        more h = omega (arith, ne)

module _ (q : List ℕ) (l : List ℤ) where
  pub coefficient_at : (n j : ℕ) → j < 64 → at (coefficients q (take n l)) j ≡ dequantized_at q (take n l) (zigzag_place j)
  coefficient_at n j h = zig.coefficient_at q (take n l) j h

  pub length_coefficients : (n : ℕ) → length (coefficients q (take n l)) ≡ 64
  length_coefficients n = zig.length_coefficients q (take n l)

  pub coefficients_none : replicate 64 (pos 0) ≡ coefficients q (take 0 l)
  unfolding coefficients
  coefficients_none =
      is_list_of (pos 0) (replicate 64 (pos 0)) 64 (λ i. dequantized_at q [] (zigzag_place i)) (length-replicate 64 (pos 0))
      (λ i h. get_or-replicate 64 i (pos 0) (pos 0) h ∙ sym (zero-*ℤ (pos (get_or q (zigzag_place i) 0))))

  pub coefficients_next : (k : ℕ) → k < 64
      → set (coefficients q (take k l)) (get_or zigzag k 0) (dequantized_at q l k) ≡ coefficients q (take (k + 1) l)
  coefficients_next k h =
      ext_get_or (pos 0) (set C z v) D (length-set C z v ∙ length_coefficients k ∙ sym (length_coefficients (k + 1)))
      (λ j p. go j (subst (λ n. j < n) (length-set C z v ∙ length_coefficients k) p) (ℕ_discrete j z))
    where
      C : List ℤ
      C = coefficients q (take k l)

      D : List ℤ
      D = coefficients q (take (k + 1) l)

      z : ℕ
      z = get_or zigzag k 0

      v : ℤ
      v = dequantized_at q l k

      go : (j : ℕ) → j < 64 → Dec (j ≡ z) → at (set C z v) j ≡ at D j
      go j p (yes e) =
          ap (at (set C z v)) e ∙ get_or-set_same C z v (pos 0) (rw (length_coefficients k) (zigzag_below k h))
          ∙ ap (λ x. x *ℤ pos (get_or q k 0)) (sym (get_or-take (k + 1) l k (pos 0) (omega arith)))
          ∙ ap (dequantized_at q (take (k + 1) l)) (sym (zigzag_place_lem k h)) ∙ sym (coefficient_at (k + 1) z (zigzag_below k h))
          ∙ ap (at D) (sym e)
      go j p (no ne) =
          get_or-set_other C z j v (pos 0) ne ∙ coefficient_at k j p
          ∙ ap (λ x. x *ℤ pos (get_or q (zigzag_place j) 0))
          (take_apart k l (zigzag_place j) (pos 0) (λ e. ne (sym (place_zigzag j p) ∙ ap (λ m. get_or zigzag m 0) e)))
          ∙ sym (coefficient_at (k + 1) j p)

  -- there are 64 places: more levels than that do not count
  pub coefficients_all : (k n : ℕ) → 64 ≤ k → 64 ≤ n → coefficients q (take k l) ≡ coefficients q (take n l)
  unfolding coefficients
  coefficients_all k n h p =
      list_of_cong 64 (λ i. dequantized_at q (take k l) (zigzag_place i)) (λ i. dequantized_at q (take n l) (zigzag_place i))
      (λ i r. ap (λ x. x *ℤ pos (get_or q (zigzag_place i) 0))
      (get_or-take k l (zigzag_place i) (pos 0) (inside k i r h) ∙ sym (get_or-take n l (zigzag_place i) (pos 0) (inside n i r p))))
    where
      inside : (m i : ℕ) → i < 64 → 64 ≤ m → zigzag_place i < m
      inside m i r h = omega (arith, place_below i r, h)

  -- every coefficient is at most the largest level by the largest quantizer
  pub coefficients_small : (A B n : ℕ) → ((k : ℕ) → nat_abs (at l k) ≤ A) → ((k : ℕ) → get_or q k 0 ≤ B) → Within (A * B) (coefficients q (take n l))
  coefficients_small A B n hl hq = zig.coefficients_small q (take n l) A B taken hq
    where
      taken : (k : ℕ) → nat_abs (at (take n l) k) ≤ A
      taken k = go (ltb k n) refl
        where
          go : (b : Bool) → ltb k n ≡ b → nat_abs (at (take n l) k) ≤ A
          go true b = rw (get_or-take n l k (pos 0) (ltb-true k n b)) (hl k)
          go false b = rw (take_past n l k (pos 0) (ltb-false k n b)) zero-le

pub within_zeros : (B n : ℕ) → Within B (replicate n (pos 0))
within_zeros B n = record { each = go n }
  where
    go : (n i : ℕ) → nat_abs (at (replicate n (pos 0)) i) ≤ B
    go zero i = zero-le
    go (suc n) zero = zero-le
    go (suc n) (suc i) = go n i

pub within_set : {B : ℕ} {l : List ℤ} (i : ℕ) (z : ℤ) → Within B l → nat_abs z ≤ B → Within B (set l i z)
within_set {B} {l} i z h p = record { each = go l h.each i }
  where
    go : (l : List ℤ) → ((j : ℕ) → nat_abs (at l j) ≤ B) → (i j : ℕ) → nat_abs (at (set l i z) j) ≤ B
    go [] h i j = zero-le
    go (x ∷ l) h zero zero = p
    go (x ∷ l) h zero (suc j) = h (suc j)
    go (x ∷ l) h (suc i) zero = h 0
    go (x ∷ l) h (suc i) (suc j) = go l (λ k. h (suc k)) i j

-- ---- the first level alone

-- all but the first are 0
pub record RestZero (c : List ℤ) : Type 0 where
  pub rest : (j : ℕ) → at c (suc j) ≡ pos 0

pub first_is : (q : List ℕ) (l : List ℤ) → at (coefficients q (take 1 l)) 0 ≡ dequantized_at q l 0
first_is q l = coefficient_at q l 1 0 (omega arith) ∙ ap (λ x. x *ℤ pos (get_or q 0 0)) (get_or-take 1 l 0 (pos 0) (omega arith))

pub rest_zero : (q : List ℕ) (l : List ℤ) → RestZero (coefficients q (take 1 l))
rest_zero q l = record { rest = λ j. go j (ltb (suc j) 64) refl }
  where
    later : (j : ℕ) → suc j < 64 → 1 ≤ zigzag_place (suc j)
    later j h = go (zigzag_place (suc j)) (place_zigzag (suc j) h)
      where
        go : (m : ℕ) → get_or zigzag m 0 ≡ suc j → 1 ≤ m
        go zero e = omega arith
        go (suc m) e = omega arith

    go : (j : ℕ) (b : Bool) → ltb (suc j) 64 ≡ b → at (coefficients q (take 1 l)) (suc j) ≡ pos 0
    go j true b =
        coefficient_at q l 1 (suc j) (ltb-true (suc j) 64 b)
        ∙ ap (λ x. x *ℤ pos (get_or q (zigzag_place (suc j)) 0)) (take_past 1 l (zigzag_place (suc j)) (pos 0) (later j (ltb-true (suc j) 64 b)))
        ∙ zero-*ℤ (pos (get_or q (zigzag_place (suc j)) 0))
    go j false b = get_or-eq_default (coefficients q (take 1 l)) (pos 0) (omega (arith, length_coefficients q l 1, ltb-false (suc j) 64 b))

sum_first : (n : ℕ) (f : ℕ → ℤ) → ((j : ℕ) → f (suc j) ≡ pos 0) → sum_of (suc n) f ≡ f 0
unfolding sum_of
sum_first n f h = ap (λ z. f 0 +ℤ z) (sum_zero n (λ j. f (suc j)) h) ∙ +ℤ_idr (f 0)

-- the first input's weight is the same in every output
first_weight : (x : ℕ) → x < 8 → basis_at x 0 ≡ pos 11585
unfolding basis
first_weight x h = sym (get_or-map (λ r. at r 0) basis x []) ∙ get_or-replicate 8 x (pos 11585) (pos 0) h

module _ (c : List ℤ) (z : RestZero c) where
  flat_plane : (y x : ℕ) → y < 8 → x < 8 → plane c y x ≡ at c 0 *ℤ pos 134212225
  unfolding double_sum
  flat_plane y x hy hx =
      double_sum_lem c y x
      ∙ sum_first 7 (λ v. sum_of 8 (λ u. at c (8 * v + u) *ℤ basis_at x u *ℤ basis_at y v))
      (λ v. sum_zero 8 (λ u. at c (8 * suc v + u) *ℤ basis_at x u *ℤ basis_at y (suc v)) (λ u. past v u))
      ∙ sum_first 7 (λ u. at c (8 * 0 + u) *ℤ basis_at x u *ℤ basis_at y 0) (λ u. beside u)
      ∙ ap₂ (λ a b. at c 0 *ℤ a *ℤ b) (first_weight x hx) (first_weight y hy) ∙ *ℤ_assoc (at c 0) (pos 11585) (pos 11585)
    where
      gone : (m : ℕ) (a b : ℤ) → 0 < m → at c m *ℤ a *ℤ b ≡ pos 0
      gone zero a b h = let f : ⊥ = omega arith in absurd f
      gone (suc m) a b h = ap (λ w. w *ℤ a *ℤ b) (z.rest m) ∙ ap (λ w. w *ℤ b) (zero-*ℤ a) ∙ zero-*ℤ b

      past : (v u : ℕ) → at c (8 * suc v + u) *ℤ basis_at x u *ℤ basis_at y (suc v) ≡ pos 0
      past v u = gone (8 * suc v + u) (basis_at x u) (basis_at y (suc v)) (omega arith)

      beside : (u : ℕ) → at c (8 * 0 + suc u) *ℤ basis_at x (suc u) *ℤ basis_at y 0 ≡ pos 0
      beside u = gone (8 * 0 + suc u) (basis_at x (suc u)) (basis_at y 0) (omega arith)

  pub flat_samples : list_of 64 (λ k. sample_of (at c 0 *ℤ pos 134212225)) ≡ samples c
  unfolding samples
  flat_samples =
      list_of_cong 64 (λ k. sample_of (at c 0 *ℤ pos 134212225)) (λ k. sample_of (plane c (k / 8) (k % 8)))
      (λ k h. ap sample_of (sym (flat_plane (k / 8) (k % 8) (omega arith) (omega arith))))

-- ---- what is painted

module _ (q : List ℕ) (l : List ℤ) (n : ℕ) (out : List ℕ) where
  pub painted_short : length out < 64 → out ≡ painted q l n out
  unfolding painted
  painted_short h = simp (lt-ltb (length out) 64 h)

  pub painted_long : 64 ≤ length out → over (samples (coefficients q (take n l))) out ≡ painted q l n out
  unfolding painted samples_to
  painted_long h = simp (le-ltb (length out) 64 h)

-- a block of which the first level alone counts: z is its coefficient, b the sample
pub flat_painted : (q : List ℕ) (l : List ℤ) (out : List ℕ) {xs : List ℕ} {z : ℤ} {b : ℕ} → 64 ≤ length out → z ≡ dequantized_at q l 0
    → b ≡ sample_of (z *ℤ pos 134212225) → xs ≡ replicate 64 b → xs ++ drop 64 out ≡ painted q l 1 out
flat_painted q l out long e h g =
    let c = coefficients q (take 1 l) in
    filled out g (h ∙ ap (λ w. sample_of (w *ℤ pos 134212225)) (e ∙ sym (first_is q l))) ∙ ap (λ xs. over xs out) (flat_samples c (rest_zero q l))
    ∙ painted_long q l 1 out long
