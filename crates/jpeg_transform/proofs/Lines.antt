-- A line in halves: every operation fits, and the eight outputs are the sums over the basis. Assumes nothing.
use mathlib.Core.Path.{◌≡◌, refl, sym, ◌∙◌, ap, ap₂, subst}
use mathlib.Core.Bool.{true}
use mathlib.Core.List.{List, [], ◌∷◌, map}
use Prim.Native.Nat.{ℕ, zero, suc, ◌+◌, ◌^◌, ◌≤◌, ◌<◌}
use native.Mathlib.Nat.{le_trans, zero-add}
use native.Mathlib.Omega.{arith}
use lib.Bits.{bit_or, or_add_and, and_le_l, and_le_r}
use lib.Dec.{T, leb, leb→le}
use lib.IntN.{ℤ, pos, nat_abs, ◌+ℤ◌, ◌*ℤ◌, +ℤ_idr, zero-*ℤ}
use lib.ListN.{length, get_or, drop, replicate, get_or-replicate}
use mir.Syntax.{w64}
use mir.Val.{SFits, to_z, of_z}
use mir.Facts.{and_yes, to_z-of_z}
use Rattle.whole.specs.Expressions.{Exp, at, value, machine_bits, Within, within_nil, within_cons, safe, all_safe}
use Rattle.whole.specs.Expressions.{size, bounded, Fine, fine, exact, fits_abs, dot, coeffs, Pure, weighted}
use Rattle.whole.specs.Lists.{from, list_of, get_d_from}
use Rattle.whole.specs.Signs.{zero_bits}
use Rattle.reading.specs.Tests.{all}
use Rattle.reading.specs.Transform.{basis}
use Rattle.reading.proofs.Plain.{and_left, and_right}
use Rattle.jpeg_transform.specs.declared.Four.{Four}
use Rattle.jpeg_transform.specs.Halves.{even0, even1, even2, even3, even_of, odds0, odds1, odds2, odds3}
use Rattle.jpeg_transform.specs.Halves.{odd_by, weighed, odd_of, sums, of_even, of_odd, outputs, halves, joined}
use Rattle.jpeg_transform.specs.Passes.{spaced, lines}

-- ---- bits of several numbers together

-- the bits that one of the numbers has, as `a | b | ..` computes them
abbrev pub or_from : ℕ → List ℕ → ℕ
or_from a [] = a
or_from a (b ∷ bs) = or_from (bit_or a b) bs

or_none : (a b : ℕ) → bit_or a b ≡ 0 → (a ≡ 0) × (b ≡ 0)
or_none a b e = (omega (arith, e, or_add_and a b, and_le_r a b), omega (arith, e, or_add_and a b, and_le_l a b))

-- where there is none, each number is 0
or_each : (a : ℕ) (bs : List ℕ) → or_from a bs ≡ 0 → (j : ℕ) → get_or (a ∷ bs) j 0 ≡ 0
or_each a [] e zero = e
or_each a [] e (suc j) = refl
or_each a (b ∷ bs) e zero = (or_none a b (or_each (bit_or a b) bs e 0)).0
or_each a (b ∷ bs) e (suc zero) = (or_none a b (or_each (bit_or a b) bs e 0)).1
or_each a (b ∷ bs) e (suc (suc j)) = or_each (bit_or a b) bs e (suc j)

-- ---- one half

-- the bound of each input: 2^40
abbrev pub L : ℕ → ℕ
L i = 2 ^ 40

module _ {l : List ℤ} (small : Within (2 ^ 40) l) where
  pub ok : (e : Exp) → T (safe w64 L e) → Fine w64 (at l) e
  ok e t = fine w64 (at l) L small.each e t

  read : (e : Exp) → T (safe w64 L e) → to_z w64 (machine_bits w64 (at l) e) ≡ value (at l) e
  read e t = exact w64 (at l) L small.each e t

  -- the four results of a half, as the machine has them
  pub four : (p q r s : Exp) → T (all_safe w64 L (p ∷ q ∷ r ∷ s ∷ []))
      → ◌≡◌ {A = Four} (
        to_z w64 (machine_bits w64 (at l) p),
        to_z w64 (machine_bits w64 (at l) q),
        to_z w64 (machine_bits w64 (at l) r),
        to_z w64 (machine_bits w64 (at l) s),
      )
      (value (at l) p, value (at l) q, value (at l) r, value (at l) s)
  four p q r s t =
      let a = and_yes (safe w64 L p) (all_safe w64 L (q ∷ r ∷ s ∷ [])) t in
      let b = and_yes (safe w64 L q) (all_safe w64 L (r ∷ s ∷ [])) a.1 in
      let c = and_yes (safe w64 L r) (all_safe w64 L (s ∷ [])) b.1 in
      let d = and_yes (safe w64 L s) true c.1 in
      rw (read p a.0, read q b.0, read r c.0, read s d.0) refl

-- ---- the inputs of a line, as a half is given them

module _ (f : ℕ → ℤ) (small : (i : ℕ) → nat_abs (f i) ≤ 2 ^ 40) where
  -- an input as the machine reads it back
  abbrev pub lent : ℕ → ℤ
  lent i = to_z w64 (of_z w64 (f i))

  input_fits : (i : ℕ) → SFits w64 (f i)
  input_fits i = fits_abs (small i) tt

  pub lent_is : (i : ℕ) → lent i ≡ f i
  lent_is i = to_z-of_z (input_fits i)

  pub lent_small : (i j k m : ℕ) → Within (2 ^ 40) (lent i ∷ lent j ∷ lent k ∷ lent m ∷ [])
  lent_small i j k m = one i (one j (one k (one m within_nil)))
    where
      one : (i : ℕ) {l : List ℤ} → Within (2 ^ 40) l → Within (2 ^ 40) (lent i ∷ l)
      one i h = within_cons (lent i) (rw (lent_is i) (small i)) h

  pub half_is : (g : ℤ → ℤ → ℤ → ℤ → Four) (i j k m : ℕ) {r : Four} → r ≡ g (lent i) (lent j) (lent k) (lent m) → r ≡ g (f i) (f j) (f k) (f m)
  half_is g i j k m e = e ∙ rw (lent_is i, lent_is j, lent_is k, lent_is m) refl

  -- the test of a row: seven inputs are 0 where no bit of any of them is 1
  pub rest_none : or_from (of_z w64 (f 1)) (from (λ i. of_z w64 (f i)) 2 6) ≡ 0 → (j : ℕ) → j < 7 → f (suc j) ≡ pos 0
  unfolding from
  rest_none e j h =
      zero_bits w64 (input_fits (suc j)).sfits
      (ap (λ i. of_z w64 (f i)) (next j) ∙ sym (get_d_from (λ i. of_z w64 (f i)) 1 7 j 0 h)
      ∙ or_each (of_z w64 (f 1)) (from (λ i. of_z w64 (f i)) 2 6) e j)
    where
      next : (j : ℕ) → suc j ≡ 1 + j
      next j = omega arith

  -- the test of a column: its lower four inputs are 0 where no bit of any of them is 1
  pub lower_none : or_from (of_z w64 (f 4)) (from (λ i. of_z w64 (f i)) 5 3) ≡ 0 → (j : ℕ) → j < 4 → f (4 + j) ≡ pos 0
  unfolding from
  lower_none e j h =
      zero_bits w64 (input_fits (4 + j)).sfits
      (sym (get_d_from (λ i. of_z w64 (f i)) 4 4 j 0 h) ∙ or_each (of_z w64 (f 4)) (from (λ i. of_z w64 (f i)) 5 3) e j)

-- ---- a line whose first input alone is not 0

dot_none : (f : ℕ → ℤ) → ((j : ℕ) → j < 7 → f (suc j) ≡ pos 0) → (ks : List ℤ) (i : ℕ) → i + length ks ≤ 7 → dot ks f (suc i) ≡ pos 0
dot_none f h [] i p = refl
dot_none f h (k ∷ ks) i p = ap₂ (λ x y. x +ℤ y) (ap (λ x. x *ℤ k) (h i (omega arith)) ∙ zero-*ℤ k) (dot_none f h ks (suc i) (omega arith))

firsts : (f : ℕ → ℤ) → ((j : ℕ) → j < 7 → f (suc j) ≡ pos 0) → (k : ℤ) (rs : List (List ℤ)) → T (all (λ r. leb (length r) 7) rs)
    → map (λ (ks : List ℤ). dot (k ∷ ks) f 0) rs ≡ replicate (length rs) (f 0 *ℤ k)
firsts f h k [] t = refl
firsts f h k (r ∷ rs) t =
    ap₂ (λ (x : ℤ) (l : List ℤ). x ∷ l)
    (ap (λ y. f 0 *ℤ k +ℤ y) (dot_none f h r 0
    (subst (λ n. n ≤ 7) (sym (zero-add (length r))) (leb→le (length r) 7 (and_left (leb (length r) 7) (all (λ r. leb (length r) 7) rs) t))))
    ∙ +ℤ_idr (f 0 *ℤ k))
    (firsts f h k rs (and_right (leb (length r) 7) (all (λ r. leb (length r) 7) rs) t))

pub lines_flat : (f : ℕ → ℤ) → ((j : ℕ) → j < 7 → f (suc j) ≡ pos 0) → lines f ≡ replicate 8 (f 0 *ℤ pos 11585)
unfolding lines basis
lines_flat f h = firsts f h (pos 11585) (map (drop 1) basis) tt

-- ---- a line's inputs in a list

pub lines_cong : (f g : ℕ → ℤ) → ((j : ℕ) → j < 8 → f j ≡ g j) → lines f ≡ lines g
unfolding lines basis
lines_cong f g h =
    rw (
      h 0 (omega arith),
      h 1 (omega arith),
      h 2 (omega arith),
      h 3 (omega arith),
      h 4 (omega arith),
      h 5 (omega arith),
      h 6 (omega arith),
      h 7 (omega arith),
    )
    refl

module _ (l : List ℤ) (i s : ℕ) {xs : List ℤ} (are : xs ≡ list_of 8 (spaced l i s)) where
  pub inputs_small : {B : ℕ} → Within B l → Within B xs
  unfolding from
  inputs_small h = rw are
      (within_cons _ (h.each i) (within_cons _ (h.each _) (within_cons _ (h.each _) (within_cons _ (h.each _)
      (within_cons _ (h.each _) (within_cons _ (h.each _) (within_cons _ (h.each _) (within_cons _ (h.each _) within_nil))))))))

  pub inputs_lines : lines (at xs) ≡ lines (spaced l i s)
  inputs_lines = lines_cong (at xs) (spaced l i s)
      (λ j h. ap (λ ys. at ys j) are ∙ get_d_from (spaced l i s) 0 8 j (pos 0) h ∙ ap (spaced l i s) (zero-add j))

-- a line whose lower inputs are 0: the upper ones as the machine reads them back, and zeros
module _ (f : ℕ → ℤ) (small : (i : ℕ) → nat_abs (f i) ≤ 2 ^ 40) where
  abbrev pub upper : List ℤ
  upper = lent f small 0 ∷ lent f small 1 ∷ lent f small 2 ∷ lent f small 3 ∷ pos 0 ∷ pos 0 ∷ pos 0 ∷ pos 0 ∷ []

  pub upper_small : Within (2 ^ 40) upper
  upper_small = one 0 (one 1 (one 2 (one 3 (none (none (none (none within_nil)))))))
    where
      one : (i : ℕ) {l : List ℤ} → Within (2 ^ 40) l → Within (2 ^ 40) (lent f small i ∷ l)
      one i h = within_cons (lent f small i) (rw (lent_is f small i) (small i)) h

      none : {l : List ℤ} → Within (2 ^ 40) l → Within (2 ^ 40) (pos 0 ∷ l)
      none h = within_cons (pos 0) (leb→le 0 (2 ^ 40) tt) h

  pub upper_lines : ((j : ℕ) → j < 4 → f (4 + j) ≡ pos 0) → lines (at upper) ≡ lines f
  upper_lines h = lines_cong (at upper) f go
    where
      go : (j : ℕ) → j < 8 → at upper j ≡ f j
      go zero p = lent_is f small 0
      go (suc zero) p = lent_is f small 1
      go (suc (suc zero)) p = lent_is f small 2
      go (suc (suc (suc zero))) p = lent_is f small 3
      go (suc (suc (suc (suc j)))) p = none j (omega arith)
        where
          none : (j : ℕ) → j < 4 → at (pos 0 ∷ pos 0 ∷ pos 0 ∷ pos 0 ∷ []) j ≡ f (suc (suc (suc (suc j))))
          none j p =
              let place : suc (suc (suc (suc j))) ≡ 4 + j = omega arith in
              get_or-replicate 4 j (pos 0) (pos 0) p ∙ sym (ap f place ∙ h j p)

-- ---- both halves

-- linear expressions without a constant are the weighted sums of their coefficients
values : (f : ℕ → ℤ) (es : List Exp) → Pure es → map (value f) es ≡ map (λ ks. dot ks f 0) (map coeffs es)
values f [] p = refl
values f (e ∷ es) p = ap₂ (λ (x : ℤ) (xs : List ℤ). x ∷ xs) (weighted f e (coeffs e) p.0.0 refl p.0.1) (values f es p.1)

-- THE FACTORED FORM: the eight outputs are the sums over the basis
pub factored : (f : ℕ → ℤ) → map (value f) outputs ≡ lines f
unfolding lines basis
factored f = values f outputs ((tt, refl), ((tt, refl), ((tt, refl), ((tt, refl), ((tt, refl), ((tt, refl), ((tt, refl), ((tt, refl), tt))))))))

-- the bound of a half: 2^56
abbrev pub H : ℕ → ℕ
H i = 2 ^ 56

machine : (l : List ℤ) → Within (2 ^ 56) l → (es : List Exp) → T (all_safe w64 H es)
    → map (λ e. to_z w64 (machine_bits w64 (at l) e)) es ≡ map (value (at l)) es
machine l small [] t = refl
machine l small (e ∷ es) t =
    let u = and_yes (safe w64 H e) (all_safe w64 H es) t in
    ap₂ (λ (x : ℤ) (xs : List ℤ). x ∷ xs) (exact w64 (at l) H small.each e u.0) (machine l small es u.1)

-- the eight sums and differences of two halves, as the machine has them
module _ (e o : Four) (small : Within (2 ^ 56) (halves e o)) where
  pub join_fits : (s : Exp) → T (safe w64 H s) → Fine w64 (at (halves e o)) s
  join_fits s t = fine w64 (at (halves e o)) H small.each s t

  pub joins : map (λ s. to_z w64 (machine_bits w64 (at (halves e o)) s)) sums ≡ joined e o
  unfolding joined
  joins = machine (halves e o) small sums tt

-- the halves of a line
module _ (f : ℕ → ℤ) (small : (i : ℕ) → nat_abs (f i) ≤ 2 ^ 40) {e o : Four} (even : e ≡ even_of (f 0) (f 2) (f 4) (f 6))
    (odd : o ≡ odd_of (f 1) (f 3) (f 5) (f 7)) where
  half : (z : ℤ) (p : Exp) → z ≡ value f p → T (leb (size L p) (2 ^ 56)) → {l : List ℤ} → Within (2 ^ 56) l → Within (2 ^ 56) (z ∷ l)
  half z p h t k = within_cons z (rw h (le_trans (bounded w64 f L small p) (leb→le (size L p) (2 ^ 56) t))) k

  pub halves_small : Within (2 ^ 56) (halves e o)
  unfolding even_of weighed odd_of
  halves_small =
      half e.0 (of_even even0) (ap (λ r. r.0) even) tt
      (half e.1 (of_even even1) (ap (λ r. r.1) even) tt
      (half e.2 (of_even even2) (ap (λ r. r.2) even) tt
      (half e.3 (of_even even3) (ap (λ r. r.3) even) tt
      (half o.0 (of_odd (odd_by odds0)) (ap (λ r. r.0) odd) tt
      (half o.1 (of_odd (odd_by odds1)) (ap (λ r. r.1) odd) tt
      (half o.2 (of_odd (odd_by odds2)) (ap (λ r. r.2) odd) tt
      (half o.3 (of_odd (odd_by odds3)) (ap (λ r. r.3) odd) tt within_nil)))))))

  pub joined_is : joined e o ≡ lines f
  unfolding even_of weighed odd_of joined
  joined_is = ap₂ joined even odd ∙ factored f
