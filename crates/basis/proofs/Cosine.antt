-- The basis against the cosine.
--     side_order        a larger number lies no lower beside a tower
--     nearest_one       at most one whole number is nearest to a weight
--     basis_nearest     entry (x, u) of the basis is b exactly when b is nearest to its exact weight: one computed test of the 64 entries
--     corners           the angles that no entry has: 0, a quarter and half a turn
-- Assumes nothing.
use mathlib.Core.Path.{◌≡◌, refl, sym, ◌∙◌, ap, subst}
use mathlib.Core.Bool.{Bool, true, false, not, cond}
use mathlib.Core.Logic.{◌↔◌, ⊎_elim}
use Prim.Native.Nat.{ℕ, zero, suc, ◌+◌, ◌*◌, ◌-◌, ◌<◌, zero-le}
use native.Mathlib.Nat.{mul-le-mul}
use native.Mathlib.Omega.{arith}
use borrow.Author.Tests.{le-ltb}
use lib.Dec.{T, leb, leb→le, le→leb}
use lib.IntN.{ℤ, pos, negsuc, neg_ℤ, ◌+ℤ◌, ◌-ℤ◌, ◌*ℤ◌, +ℤ_assoc, +ℤ_idr, neg_ℤ-neg_ℤ}
use lib.Signed.{lt_z, ◌≤ℤ◌, ◌<ℤ◌, le_z_yes, lt_z_yes, lt_z_no, <ℤ-≤ℤ_trans, clash_ℤ}
use Rattle.whole.specs.Ring.{*ℤ_distrib_left}
use Rattle.whole.specs.Order.{up, gap, either, plus_order, minus_order}
use Rattle.whole.specs.Expressions.{neg}
use Rattle.whole.specs.Tests.{◌and◌, and_left, and_right, all_from, all_at}
use Rattle.basis.specs.Basis.{basis, basis_at}
use Rattle.basis.specs.Cosine.{Tower, whole, root_of2_plus, root_of2_minus, cosine, Side, below, on, above, opposite, against, side, is_below, is_above, nearest_to, nearest_in_half, folded, angle, nearest}

-- ---- sides keep the order of numbers

abbrev at_most : Side → Side → Bool
at_most below s = true
at_most on below = false
at_most on on = true
at_most on above = true
at_most above s = is_above s

turned : (s r : Side) → T (at_most s r) → T (at_most (opposite r) (opposite s))
turned below below h = tt
turned below on h = tt
turned below above h = tt
turned on below h = h
turned on on h = tt
turned on above h = tt
turned above below h = h
turned above on h = h
turned above above h = tt

against_order : (n k b : ℤ) → n ≤ℤ k → T (at_most (against n b) (against k b))
against_order n k b h = go (lt_z n b) refl (lt_z b n) refl (lt_z k b) refl (lt_z b k) refl
  where
    yes : (a c : ℤ) → lt_z a c ≡ true → a <ℤ c
    yes a c e = lt_z_yes (subst T (sym e) tt)

    no : (a c : ℤ) → lt_z a c ≡ false → c ≤ℤ a
    no a c e = lt_z_no (subst (λ (t : Bool). T (not t)) (sym e) tt)

    go :
        (p : Bool) → lt_z n b ≡ p → (q : Bool) → lt_z b n ≡ q → (r : Bool) → lt_z k b ≡ r → (s : Bool) → lt_z b k ≡ s
        → T (at_most (cond p below (cond q above on)) (cond r below (cond s above on)))
    go true ep q eq r er s es = tt
    go false ep q eq true er s es = clash_ℤ (<ℤ-≤ℤ_trans (yes k b er) (no n b ep)) h
    go false ep true eq false er true es = tt
    go false ep true eq false er false es = clash_ℤ (<ℤ-≤ℤ_trans (yes b n eq) h) (no b k es)
    go false ep false eq false er true es = tt
    go false ep false eq false er false es = tt

squares : (a d : ℕ) → T (leb a d) → pos (a * a) ≤ℤ pos (d * d)
squares a d h = le_z_yes (le→leb (a * a) (d * d) (mul-le-mul (leb→le a d h) (leb→le a d h)))

pub side_order : (t : Tower) (m : ℕ) (n k : ℤ) → n ≤ℤ k → T (at_most (side n m t) (side k m t))
side_order (whole w) m n k h = against_order n k (pos (m * w)) h
side_order (root_of2_plus t) m (negsuc a) k h = tt
side_order (root_of2_plus t) m (pos a) (negsuc d) h = absurd h.le
side_order (root_of2_plus t) m (pos a) (pos d) h = side_order t (m * m) _ _ (plus_order (neg_ℤ (pos (2 * (m * m)))) (squares a d h.le))
side_order (root_of2_minus t) m (negsuc a) k h = tt
side_order (root_of2_minus t) m (pos a) (negsuc d) h = absurd h.le
side_order (root_of2_minus t) m (pos a) (pos d) h =
    turned (under d) (under a) (side_order t (m * m) _ _ (minus_order (pos (2 * (m * m))) (squares a d h.le)))
  where
    under : ℕ → Side
    under i = side (pos (2 * (m * m)) -ℤ pos (i * i)) (m * m) t

-- ---- at most one number is nearest

-- what lies above a tower is not below what lies below it
apart : (s r : Side) → T (is_above s) → T (is_below r) → T (at_most s r) → ⊥
apart below r a b h = a
apart on r a b h = a
apart above below a b h = h
apart above on a b h = b
apart above above a b h = b

-- where c is above b, 2b + 1 is at most 2c - 1
halves : (b : ℤ) (n : ℕ) → pos 2 *ℤ (b +ℤ pos (suc n)) -ℤ pos 1 ≡ pos 2 *ℤ b +ℤ pos 1 +ℤ pos (2 * n)
halves b n =
    ap (λ x. x -ℤ pos 1) (*ℤ_distrib_left (pos 2) b (pos (suc n))) ∙ +ℤ_assoc (pos 2 *ℤ b) (pos (2 * suc n)) (neg_ℤ (pos 1))
    ∙ ap (λ x. pos 2 *ℤ b +ℤ x) one_less
    ∙ sym (+ℤ_assoc (pos 2 *ℤ b) (pos 1) (pos (2 * n)))
  where
    one_less : pos (2 * suc n) -ℤ pos 1 ≡ pos (1 + 2 * n)
    one_less = rw (le-ltb (2 * suc n) 1 (omega arith)) (ap pos (omega arith))

-- of two nearest numbers the second is not above the first
not_above : (t : Tower) (b c : ℤ) (n : ℕ) → c ≡ b +ℤ pos n → T (nearest_to t b) → T (nearest_to t c) → c ≡ b
not_above t b c zero e hb hc = e ∙ +ℤ_idr b
not_above t b c (suc n) e hb hc =
    absurd (apart (over b) (under c) (and_right (is_below (under b)) (is_above (over b)) hb) (and_left (is_below (under c)) (is_above (over c)) hc) (side_order t 16384 _ _ between))
  where
    under : ℤ → Side
    under b = side (pos 2 *ℤ b -ℤ pos 1) 16384 t

    over : ℤ → Side
    over b = side (pos 2 *ℤ b +ℤ pos 1) 16384 t

    between : (pos 2 *ℤ b +ℤ pos 1) ≤ℤ (pos 2 *ℤ c -ℤ pos 1)
    between = subst (λ x. (pos 2 *ℤ b +ℤ pos 1) ≤ℤ x) (sym (ap (λ x. pos 2 *ℤ x -ℤ pos 1) e ∙ halves b n)) (up (pos 2 *ℤ b +ℤ pos 1) (2 * n))

one_of_tower : (t : Tower) (b c : ℤ) → T (nearest_to t b) → T (nearest_to t c) → b ≡ c
one_of_tower t b c hb hc =
    ⊎_elim (λ h. let g = gap h in sym (not_above t b c g.0 g.1 hb hc)) (λ h. let g = gap h in not_above t c b g.0 g.1 hc hb) (either b c)

one_in_half : (k : ℕ) (b c : ℤ) → T (nearest_in_half k b) → T (nearest_in_half k c) → b ≡ c
one_in_half k b c = go (leb k 8)
  where
    go : (e : Bool) → T (cond e (nearest_to (cosine 3 k) b) (nearest_to (cosine 3 (16 - k)) (neg_ℤ b))) → T (cond e (nearest_to (cosine 3 k) c) (nearest_to (cosine 3 (16 - k)) (neg_ℤ c))) → b ≡ c
    go true hb hc = one_of_tower (cosine 3 k) b c hb hc
    go false hb hc = sym (neg_ℤ-neg_ℤ b) ∙ ap neg_ℤ (one_of_tower (cosine 3 (16 - k)) (neg_ℤ b) (neg_ℤ c) hb hc) ∙ neg_ℤ-neg_ℤ c

pub nearest_one : (x u : ℕ) (b c : ℤ) → T (nearest x u b) → T (nearest x u c) → b ≡ c
nearest_one x zero b c hb hc = one_of_tower (root_of2_plus (whole 0)) b c hb hc
nearest_one x (suc u) b c hb hc = one_in_half (folded (angle x (suc u))) b c hb hc

-- ---- the basis

all_nearest : T (all_from 8 0 (λ x. all_from 8 0 (λ u. nearest x u (basis_at x u))))
unfolding basis
all_nearest = tt

entry_nearest : (x u : ℕ) → x < 8 → u < 8 → T (nearest x u (basis_at x u))
entry_nearest x u hx hu =
    all_at (λ u. nearest x u (basis_at x u)) 8 0 (all_at (λ x. all_from 8 0 (λ u. nearest x u (basis_at x u))) 8 0 all_nearest x zero-le hx) u zero-le hu

pub basis_nearest : (x u : ℕ) → x < 8 → u < 8 → (b : ℤ) → basis_at x u ≡ b ↔ T (nearest x u b)
basis_nearest x u hx hu b =
    ((λ e. subst (λ b. T (nearest x u b)) e (entry_nearest x u hx hu)), (λ h. nearest_one x u (basis_at x u) b (entry_nearest x u hx hu) h))

pub corners : T (nearest_in_half 0 (pos 16384) and nearest_in_half 8 (pos 0) and nearest_in_half 16 (neg 16384))
corners = tt
