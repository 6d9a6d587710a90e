-- The order of ℤ by differences: a ≤ b exactly when b is a + n for a natural n.
--     up, gap          the two directions
--     either           of two numbers one is at most the other
--     plus_order, minus_order     a sum keeps the order, a difference turns it
-- Assumes nothing.
use Rattle.std.specs.Prelude.{◌≡◌, refl, Bool, true, false, cond, ◌⊎◌, ℕ, suc, ◌+◌, ◌-◌, ◌≤◌, T, leb, ltb, ℤ, pos, negsuc, neg_ℤ, ◌+ℤ◌, ◌-ℤ◌, ◌≤ℤ◌}
use Rattle.std.proofs.Common.{sym, ◌∙◌, ap, subst, inl, inr, ⊎_elim, arith, ltb-true, ltb-false, lt-ltb, le-ltb, leb→le, le→leb}
use Rattle.std.proofs.Math.IntN.{+ℤ_assoc, +ℤ_invl, +ℤ_idr, neg_ℤ-+ℤ}
use Rattle.std.specs.Int.Signed.{le_z, le_z_yes}
use Rattle.whole.specs.Ring.{swap_last}

up_from : (a n : ℕ) (e : Bool) → ltb n (suc a) ≡ e → T (le_z (negsuc a) (cond e (negsuc (suc a - suc n)) (pos (n - suc a))))
up_from a n true e = le→leb (suc a - suc n) a (omega arith)
up_from a n false e = tt

pub up : (a : ℤ) (n : ℕ) → a ≤ℤ (a +ℤ pos n)
up (pos a) n = record { le = le→leb a (a + n) (omega arith) }
up (negsuc a) n = record { le = up_from a n (ltb n (suc a)) refl }

pub gap : {a b : ℤ} → a ≤ℤ b → (n : ℕ) × (b ≡ a +ℤ pos n)
gap {a = pos a} {b = pos b} h = (b - a, ap pos (rest (leb→le a b h.le)))
  where
    rest : a ≤ b → b ≡ a + (b - a)
    rest l = omega arith
gap {a = pos a} {b = negsuc b} h = absurd h.le
gap {a = negsuc a} {b = pos b} h = (b + suc a, rw (le-ltb (b + suc a) (suc a) (omega arith)) (ap pos rest))
  where
    rest : b ≡ b + suc a - suc a
    rest = omega arith
gap {a = negsuc a} {b = negsuc b} h = (a - b, rw (lt-ltb (a - b) (suc a) (omega arith)) (ap negsuc (rest (leb→le b a h.le))))
  where
    rest : b ≤ a → b ≡ suc a - suc (a - b)
    rest l = omega arith

-- a number that is a natural number more
from_gap : {a b : ℤ} (n : ℕ) → b ≡ a +ℤ pos n → a ≤ℤ b
from_gap {a} n e = subst (λ b. a ≤ℤ b) (sym e) (up a n)

either_leb : (a b : ℕ) → T (leb a b) ⊎ T (leb b a)
either_leb a b = go (ltb b a) refl
  where
    go : (e : Bool) → ltb b a ≡ e → T (leb a b) ⊎ T (leb b a)
    go true e = inr (le→leb b a (omega (arith, ltb-true b a e)))
    go false e = inl (le→leb a b (ltb-false b a e))

either_le_z : (a b : ℤ) → T (le_z a b) ⊎ T (le_z b a)
either_le_z (pos a) (pos b) = either_leb a b
either_le_z (pos a) (negsuc b) = inr tt
either_le_z (negsuc a) (pos b) = inl tt
either_le_z (negsuc a) (negsuc b) = either_leb b a

pub either : (a b : ℤ) → a ≤ℤ b ⊎ b ≤ℤ a
either a b = ⊎_elim (λ t. inl (le_z_yes t)) (λ t. inr (le_z_yes t)) (either_le_z a b)

pub plus_order : {a b : ℤ} (c : ℤ) → a ≤ℤ b → (a +ℤ c) ≤ℤ (b +ℤ c)
plus_order {a} c h = let g = gap h in from_gap g.0 (ap (λ x. x +ℤ c) g.1 ∙ swap_last a (pos g.0) c)

pub minus_order : {a b : ℤ} (c : ℤ) → a ≤ℤ b → (c -ℤ b) ≤ℤ (c -ℤ a)
minus_order {a} {b} c h = let g = gap h in from_gap g.0 (sym (back g.0 g.1))
  where
    back : (n : ℕ) → b ≡ a +ℤ pos n → c -ℤ b +ℤ pos n ≡ c -ℤ a
    back n e =
        ap (λ x. c -ℤ x +ℤ pos n) e ∙ ap (λ x. c +ℤ x +ℤ pos n) (neg_ℤ-+ℤ a (pos n)) ∙ +ℤ_assoc c (neg_ℤ a +ℤ neg_ℤ (pos n)) (pos n)
        ∙ ap (λ x. c +ℤ x) (+ℤ_assoc (neg_ℤ a) (neg_ℤ (pos n)) (pos n) ∙ ap (λ x. neg_ℤ a +ℤ x) (+ℤ_invl (pos n)) ∙ +ℤ_idr (neg_ℤ a))
