-- Coefficients determine levels, where no quantizer is zero.
use Prim.Native.Nat.{ℕ, zero, suc, ◌*◌, ◌<◌}
use mathlib.Core.Path.{◌≡◌, refl, sym, ap, ◌∙◌, subst}
use mathlib.Core.List.{List}
use native.Mathlib.Omega.{arith}
use native.Mathlib.Nat.{not-suc-le-zero, eq_of_mul-eq-mul_right, mul-pos, suc_inj}
use lib.IntN.{ℤ, pos, negsuc, neg_ℤ, nat_abs, ◌*ℤ◌, pos-ne-negsuc}
use lib.ListN.{length, get_or}
use lib.Seq.{ext_get_or}
use Rattle.reading.specs.Transform.{zigzag, coefficients}
use Rattle.reading.proofs.Zigzag.{level_at}

-- ---- a factor is taken off

abs_pos : (n : ℕ) → nat_abs (neg_ℤ (pos n)) ≡ n
abs_pos zero = refl
abs_pos (suc n) = refl

neg_self : (x : ℕ) → 0 < x → pos x ≡ neg_ℤ (pos x) → ⊥
neg_self zero h e = not-suc-le-zero h
neg_self (suc n) h e = pos-ne-negsuc (suc n) n e

suc_pos : (n : ℕ) → 0 < suc n
suc_pos n = omega arith

cancel : (a b : ℤ) (q : ℕ) → 0 < q → a *ℤ pos q ≡ b *ℤ pos q → a ≡ b
cancel (pos a) (pos b) q h e = ap pos (eq_of_mul-eq-mul_right q h a b (ap nat_abs e))
cancel (pos a) (negsuc b) q h e = absurd (neg_self (suc b * q) (mul-pos (suc_pos b) h) (ap pos (sym (ap nat_abs e ∙ abs_pos (suc b * q))) ∙ e))
cancel (negsuc a) (pos b) q h e = absurd (neg_self (suc a * q) (mul-pos (suc_pos a) h) (ap pos (sym (ap nat_abs (sym e) ∙ abs_pos (suc a * q))) ∙ sym e))
cancel (negsuc a) (negsuc b) q h e = ap negsuc (suc_inj (eq_of_mul-eq-mul_right q h (suc a) (suc b) (sym (abs_pos (suc a * q)) ∙ ap nat_abs e ∙ abs_pos (suc b * q))))

-- ---- the levels of coefficients

pub coefficients_inj : (q : List ℕ) (l m : List ℤ) → length l ≡ 64 → length m ≡ 64 → ((k : ℕ) → k < 64 → 0 < get_or q k 0) → coefficients q l ≡ coefficients q m → l ≡ m
coefficients_inj q l m hl hm hq e = ext_get_or (pos 0) l m (hl ∙ sym hm) (λ k h. at k (subst (λ n. k < n) hl h))
  where
    at : (k : ℕ) → k < 64 → get_or l k (pos 0) ≡ get_or m k (pos 0)
    at k h = cancel (get_or l k (pos 0)) (get_or m k (pos 0)) (get_or q k 0) (hq k h) (sym (level_at q l k h) ∙ ap (λ c. get_or c (get_or zigzag k 0) (pos 0)) e ∙ level_at q m k h)
