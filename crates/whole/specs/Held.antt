-- Signed numbers as the machine holds them: the whole number that is meant by what the machine reads, and a bound of its magnitude; through
-- a cast to a wider width, a sum, a difference and a product. At written-out bounds the test that a result fits is `tt`. Assumes nothing.
use Rattle.std.specs.Prelude.{◌≡◌, refl, ℕ, ◌+◌, ◌*◌, ◌^◌, ◌≤◌, T, ltb, leb, ℤ, pos, nat_abs, ◌+ℤ◌, ◌-ℤ◌, ◌*ℤ◌}
use Rattle.std.proofs.Common.{◌∙◌, ap₂, le_trans, le_refl, leb→le, to_z-of_z}
use Rattle.std.specs.Int.Signed.{nat_abs-le}
use Rattle.std.specs.Int.{Width}
use mir.Val.{SFits, to_z, of_z, hbits}
use Rattle.std.proofs.Math.Facts.{sfits_widen}
use Rattle.whole.specs.Expressions.{fits_abs, abs_add, abs_sub, abs_mul}

-- what the machine reads as x, at width w, is the whole number z, at most b in magnitude
pub record Held (w : Width) (x z : ℤ) (b : ℕ) : Type 0 where
  pub is : x ≡ z
  pub small : nat_abs z ≤ b

pub held_small : {w : Width} {x z : ℤ} {b m : ℕ} → Held w x z b → T (leb b m) → nat_abs x ≤ m
held_small {w} {x} {z} {b} {m} h t = rw h.is (le_trans h.small (leb→le b m t))

-- a literal
pub number : {w : Width} (k : ℕ) → Held w (pos k) (pos k) k
number k = record { is = refl; small = le_refl k }

-- a number that fits
pub input : {w : Width} {z : ℤ} {m : ℕ} → SFits w z → nat_abs z ≤ m → Held w (to_z w (of_z w z)) z m
input h k = record { is = to_z-of_z h; small = k }

-- a number that its bound makes fit
pub bounded : {w : Width} (z : ℤ) {m : ℕ} → nat_abs z ≤ m → T (ltb m (2 ^ hbits w)) → Held w (to_z w (of_z w z)) z m
bounded z h t = input (fits_abs h t) h

-- a number without a sign, made a signed one
pub plain : {w : Width} {n : ℕ} (b : ℕ) → n ≤ b → T (ltb b (2 ^ hbits w)) → Held w (to_z w n) (pos n) b
plain {w} {n} b h t = bounded {w = w} (pos n) h t

-- a number of width w, made wider
module _ {w v : Width} {z : ℤ} (t : T (leb (hbits w) (hbits v))) (h : SFits w z) where
  pub widened_fits : SFits v (to_z w (of_z w z))
  widened_fits = rw (to_z-of_z h) (sfits_widen t h)

  pub widened : Held v (to_z v (of_z v (to_z w (of_z w z)))) z (2 ^ hbits w)
  widened = record { is = to_z-of_z widened_fits ∙ to_z-of_z h; small = nat_abs-le z h.sfits }

module _ {w : Width} {x y z v : ℤ} {m n : ℕ} (h : Held w x z m) (k : Held w y v n) where
  pub plus_fits : T (ltb (m + n) (2 ^ hbits w)) → SFits w (x +ℤ y)
  plus_fits t = rw (h.is, k.is) (fits_abs (abs_add z v h.small k.small) t)

  pub plus : T (ltb (m + n) (2 ^ hbits w)) → Held w (to_z w (of_z w (x +ℤ y))) (z +ℤ v) (m + n)
  plus t = record { is = to_z-of_z (plus_fits t) ∙ ap₂ (λ a b. a +ℤ b) h.is k.is; small = abs_add z v h.small k.small }

  pub less_fits : T (ltb (m + n) (2 ^ hbits w)) → SFits w (x -ℤ y)
  less_fits t = rw (h.is, k.is) (fits_abs (abs_sub z v h.small k.small) t)

  pub less : T (ltb (m + n) (2 ^ hbits w)) → Held w (to_z w (of_z w (x -ℤ y))) (z -ℤ v) (m + n)
  less t = record { is = to_z-of_z (less_fits t) ∙ ap₂ (λ a b. a -ℤ b) h.is k.is; small = abs_sub z v h.small k.small }

  pub times_fits : T (ltb (m * n) (2 ^ hbits w)) → SFits w (x *ℤ y)
  times_fits t = rw (h.is, k.is) (fits_abs (abs_mul z v h.small k.small) t)

  pub times : T (ltb (m * n) (2 ^ hbits w)) → Held w (to_z w (of_z w (x *ℤ y))) (z *ℤ v) (m * n)
  times t = record { is = to_z-of_z (times_fits t) ∙ ap₂ (λ a b. a *ℤ b) h.is k.is; small = abs_mul z v h.small k.small }
