-- What the colours share: whole multiples of 65536 pass by a shift, which rounds down; and sums, products and shifts of numbers with a
-- bound each are what the machine reads. Assumes nothing.
use mathlib.Core.Path.{◌≡◌, refl, sym, ◌∙◌, ap, ap₂}
use mathlib.Core.Bool.{Bool, true, false, cond}
use Prim.Native.Nat.{ℕ, suc, ◌+◌, ◌-◌, ◌*◌, ◌/◌, ◌^◌, ◌≤◌, ◌<◌}
use native.Mathlib.Nat.{le_trans}
use native.Mathlib.Omega.{arith}
use borrow.Author.Tests.{ltb-true, ltb-false}
use lib.Dec.{T, ltb, leb, leb→le}
use lib.IntN.{ℤ, pos, negsuc, neg_ℤ, nat_abs, ◌+ℤ◌, ◌-ℤ◌, ◌*ℤ◌, +ℤ_assoc, +ℤ_invr, +ℤ_invl, +ℤ_idl}
use lib.Signed.{shr_z}
use mir.Syntax.{w8, w32}
use mir.Val.{Fits, to_z, of_z}
use Rattle.whole.specs.Expressions.{abs_sub, fits_abs}
use Rattle.whole.specs.Signs.{shifted}
use Rattle.whole.specs.Held.{Held, number, plain, less}

-- ---- the division

up : (n : ℕ) (z : ℤ) → shr_z (pos (65536 * n) +ℤ z) 65536 ≡ pos n +ℤ shr_z z 65536
up n (pos a) = ap pos same
  where
    same : (65536 * n + a) / 65536 ≡ n + a / 65536
    same = omega arith
up n (negsuc a) = go (ltb (65536 * n) (suc a)) refl (ltb n (suc (a / 65536))) refl
  where
    below : 65536 * n < suc a → (suc a - suc (65536 * n)) / 65536 ≡ suc (a / 65536) - suc n
    below h = omega arith

    above : suc a ≤ 65536 * n → (65536 * n - suc a) / 65536 ≡ n - suc (a / 65536)
    above h = omega arith

    not_above : 65536 * n < suc a → suc (a / 65536) ≤ n → ⊥
    not_above h k = omega arith

    not_below : suc a ≤ 65536 * n → n < suc (a / 65536) → ⊥
    not_below h k = omega arith

    go : (s : Bool) → ltb (65536 * n) (suc a) ≡ s → (t : Bool) → ltb n (suc (a / 65536)) ≡ t
        → shr_z (cond s (negsuc (suc a - suc (65536 * n))) (pos (65536 * n - suc a))) 65536
        ≡ cond t (negsuc (suc (a / 65536) - suc n)) (pos (n - suc (a / 65536)))
    go true p true q = ap negsuc (below (ltb-true (65536 * n) (suc a) p))
    go true p false q = absurd (not_above (ltb-true (65536 * n) (suc a) p) (ltb-false n (suc (a / 65536)) q))
    go false p true q = absurd (not_below (ltb-false (65536 * n) (suc a) p) (ltb-true n (suc (a / 65536)) q))
    go false p false q = ap pos (above (ltb-false (65536 * n) (suc a) p))

-- whole multiples of 65536 pass by it
pub passes : (k z : ℤ) → shr_z (pos 65536 *ℤ k +ℤ z) 65536 ≡ k +ℤ shr_z z 65536
passes (pos n) z = up n z
passes (negsuc n) z =
    sym (ap (λ x. negsuc n +ℤ x) back ∙ sym (+ℤ_assoc (negsuc n) (pos (suc n)) (shr_z w 65536))
    ∙ ap (λ x. x +ℤ shr_z w 65536) (+ℤ_invl (pos (suc n))) ∙ +ℤ_idl (shr_z w 65536))
  where
    m : ℤ
    m = pos (65536 * suc n)

    w : ℤ
    w = neg_ℤ m +ℤ z

    back : shr_z z 65536 ≡ pos (suc n) +ℤ shr_z w 65536
    back = ap (λ x. shr_z x 65536) (sym (sym (+ℤ_assoc m (neg_ℤ m) z) ∙ ap (λ x. x +ℤ z) (+ℤ_invr m) ∙ +ℤ_idl z)) ∙ up (suc n) w

shift_small : (z : ℤ) (k : ℕ) → nat_abs z ≤ 65536 * k → nat_abs (shr_z z 65536) ≤ k
shift_small (pos a) k h = omega arith
shift_small (negsuc a) k h = omega arith

-- ---- numbers as the machine reads them

pub byte : {n : ℕ} → Fits w8 n → Held w32 (to_z w32 n) (pos n) 255
byte h = plain 255 (omega arith) tt

-- a chroma sample's difference from 128
pub difference : {n : ℕ} → Fits w8 n → Held w32 (to_z w32 (of_z w32 (to_z w32 n -ℤ pos 128))) (pos n -ℤ pos 128) 383
difference h = less (byte h) (number 128) tt

pub floor : {x z : ℤ} {m : ℕ} → Held w32 x z m → (k : ℕ) → T (leb m (65536 * k)) → T (ltb (65536 * k) (2 ^ 31))
    → Held w32 (to_z w32 (of_z w32 (shr_z x 65536))) (shr_z z 65536) k
floor {x} {z} {m} h k t u = record {
  is = shifted w32 65536 h.is (fits_abs (le_trans h.small (leb→le m (65536 * k) t)) u);
  small = shift_small z k (le_trans h.small (leb→le m (65536 * k) t));
}

-- what `divided` answers
pub called : {r x y z v : ℤ} {m n : ℕ} → Held w32 x z m → Held w32 y v n → (k : ℕ) → T (leb (m + n) (65536 * k)) → T (ltb (65536 * k) (2 ^ 31))
    → r ≡ shr_z (x -ℤ y) 65536 → Held w32 (to_z w32 (of_z w32 r)) (shr_z (z -ℤ v) 65536) k
called {r} {x} {y} {z} {v} {m} {n} g h k t u e =
    let w : Held w32 (to_z w32 (of_z w32 (shr_z (z -ℤ v) 65536))) (shr_z (z -ℤ v) 65536) k =
    floor {x = z -ℤ v} (record { is = refl; small = abs_sub z v g.small h.small }) k t u in
    record { is = ap (λ a. to_z w32 (of_z w32 a)) (e ∙ ap₂ (λ a b. shr_z (a -ℤ b) 65536) g.is h.is) ∙ w.is; small = w.small }
