-- A colour is luma and what the chroma samples add to it, clamped: luma passes by the division, and the sum fits any width that holds
-- 1279. Assumes nothing.
use mathlib.Core.Path.{◌≡◌, sym, ◌∙◌, ap}
use Prim.Native.Nat.{ℕ, ◌^◌, ◌≤◌}
use native.Mathlib.Omega.{arith}
use lib.Dec.{T, ltb}
use lib.IntN.{ℤ, pos, neg_ℤ, nat_abs, ◌+ℤ◌, ◌*ℤ◌, +ℤ_assoc}
use lib.Signed.{shr_z}
use mir.Syntax.{Width, w8}
use mir.Val.{Fits, SFits, to_z, of_z, hbits}
use mir.Facts.{to_z-of_z}
use Rattle.whole.specs.Expressions.{fits_abs}
use Rattle.whole.specs.Held.{Held, input, plus, plus_fits}
use Rattle.reading.specs.Colour.{to_byte, chroma, red, green, blue}
use Rattle.jpeg_color.specs.Parts.{red_part, green_part, blue_part}
use Rattle.jpeg_color.proofs.Sums.{passes}

behind : (y : ℕ) (p k : ℤ) → to_byte (pos y +ℤ shr_z (p +ℤ k) 65536) ≡ to_byte (shr_z (pos 65536 *ℤ pos y +ℤ p +ℤ k) 65536)
behind y p k = ap to_byte (sym (passes (pos y) (p +ℤ k)) ∙ ap (λ z. shr_z z 65536) (sym (+ℤ_assoc (pos 65536 *ℤ pos y) p k)))

pub red_is : (y cr : ℕ) → to_byte (pos y +ℤ red_part cr) ≡ red y cr
unfolding red red_part
red_is y cr = behind y (pos 91881 *ℤ chroma cr) (pos 32768)

pub green_is : (y cb cr : ℕ) → to_byte (pos y +ℤ green_part cb cr) ≡ green y cb cr
unfolding green green_part
green_is y cb cr =
    let b = neg_ℤ (pos 22554 *ℤ chroma cb) in
    let d = neg_ℤ (pos 46802 *ℤ chroma cr) in
    behind y (b +ℤ d) (pos 32768) ∙ ap (λ z. to_byte (shr_z (z +ℤ pos 32768) 65536)) (sym (+ℤ_assoc (pos 65536 *ℤ pos y) b d))

pub blue_is : (y cb : ℕ) → to_byte (pos y +ℤ blue_part cb) ≡ blue y cb
unfolding blue blue_part
blue_is y cb = behind y (pos 116130 *ℤ chroma cb) (pos 32768)

-- what `red`, `green` and `blue` stand on: a part is read back as it is, and luma passes by
pub ruleset colours = (to_z-of_z, red_is, green_is, blue_is)

-- ---- the sum at a width: x is the number p, as each part's function ensures

module _ (w : Width) {y : ℕ} {x p : ℤ} (byte : Fits w8 y) (part : (x ≡ p) × (nat_abs x ≤ 1024))
    (wide : T (ltb 1279 (2 ^ hbits w))) where
  luma : Held w (to_z w (of_z w (pos y))) (pos y) 255
  luma = input (fits_abs {n = 1279} (omega arith) wide) (omega arith)

  added : Held w (to_z w (of_z w x)) x 1024
  added = input (fits_abs {n = 1279} (omega (arith, part.1)) wide) part.1

  pub sum_fits : SFits w (to_z w (of_z w (pos y)) +ℤ to_z w (of_z w x))
  sum_fits = plus_fits luma added wide

  pub sum_is : to_z w (of_z w (to_z w (of_z w (pos y)) +ℤ to_z w (of_z w x))) ≡ pos y +ℤ p
  sum_is = (plus luma added wide).is ∙ ap (λ z. pos y +ℤ z) part.0
