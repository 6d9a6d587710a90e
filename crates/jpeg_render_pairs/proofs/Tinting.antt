-- What chroma samples add to luma: what a list of such numbers has, and that luma and they make pixels in colour.
use Prim.Native.Nat.{ℕ, zero, suc, ◌/◌, ◌<◌, ◌≤◌}
use mathlib.Core.Path.{◌≡◌, ap, ◌∙◌}
use mathlib.Core.List.{List}
use native.Mathlib.Omega.{arith}
use lib.IntN.{ℤ, pos, nat_abs, ◌+ℤ◌}
use lib.ListN.{length, get_or}
use mir.Syntax.{w16}
use mir.Val.{to_z, of_z}
use mir.Facts.{to_z-of_z}
use Rattle.whole.specs.Expressions.{at, fits_abs}
use Rattle.reading.specs.Colour.{to_byte}
use Rattle.jpeg_color.proofs.Luma.{red_is, green_is, blue_is}
use Rattle.jpeg_render_pairs.specs.Tinted.{in_pairs}
use Rattle.jpeg_render_pairs.specs.Parts.{First, Part, red_at, green_at, blue_at, summed}

-- ---- what the first n numbers of a list have in other words

pub first_as : {P Q : ℕ → ℤ → Type 0} {n : ℕ} {u : List ℤ}
    → First P n u
    → ((i : ℕ) (x : ℤ) → i < n → P i x → Q i x)
    → First Q n u
first_as first same = record { each = λ i h. same i _ h (first.each i h) }

-- ---- a list of n numbers, i of them written

pub record FilledTo (P : ℕ → ℤ → Type 0) (n i : ℕ) (u : List ℤ) : Type 0 where
  pub size : length u ≡ n
  pub has : First P i u

-- ---- luma and what is added to it

-- a part is read from its list as it is, since it is small
pub shade : {r : ℕ} (luma : List ℕ) (u : List ℤ) (i : ℕ)
    → First (λ k x. nat_abs x ≤ 1024) 16 u
    → i < 16
    → r ≡ to_byte (pos (get_or luma i 0) +ℤ to_z w16 (of_z w16 (at u i)))
    → r ≡ to_byte (pos (get_or luma i 0) +ℤ at u i)
shade luma u i small within clamped =
    clamped ∙ ap (λ z. to_byte (pos (get_or luma i 0) +ℤ z)) (to_z-of_z {w = w16} (fits_abs (small.each i within) tt))

-- luma and the parts of a pixel's chroma samples make its colour
pub summed_in_pairs : (luma cb cr : List ℕ) (n : ℕ) (reds greens blues : List ℤ)
    → n ≤ 16
    → First (λ i. Part (red_at cr (i / 2))) 16 reds
    → First (λ i. Part (green_at cb cr (i / 2))) 16 greens
    → First (λ i. Part (blue_at cb (i / 2))) 16 blues
    → (i c : ℕ)
    → i < n
    → c < 3
    → summed luma reds greens blues i c ≡ in_pairs luma cb cr i c
unfolding summed in_pairs
summed_in_pairs luma cb cr n reds greens blues most r g u i zero h l =
    ap (λ x. to_byte (pos (get_or luma i 0) +ℤ x)) (r.each i (omega arith)).0 ∙ red_is _ _
summed_in_pairs luma cb cr n reds greens blues most r g u i (suc zero) h l =
    ap (λ x. to_byte (pos (get_or luma i 0) +ℤ x)) (g.each i (omega arith)).0 ∙ green_is _ _ _
summed_in_pairs luma cb cr n reds greens blues most r g u i (suc (suc c)) h l =
    ap (λ x. to_byte (pos (get_or luma i 0) +ℤ x)) (u.each i (omega arith)).0 ∙ blue_is _ _
