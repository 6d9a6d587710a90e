-- Pixels in colour from luma samples and what the chroma samples add to them.
use Rattle.std.specs.Prelude.{ℕ, ◌*◌, ◌/◌, ◌<◌, ◌≤◌, ◌≡◌, List, ℤ, pos, nat_abs, ◌+ℤ◌, get_or, length}
use Rattle.whole.specs.Expressions.{at}
use Rattle.reading.specs.Colour.{to_byte}
use Rattle.jpeg_color.specs.Parts.{red_part, green_part, blue_part}
use Rattle.jpeg_render_row.specs.Runs.{three}

-- the first n numbers of a list have a property, each by its place
pub record First (P : ℕ → ℤ → Type 0) (n : ℕ) (u : List ℤ) : Type 0 where
  pub each : (i : ℕ) → i < n → P i (at u i)

-- a number that is z, and so small that luma and it fit 16 bits
abbrev pub Part : ℤ → ℤ → Type 0
Part z x = (x ≡ z) × (nat_abs x ≤ 1024)

-- what chroma samples j add in each channel
abbrev pub red_at : List ℕ → ℕ → ℤ
red_at cr j = red_part (get_or cr j 0)

abbrev pub green_at : List ℕ → List ℕ → ℕ → ℤ
green_at cb cr j = green_part (get_or cb j 0) (get_or cr j 0)

abbrev pub blue_at : List ℕ → ℕ → ℤ
blue_at cb j = blue_part (get_or cb j 0)

-- number i of a list that has each of the list's numbers twice
abbrev pub Twice : List ℤ → ℕ → ℤ → Type 0
Twice u i x = x ≡ at u (i / 2)

-- pixel i: luma and what is added to it
unfoldable pub summed : List ℕ → List ℤ → List ℤ → List ℤ → ℕ → ℕ → ℕ
summed luma reds greens blues i =
    let y = pos (get_or luma i 0) in
    three (to_byte (y +ℤ at reds i)) (to_byte (y +ℤ at greens i)) (to_byte (y +ℤ at blues i))

-- what is added is small; what is written lies within the list
pub record TintFits (reds greens blues : List ℤ) (out : List ℕ) (n : ℕ) : Type 0 where
  pub red : First (λ i x. nat_abs x ≤ 1024) 16 reds
  pub green : First (λ i x. nat_abs x ≤ 1024) 16 greens
  pub blue : First (λ i x. nat_abs x ≤ 1024) 16 blues
  pub within : n ≤ 16
  pub room : n * 3 ≤ length out
