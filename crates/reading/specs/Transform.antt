-- From levels to samples (the rules' 'Samples, places, colour'): coefficients in natural order, the double sum over the basis, the clamp.
use Rattle.std.specs.Prelude.{ℕ, ◌+◌, ◌*◌, ◌/◌, ◌%◌, cond, List, [], ◌∷◌, get_or, ℤ, pos, nat_abs, ◌+ℤ◌, ◌*ℤ◌}
use Rattle.std.specs.Int.Signed.{le_z}
use Rattle.whole.specs.Lists.{from, list_of}
use Rattle.whole.specs.Expressions.{dot, at}
use Rattle.reading.specs.Tests.{place_of, or_zero}
unfoldable pub use Rattle.basis.specs.Basis.{basis}
pub use Rattle.basis.specs.Basis.{weights}

-- the natural place of each zigzag place
abbrev pub zigzag : List ℕ
zigzag =
    0 ∷ 1 ∷ 8 ∷ 16 ∷ 9 ∷ 2 ∷ 3 ∷ 10 ∷ 17 ∷ 24 ∷ 32 ∷ 25 ∷ 18 ∷ 11 ∷ 4 ∷ 5
    ∷ 12 ∷ 19 ∷ 26 ∷ 33 ∷ 40 ∷ 48 ∷ 41 ∷ 34 ∷ 27 ∷ 20 ∷ 13 ∷ 6 ∷ 7 ∷ 14 ∷ 21 ∷ 28
    ∷ 35 ∷ 42 ∷ 49 ∷ 56 ∷ 57 ∷ 50 ∷ 43 ∷ 36 ∷ 29 ∷ 22 ∷ 15 ∷ 23 ∷ 30 ∷ 37 ∷ 44 ∷ 51
    ∷ 58 ∷ 59 ∷ 52 ∷ 45 ∷ 38 ∷ 31 ∷ 39 ∷ 46 ∷ 53 ∷ 60 ∷ 61 ∷ 54 ∷ 47 ∷ 55 ∷ 62 ∷ 63 ∷ []

-- the zigzag place of a natural place
abbrev pub zigzag_place : ℕ → ℕ
zigzag_place i = or_zero (place_of zigzag i)

-- value x quantizer at a zigzag place
abbrev pub dequantized_at : List ℕ → List ℤ → ℕ → ℤ
dequantized_at q l k = get_or l k (pos 0) *ℤ pos (get_or q k 0)

-- the coefficients of a block: value x quantizer at that zigzag place, stored in natural order
unfoldable pub coefficients : List ℕ → List ℤ → List ℤ
unfolding from
coefficients q l = list_of 64 (λ i. dequantized_at q l (zigzag_place i))

-- output x of eight inputs: the sum over u of f u x basis x u
abbrev pub line : (ℕ → ℤ) → ℕ → ℤ
line f x = dot (weights x) f 0

-- row v of the coefficients, at column x
unfoldable pub row : List ℤ → ℕ → ℕ → ℤ
unfolding basis
row c v x = line (λ u. at c (8 * v + u)) x

-- the double sum at row y and column x (`double-sum` has it as one sum of 64 products)
unfoldable pub plane : List ℤ → ℕ → ℕ → ℤ
unfolding basis row
plane c y x = line (λ v. row c v x) y

-- a whole number v as a sample: 0 if v <= 0, 255 if v >= 273804165120, else v / 1073741824, rounded down
unfoldable pub clamped : ℤ → ℕ
clamped v = cond (le_z v (pos 0)) 0 (cond (le_z (pos 273804165120) v) 255 (nat_abs v / 1073741824))

-- the sample of a double sum
abbrev pub sample_of : ℤ → ℕ
sample_of v = clamped (v +ℤ pos 137975824384)

-- the 64 samples of a block, row by row
unfoldable pub samples : List ℤ → List ℕ
unfolding basis row plane clamped from
samples c = list_of 64 (λ k. sample_of (plane c (k / 8) (k % 8)))
