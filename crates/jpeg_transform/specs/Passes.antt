-- The two passes over a block, line by line: what one row or column leaves behind, and what a whole pass does.
use Rattle.std.specs.Prelude.{List, map, ℕ, zero, suc, ◌+◌, ◌*◌, ◌/◌, ◌%◌, ℤ, pos, ◌+ℤ◌, set}
use Rattle.std.specs.Int.Signed.{shr_z}
use Rattle.whole.specs.Expressions.{dot, at}
use Rattle.whole.specs.Lists.{from, list_of}
use Rattle.reading.specs.Transform.{basis, line, row}

-- the u-th of the places that stand s apart from i on
abbrev pub place : ℕ → ℕ → ℕ → ℕ
place i s zero = i
place i s (suc u) = i + suc u * s

-- the inputs of the line that stands there
abbrev pub spaced : List ℤ → ℕ → ℕ → ℕ → ℤ
spaced c i s u = at c (place i s u)

-- all eight outputs of a line
unfoldable pub lines : (ℕ → ℤ) → List ℤ
unfolding basis
lines f = map (λ ks. dot ks f 0) basis

-- a list after f 0, .., f (n - 1) were stored at p 0, .., p (n - 1)
unfoldable pub puts : {A : Type 0} → List A → (ℕ → ℕ) → (ℕ → A) → ℕ → List A
puts l p f zero = l
puts l p f (suc n) = set (puts l p f n) (p n) (f n)

-- a block after the row at place i was replaced by its outputs
unfoldable pub rowed : List ℤ → ℕ → List ℤ
unfolding lines puts
rowed c i = puts c (place i 1) (at (lines (spaced c i 1))) 8

-- a block after the first pass
unfoldable pub rows_of : List ℤ → List ℤ
unfolding from row
rows_of c = list_of 64 (λ j. row c (j / 8) (j % 8))

-- a double sum, moved up by the middle, in steps of a sample, rounded down: `to_byte` of it is the sample
unfoldable pub in_steps : ℤ → ℤ
in_steps v = shr_z (v +ℤ pos 137975824384) 1073741824

-- the numbers after the outputs of column x were stored, in steps
unfoldable pub columned : List ℤ → ℕ → List ℤ → List ℤ
unfolding lines puts in_steps
columned t x steps = puts steps (place x 8) (λ y. in_steps (at (lines (spaced t x 8)) y)) 8

-- the second pass, in steps
unfoldable pub columns_of : List ℤ → List ℤ
unfolding from basis in_steps
columns_of t = list_of 64 (λ k. in_steps (line (λ v. at t (8 * v + k % 8)) (k / 8)))
