-- How many places the levels of a block reach.
-- It is here for the code: a contract of an inner function cites it, and nothing in it needs to be believed by someone who reads
-- the theorems of the calls.
use Rattle.std.specs.Prelude.{ℕ, zero, suc, max, Bool, true, false, List, [], ◌∷◌, ℤ, pos, negsuc}

abbrev pub is_zero : ℤ → Bool
is_zero (pos zero) = true
is_zero (pos (suc n)) = false
is_zero (negsuc n) = false

abbrev pub one_more : Bool → ℕ → ℕ
one_more true zero = zero
one_more true (suc n) = suc (suc n)
one_more false n = suc n

-- one more than the last place that is not 0
abbrev pub extent : List ℤ → ℕ
extent [] = 0
extent (z ∷ l) = one_more (is_zero z) (extent l)

-- all levels from this place on are 0; the first place always counts
unfoldable pub places : List ℤ → ℕ
places l = max 1 (extent l)
