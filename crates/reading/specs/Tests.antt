-- Tests on numbers as Booleans, and small functions on lists.
use Rattle.std.specs.Prelude.{ℕ, suc, Bool, true, false, cond, ◌||◌, List, [], ◌∷◌, ◌++◌, leb, eqb, length, drop}
use Rattle.std.proofs.Math.Option.{Option, none, some}
use Rattle.std.proofs.Math.ListN.{get_elem?}
pub use Rattle.whole.specs.Tests.{◌and◌, all_from}

-- one of two tests. The same as the library's `||`, but grouping to the right, as `and` does
infixr 35 ◌or◌
abbrev pub ◌or◌ : Bool → Bool → Bool
a or b = a || b

-- lo ≤ n ≤ hi
abbrev pub within : ℕ → ℕ → ℕ → Bool
within lo hi n = leb lo n and leb n hi

abbrev pub is_none : {A : Type 0} → Option A → Bool
is_none none = true
is_none (some a) = false

-- the place of x in a list, counted from i: the first one, where there are several
abbrev pub place_from : List ℕ → ℕ → ℕ → Option ℕ
place_from [] x i = none
place_from (y ∷ ys) x i = cond (eqb x y) (some i) (place_from ys x (suc i))

abbrev pub place_of : List ℕ → ℕ → Option ℕ
place_of ys x = place_from ys x 0

-- no number stands twice in a list
abbrev pub apart : List ℕ → Bool
apart [] = true
apart (x ∷ xs) = is_none (place_of xs x) and apart xs

-- the option holds the number given
abbrev pub holds : Option ℕ → ℕ → Bool
holds none x = false
holds (some y) x = eqb y x

-- the byte at a place is the number given
abbrev pub is_at : List ℕ → ℕ → ℕ → Bool
is_at s i x = holds (get_elem? s i) x

-- every element passes
abbrev pub all : {A : Type 0} → (A → Bool) → List A → Bool
all p [] = true
all p (x ∷ xs) = p x and all p xs

-- what an option holds, or 0
abbrev pub or_zero : Option ℕ → ℕ
or_zero none = 0
or_zero (some n) = n

-- what is left behind in a buffer: what is written, then the old tail
abbrev pub over : List ℕ → List ℕ → List ℕ
over new old = new ++ drop (length new) old
