-- The derive compares field by field, in the definition's order, and groups its tests in another way.
use Rattle.std.proofs.Common.{◌≡◌, refl, ◌∙◌, ℕ, Bool, true, false, List, [], ◌∷◌, nat_eq}
use Rattle.std.proofs.Math.Bool.{and_assoc}
use Rattle.std.specs.Cmp.Lexicographic.{pointwise}
use mathlib.Core.Bool.{beq}
use Rattle.reading.specs.Calls.{eq_list, eq_bool, same}
use Rattle.jpeg_record.proofs.same.Goals as goal

lists : (a b : List ℕ) → pointwise nat_eq a b ≡ eq_list a b
lists [] [] = refl
lists [] (y ∷ b) = refl
lists (x ∷ a) [] = refl
lists (x ∷ a) (y ∷ b) = simp (lists a b)

flags : (a b : Bool) → beq a b ≡ eq_bool a b
flags true true = refl
flags true false = refl
flags false true = refl
flags false false = refl

pub returns : goal.returns
unfolding same
returns c = c.eq.ensures ∙ simp (and_assoc, lists, flags)
