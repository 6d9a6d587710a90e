-- The 64 numbers by which the transform weighs its inputs (the rules' 'Samples, places, colour').
use Rattle.std.specs.Prelude.{ℕ, List, [], ◌∷◌, get_or, ℤ, pos}
use Rattle.whole.specs.Expressions.{at, neg}

-- the 64-entry basis: row x has the weights of the eight inputs in output x (what they are nearest to: `Cosine`)
unfoldable pub basis : List (List ℤ)
basis =
    (pos 11585 ∷ pos 16069 ∷ pos 15137 ∷ pos 13623 ∷ pos 11585 ∷ pos 9102 ∷ pos 6270 ∷ pos 3196 ∷ [])
    ∷ (pos 11585 ∷ pos 13623 ∷ pos 6270 ∷ neg 3196 ∷ neg 11585 ∷ neg 16069 ∷ neg 15137 ∷ neg 9102 ∷ [])
    ∷ (pos 11585 ∷ pos 9102 ∷ neg 6270 ∷ neg 16069 ∷ neg 11585 ∷ pos 3196 ∷ pos 15137 ∷ pos 13623 ∷ [])
    ∷ (pos 11585 ∷ pos 3196 ∷ neg 15137 ∷ neg 9102 ∷ pos 11585 ∷ pos 13623 ∷ neg 6270 ∷ neg 16069 ∷ [])
    ∷ (pos 11585 ∷ neg 3196 ∷ neg 15137 ∷ pos 9102 ∷ pos 11585 ∷ neg 13623 ∷ neg 6270 ∷ pos 16069 ∷ [])
    ∷ (pos 11585 ∷ neg 9102 ∷ neg 6270 ∷ pos 16069 ∷ neg 11585 ∷ neg 3196 ∷ pos 15137 ∷ neg 13623 ∷ [])
    ∷ (pos 11585 ∷ neg 13623 ∷ pos 6270 ∷ pos 3196 ∷ neg 11585 ∷ pos 16069 ∷ neg 15137 ∷ pos 9102 ∷ [])
    ∷ (pos 11585 ∷ neg 16069 ∷ pos 15137 ∷ neg 13623 ∷ pos 11585 ∷ neg 9102 ∷ pos 6270 ∷ neg 3196 ∷ [])
    ∷ []

-- the weights of output x
abbrev pub weights : ℕ → List ℤ
weights x = get_or basis x []

-- the weight of input u in output x
abbrev pub basis_at : ℕ → ℕ → ℤ
basis_at x u = at (weights x) u
