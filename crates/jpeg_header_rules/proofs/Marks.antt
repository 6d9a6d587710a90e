-- The walk over a table's symbols: each one that was met is marked, so that one look tells whether it stands in the list twice.
use Prim.Native.Nat.{ℕ, zero, suc, ◌+◌, ◌<◌}
use mathlib.Core.Path.{◌≡◌, refl}
use mathlib.Core.Bool.{Bool, true, false, not}
use mathlib.Core.List.{List, [], ◌∷◌}
use native.Mathlib.Omega.{arith}
use native.Mathlib.Numerals.{add-one}
use Rattle.std.proofs.lemmas.Bool.Decides.{nat_tests}
use lib.ListN.{length, drop, get_or, set, replicate}
use lib.Seq.{drop-cons, get_or-set_same, get_or-set_other}
use Rattle.reading.specs.Tests.{◌and◌, is_none, place_of, place_from, apart, all}
use Rattle.reading.specs.Header.{listable}

-- the symbols of a list fit a table of a class
abbrev pub fitting : ℕ → List ℕ → Bool
fitting class l = apart l and all (listable class) l

-- none of a list's numbers is marked
abbrev pub unmet : List Bool → List ℕ → Bool
unmet met l = all (λ x. not (get_or met x false)) l

unmarked : (n x : ℕ) → get_or (replicate n false) x false ≡ false
unmarked zero x = refl
unmarked (suc n) zero = refl
unmarked (suc n) (suc x) = unmarked n x

pub none_met : (n : ℕ) (l : List ℕ) → unmet (replicate n false) l ≡ true
none_met n [] = refl
none_met n (x ∷ l) = rw (unmarked n x) (none_met n l)

-- whether a number has a place does not hang on where the count starts
pub place_from_lem : (l : List ℕ) (x i j : ℕ) → is_none (place_from l x i) ≡ is_none (place_from l x j)
place_from_lem [] x i j = refl
place_from_lem (y ∷ l) x i j = grind (arith, place_from_lem l x (suc i) (suc j))

-- once x is marked, what is unmet is what was, x aside
marked : (met : List Bool) (x : ℕ) → x < length met → (l : List ℕ) → unmet (set met x true) l ≡ (is_none (place_of l x) and unmet met l)
marked met x h [] = refl
marked met x h (y ∷ l) =
    grind (arith, nat_tests, get_or-set_same met x true false h, get_or-set_other met x y true false, place_from_lem l x 1 0, marked met x h l)

-- ---- one turn of the walk: at place i of the list

abbrev pub rest : ℕ → List Bool → List ℕ → ℕ → Bool
rest class met l i = unmet met (drop i l) and fitting class (drop i l)

pub rest_first : (class n : ℕ) (l : List ℕ) → fitting class l ≡ rest class (replicate n false) l 0
rest_first class n l = rw (none_met n l)

module _ (class : ℕ) (met : List Bool) (l : List ℕ) (i : ℕ) where
  pub rest_on :
      {x : ℕ} → i < length l → x ≡ get_or l i 0 → x < length met → get_or met x false ≡ false → listable class x ≡ true
      → rest class met l i ≡ rest class (set met x true) l (i + 1)
  rest_on {x} h same k e f =
      let later = drop (suc i) l in
      rw (drop-cons l i 0, add-one, ← same, e, f, marked met x k later) (
      swap (unmet met later) (is_none (place_of later x)) (apart later) (all (listable class) later))
    where
      swap : (u n a c : Bool) → (u and ((n and a) and c)) ≡ ((n and u) and (a and c))
      swap u n a c = grind arith
