-- The walk over a short list whose numbers are to stand apart: each is sought among those behind it.
use Prim.Native.Nat.{ℕ, zero, suc, ◌+◌, ◌-◌, ◌≤◌, min}
use mathlib.Core.Path.{◌≡◌, refl, sym, ◌∙◌, ap, ap₂}
use mathlib.Core.Bool.{Bool, true, false, not}
use mathlib.Core.List.{List, [], ◌∷◌}
use native.Mathlib.Omega.{arith}
use native.Mathlib.Numerals.{add-one}
use lib.Dec.{eqb, ltb}
use lib.ListN.{length, take, drop, get_or, length-drop, drop_of_length-le}
use lib.Seq.{take_all, drop-cons}
use borrow.Author.Tests.{ltb-true, ltb-false}
use Rattle.std.specs.Prelude.{◌&&◌}
use Rattle.std.specs.List.{list_any}
use Rattle.std.proofs.lemmas.Bool.Decides.{nat_tests}
use Rattle.reading.specs.Tests.{is_none, place_of, apart, all_from}
use Rattle.reading.specs.Header.{each_channel}
use Rattle.jpeg_header_rules.proofs.Marks.{place_from_lem}

-- what `contains` answers of a number
absent : (l : List ℕ) (x : ℕ) → not (list_any (λ y. eqb y x) l) ≡ is_none (place_of l x)
absent [] x = refl
absent (y ∷ l) x = grind (arith, nat_tests, absent l x, place_from_lem l x 1 0)

-- what is behind a place, as the code takes it
part_behind : (l : List ℕ) (i : ℕ) → take (length l - i) (drop i l) ≡ drop i l
part_behind l i = take_all (length l - i) (drop i l) (rw (length-drop i l) (omega arith))

-- what the code asks of the number at a place: it does not stand again behind itself
abbrev pub alone : List ℕ → ℕ → Bool
alone l i = not (list_any (λ y. eqb y (get_or l i 0)) (take (length l - (i + 1)) (drop (i + 1) l)))

alone_behind : (l : List ℕ) (n i : ℕ) → i + n ≡ length l → all_from n i (alone l) ≡ apart (drop i l)
alone_behind l zero i h = let end : length l ≤ i = omega arith in rw (drop_of_length-le l end) refl
alone_behind l (suc n) i h =
    let y = get_or l i 0 in
    let new : alone l i ≡ is_none (place_of (drop (suc i) l) y)
    = rw (part_behind l (i + 1)) (absent (drop (i + 1) l) y) ∙ ap (λ k. is_none (place_of (drop k l) y)) (add-one i) in
    rw (drop-cons l i 0 (omega arith)) (ap₂ (λ (a b : Bool). a && b) new (alone_behind l n (suc i) (omega arith)))

pub alone_all : (l : List ℕ) → each_channel (length l) (alone l) ≡ apart l
alone_all l = alone_behind l (length l) 0 (omega arith)

-- the first n of four numbers, by whatever n: those behind the fourth are none
pub first_of_four : (n k : ℕ) (l : List ℕ) → length l ≡ 4 → k ≡ min n 4 → apart (take k l) ≡ apart (take n l)
first_of_four n k l h e = go (ltb 4 n) refl
  where
    go : (t : Bool) → ltb 4 n ≡ t → apart (take k l) ≡ apart (take n l)
    go true p = ap apart (take_all k l (omega (arith, e, h, ltb-true 4 n p)) ∙ sym (take_all n l (omega (arith, h, ltb-true 4 n p))))
    go false p = let same : k ≡ n = omega (arith, e, ltb-false 4 n p) in ap (λ j. apart (take j l)) same
