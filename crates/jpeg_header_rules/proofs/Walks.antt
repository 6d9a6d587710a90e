-- What a walk answers: over the bytes of a quantizer, over the counts of a table, and over the channels.
use Prim.Native.Nat.{ℕ, zero, suc, ◌+◌, ◌-◌, ◌*◌, ◌<◌, ◌≤◌}
use mathlib.Core.Path.{◌≡◌, refl, sym, ◌∙◌}
use mathlib.Core.Bool.{Bool, not}
use mathlib.Core.List.{List, [], ◌∷◌, map}
use native.Mathlib.Omega.{arith}
use native.Mathlib.Numerals.{add-one}
use lib.Dec.{ltb, eqb}
use lib.ListN.{length, take, drop, drop_of_length-le}
use lib.Seq.{drop-cons}
use denote.Param.Members.{Mut}
use Rattle.std.specs.declared.ops.Range.{Range}
use Rattle.std.specs.List.{list_all, list_any, ends_with, range_with_len}
use Rattle.std.specs.List as numbers
use Rattle.std.specs.Fn.{Called}
use Rattle.std.specs.Iterator.{ChecksAll}
use Rattle.std.proofs.iter.Yields.{nat_range_steps}
use Rattle.std.proofs.lemmas.Bool.Decides.{nat_tests}
use Rattle.std.proofs.lemmas.List.Recursion.{is_sum_by}
use Rattle.std.proofs.lemmas.Iterator.{YieldsList-from_range}
use Rattle.std.proofs.lemmas.Iterator.Search.{all_from_yields_List}
use Rattle.reading.specs.Tests.{all, all_from}
use Rattle.reading.specs.Huffman.{sum}
use Rattle.reading.specs.Header.{byte, sequential, each_channel}

-- what `contains` answers of the byte 0
pub zero_free : (l : List ℕ) → not (list_any (λ y. eqb y 0) l) ≡ all (ltb 0) l
zero_free [] = refl
zero_free (x ∷ l) = grind (arith, nat_tests, zero_free l)

-- what `ends_with` answers of a scan's body
pub ends_so : (b : List ℕ) (ch : ℕ) → length b ≡ 4 + 2 * ch → ends_with eqb b (0 ∷ 63 ∷ 0 ∷ []) ≡ sequential b ch
ends_so b ch h =
    let i : 1 + 2 * ch < length b = omega arith in
    let j : 2 + 2 * ch < length b = omega arith in
    let k : 3 + 2 * ch < length b = omega arith in
    let first : length b - 3 ≡ 1 + 2 * ch = omega arith in
    let second : suc (1 + 2 * ch) ≡ 2 + 2 * ch = omega arith in
    let third : suc (2 + 2 * ch) ≡ 3 + 2 * ch = omega arith in
    let end : length b ≤ suc (3 + 2 * ch) = omega arith in
    let last : drop (1 + 2 * ch) b ≡ byte b (1 + 2 * ch) ∷ byte b (2 + 2 * ch) ∷ byte b (3 + 2 * ch) ∷ []
    = rw (drop-cons b (1 + 2 * ch) 0, second, drop-cons b (2 + 2 * ch) 0, third, drop-cons b (3 + 2 * ch) 0, drop_of_length-le b end) in
    rw (first, last) (grind (arith, nat_tests))

-- ---- a walk over the counts

sum_next : (n : ℕ) (b : List ℕ) (i : ℕ) → sum (take (suc n) (drop i b)) ≡ byte b i + sum (take n (drop (suc i) b))
sum_next zero [] zero = refl
sum_next (suc n) [] zero = refl
sum_next zero [] (suc i) = refl
sum_next (suc n) [] (suc i) = refl
sum_next n (x ∷ b) zero = refl
sum_next n (x ∷ b) (suc i) = sum_next n b i

-- the sum of the n bytes from place i on
pub bytes_sum : (b : List ℕ) (n i : ℕ) → numbers.sum (map (byte b) (range_with_len i n)) ≡ sum (take n (drop i b))
bytes_sum b n i = sym (is_sum_by sum (λ x. x) refl (λ _ _. refl) _) ∙ go n i
  where
    go : (n i : ℕ) → sum (map (byte b) (range_with_len i n)) ≡ sum (take n (drop i b))
    go zero i = refl
    go (suc n) i = rw (sum_next n b i, add-one, go n (suc i))

-- ---- a walk over the channels

counted_up : (p : ℕ → Bool) (n c : ℕ) → list_all p (range_with_len c n) ≡ all_from n c p
counted_up p zero c = refl
counted_up p (suc n) c = rw (add-one, counted_up p n (suc c))

-- what `all` answers of the channels below n, where the closure asks p of each
pub of_channels :
    {F : Type 0} {g : Mut F (ℕ × Unit {0}) Bool} (p : ℕ → Bool) {n end : ℕ} {s u : Range ℕ} {f : F} {r : Bool}
    → s ≡ record { start = 0; end = end }
    → end ≡ n
    → ChecksAll nat_range_steps g s f r u
    → ((x : ℕ) (b : Bool) (q : F) → Called g f (x, tt) b q → (q ≡ f) × (b ≡ p x))
    → r ≡ each_channel n p
of_channels p {n} starts ends ran called =
    all_from_yields_List p _ _ _ ran (YieldsList-from_range 0 _ n starts (omega arith)) called ∙ counted_up p n 0
