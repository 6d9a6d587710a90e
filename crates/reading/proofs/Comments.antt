-- Where the comments stand: each text lies within the file, and comment i is there exactly when i is below their count.
use Prim.Native.Nat.{ℕ, zero, suc, ◌+◌, ◌*◌, ◌-◌, ◌≤◌, ◌<◌, zero-le}
use mathlib.Core.Path.{◌≡◌, refl, sym, ◌∙◌, subst, subst⁻¹}
use mathlib.Core.Bool.{Bool, true, false, not, cond}
use mathlib.Core.List.{List, [], ◌∷◌, ◌++◌}
use mathlib.Core.Logic.{◌↔◌}
use native.Mathlib.Omega.{arith}
use lib.Dec.{T, ltb, eqb, eqb→eq}
use lib.ListN.{length}
use borrow.Author.Tests.{lt-ltb, le-ltb, ltb-true, ltb-false}
use Rattle.reading.specs.declared.Refusal.{Refusal}
use Rattle.reading.specs.declared.Refusal.TheVariants.{Malformed, CutShort}
use Rattle.reading.specs.declared.Case.{Case}
use Rattle.reading.specs.declared.Case.TheVariants.{Marker, Quantizers, Huffman}
use Rattle.reading.specs.declared.Budget.{Budget}
use Rattle.reading.specs.declared.Header.{Header}
use Rattle.reading.specs.declared.Limits.{Limits}
use Rattle.reading.specs.declared.Part.{Part}
use Rattle.std.specs.declared.option.Option.{Option}
use Rattle.std.specs.declared.option.Option.TheVariants.{None, Some}
use Rattle.reading.specs.Verdicts.{Verdict}
use Rattle.std.specs.declared.result.Result.TheVariants.{Ok, Err}
use Rattle.reading.specs.Tests.{◌and◌, ◌or◌}
use Rattle.reading.specs.Header.{Stage, more, done, stop, byte, word, window, kind_of, segment, segment_end, step_in, step, started}
use Rattle.reading.specs.Reading.{Reading, accepted, refused, reading}
use Rattle.reading.specs.Comments.{text_at, at_comment, passed, comments_from, comments, sought, part_of, part_in, comment_part, is_accepted, has_comment}
use Rattle.reading.specs.Calls.{inspect}
use Rattle.reading.proofs.Stages.{stop_or, chosen_or}
use Rattle.reading.proofs.HeaderEnds.{Room, segment_room}

-- ---- a comment over which a step goes is a whole segment

-- what a stage behind a comment's marker at p says: where the header goes on, the segment is there
abbrev Behind : List ℕ → ℕ → Stage → Type 0
Behind s p (more h) = Room s p
Behind s p (done r) = Unit
Behind s p (stop x) = Unit

behind : (s : List ℕ) (p : ℕ) → Room s p → (st : Stage) → Behind s p st
behind s p r (more h) = r
behind s p r (done q) = tt
behind s p r (stop x) = tt

not_fill : (n : ℕ) → n ≡ 254 → eqb n 255 ≡ true → ⊥
not_fill n e t = omega (arith, e, eqb→eq n 255 (subst⁻¹ T t tt))

marker_behind : (s : List ℕ) (colour : Bool) (h : Header) → byte s (h.at + 1) ≡ 254 → Behind s h.at (step_in s colour h Marker)
marker_behind s colour h e =
    stop_or P out (ltb (length s) (p + 2) or not (eqb (byte s p) 255)) Malformed _
    (λ t1. chosen_or P (eqb (byte s (p + 1)) 255) _ _ (λ t2. absurd (not_fill (byte s (p + 1)) e t2))
    (λ t2. stop_or P out (eqb (byte s (p + 1)) 217) Malformed _
    (λ t3. stop_or P out (ltb (length s) (p + 4) or ltb (word s (p + 2)) 2 or ltb (length s) (segment_end s p)) CutShort _
    (λ t4. behind s p (segment_room s p t4) (segment colour h (kind_of (byte s (p + 1))) (window s (p + 4) (segment_end s p)) (p + 4) (segment_end s p))))))
  where
    p : ℕ
    p = h.at

    P : Stage → Type 0
    P = Behind s p

    out : (x : Refusal) → P (stop x)
    out x = tt

step_behind : (s : List ℕ) (colour : Bool) (h : Header) (c : Case) → T (at_comment s h.at c) → Behind s h.at (step_in s colour h c)
step_behind s colour h Marker t = marker_behind s colour h (eqb→eq (byte s (h.at + 1)) 254 t)
step_behind s colour h (Quantizers e) t = absurd t
step_behind s colour h (Huffman e) t = absurd t

-- the header goes over a comment: its segment is there
pub comment_room : (s : List ℕ) (colour : Bool) (h g : Header) → at_comment s h.at h.case ≡ true → more g ≡ step s colour h → Room s h.at
comment_room s colour h g a e = subst⁻¹ (Behind s h.at) e (step_behind s colour h h.case (subst⁻¹ T a tt))

-- ---- every part lies within the file

abbrev Within : List ℕ → Part → Type 0
Within s p = p.at + p.length ≤ length s

text_within : (s : List ℕ) (p : ℕ) → Room s p → Within s (text_at s p)
text_within s p r = at_end (word s (p + 2)) r.behind r.within
  where
    at_end : (w : ℕ) → p + 4 ≤ p + 2 + w → p + 2 + w ≤ length s → p + 4 + (w - 2) ≤ length s
    at_end w b i = omega (arith, b, i)

abbrev WithinAll : List ℕ → List Part → Type 0
WithinAll s [] = Unit
WithinAll s (p ∷ ps) = Within s p × WithinAll s ps

within_both : (s : List ℕ) (ps qs : List Part) → WithinAll s ps → WithinAll s qs → WithinAll s (ps ++ qs)
within_both s [] qs a b = b
within_both s (p ∷ ps) qs a b = (a.0, within_both s ps qs a.1 b)

passed_within : (s : List ℕ) (h : Header) (st : Stage) → st ≡ step s false h → WithinAll s (passed s h st)
passed_within s h (done r) e = tt
passed_within s h (stop x) e = tt
passed_within s h (more g) e = by (at_comment s h.at h.case) refl
  where
    by : (t : Bool) → at_comment s h.at h.case ≡ t → WithinAll s (cond t (text_at s h.at ∷ []) [])
    by true a = (text_within s h.at (comment_room s false h g a e), tt)
    by false a = tt

from_within : (s : List ℕ) (n : ℕ) (st : Stage) → WithinAll s (comments_from s n st)
from_within s zero st = tt
from_within s (suc n) (done r) = tt
from_within s (suc n) (stop x) = tt
from_within s (suc n) (more h) =
    within_both s (passed s h (step s false h)) _ (passed_within s h (step s false h) refl) (from_within s n (step s false h))

comments_within : (s : List ℕ) → WithinAll s (comments s)
unfolding comments
comments_within s = from_within s (2 * length s + 1) (started s)

sought_within : (s : List ℕ) (ps : List Part) → WithinAll s ps → (i : ℕ) → Within s (part_of (sought ps i))
sought_within s [] a i = zero-le
sought_within s (p ∷ ps) a zero = a.0
sought_within s (p ∷ ps) a (suc i) = sought_within s ps a.1 i

part_in_within : (s : List ℕ) (i : ℕ) (q : Reading) → Within s (part_in s i q)
part_in_within s i (accepted r ls) = sought_within s (comments s) (comments_within s) i
part_in_within s i (refused x) = zero-le

-- the text of a comment is a part of the file
pub comment_within : (s : List ℕ) (i : ℕ) → (comment_part s i).at + (comment_part s i).length ≤ length s
unfolding comment_part
comment_within s i = part_in_within s i (reading s false)

-- ---- which comments are there

abbrev pub is_there : Option Part → Bool
is_there None = false
is_there (Some p) = true

pub sought_there : (ps : List Part) (i : ℕ) → is_there (sought ps i) ≡ ltb i (length ps)
sought_there [] i = sym (le-ltb i 0 zero-le)
sought_there (p ∷ ps) zero = sym (lt-ltb 0 (suc (length ps)) (omega arith))
sought_there (p ∷ ps) (suc i) = sought_there ps i ∙ one_more i (length ps)
  where
    one_more : (i n : ℕ) → ltb i n ≡ ltb (suc i) (suc n)
    one_more i n = by (ltb i n) refl
      where
        by : (t : Bool) → ltb i n ≡ t → t ≡ ltb (suc i) (suc n)
        by true e = sym (lt-ltb (suc i) (suc n) (omega (arith, ltb-true i n e)))
        by false e = sym (le-ltb (suc i) (suc n) (omega (arith, ltb-false i n e)))

-- ---- what has_comment answers

there_so : (v : Verdict) (i n : ℕ) → (is_accepted v and ltb i n) ≡ true ↔ (v ≡ Ok tt) × (i < n)
there_so (Ok u) i n = (λ e. (refl, ltb-true i n e), λ k. lt-ltb i n k.1)
there_so (Err x) i n = (λ e. absurd (subst⁻¹ T e tt), λ k. absurd (subst (λ v. T (cond (is_accepted v) false true)) k.0 tt))

module _ (s : List ℕ) (i : ℕ) (l : Limits) (budget : Budget) where
  pub has_comment_inspects : ((has_comment s i l budget).verdict ≡ (inspect s false l budget).verdict) × ((has_comment s i l budget).budget ≡ (inspect s false l budget).budget)
  unfolding has_comment
  has_comment_inspects = (refl, refl)

  pub has_comment_there : (has_comment s i l budget).there ≡ true ↔ ((inspect s false l budget).verdict ≡ Ok tt) × (i < length (comments s))
  unfolding has_comment
  has_comment_there = there_so (inspect s false l budget).verdict i (length (comments s))
