-- Camera notes: the comment segments before the scan, and the text of each as a part of the file.
use Rattle.std.specs.Prelude.{ℕ, zero, suc, ◌+◌, ◌*◌, ◌-◌, Bool, true, false, cond, List, [], ◌∷◌, ◌++◌, ltb, eqb, take, drop, length}
use Rattle.reading.specs.declared.Budget.{Budget}
use Rattle.reading.specs.declared.Case.{Case}
use Rattle.reading.specs.declared.Case.TheVariants.{Marker, Quantizers, Huffman}
use Rattle.reading.specs.declared.Header.{Header}
use Rattle.reading.specs.declared.Limits.{Limits}
use Rattle.reading.specs.declared.Part.{Part}
use Rattle.reading.specs.declared.Presence.{Presence}
use Rattle.std.specs.declared.option.Option.{Option}
use Rattle.std.specs.declared.option.Option.TheVariants.{None, Some}
use Rattle.reading.specs.Verdicts.{Verdict}
use Rattle.std.specs.declared.result.Result.TheVariants.{Ok, Err}
use Rattle.reading.specs.Tests.{◌and◌}
use Rattle.reading.specs.Header.{Stage, more, done, stop, byte, word, step, started, header}
use Rattle.reading.specs.Scan.{levels}
use Rattle.reading.specs.Reading.{Reading, accepted, refused, reading}
use Rattle.reading.specs.Calls.{inspect}

-- the text of the segment whose marker stands at p: what is behind its length, which counts its own two bytes
abbrev pub text_at : List ℕ → ℕ → Part
text_at s p = record { at = p + 4; length = word s (p + 2) - 2 }

-- the marker of a comment, code 254, is read next
abbrev pub at_comment : List ℕ → ℕ → Case → Bool
at_comment s p Marker = eqb (byte s (p + 1)) 254
at_comment s p (Quantizers e) = false
at_comment s p (Huffman e) = false

-- the comment over which a step of the header goes
abbrev pub passed : List ℕ → Header → Stage → List Part
passed s h (more g) = cond (at_comment s h.at h.case) (text_at s h.at ∷ []) []
passed s h (done r) = []
passed s h (stop x) = []

-- the comments over which n steps go, in order
abbrev pub comments_from : List ℕ → ℕ → Stage → List Part
comments_from s zero st = []
comments_from s (suc n) (more h) = passed s h (step s false h) ++ comments_from s n (step s false h)
comments_from s (suc n) (done r) = []
comments_from s (suc n) (stop x) = []

-- the comments before the scan
unfoldable pub comments : List ℕ → List Part
comments s = comments_from s (2 * length s + 1) (started s)

-- comment i, counted from 0
abbrev pub sought : List Part → ℕ → Option Part
sought [] i = None
sought (p ∷ ps) zero = Some p
sought (p ∷ ps) (suc i) = sought ps i

-- a part for it; an empty one where there is none
abbrev pub part_of : Option Part → Part
part_of None = record { at = 0; length = 0 }
part_of (Some p) = p

abbrev pub part_in : List ℕ → ℕ → Reading → Part
part_in s i (accepted r ls) = part_of (sought (comments s) i)
part_in s i (refused x) = part_of None

-- where the text of comment i stands; empty where there is none or the file is not accepted, limits aside
unfoldable pub comment_part : List ℕ → ℕ → Part
unfolding header levels comments
comment_part s i = part_in s i (reading s false)

-- a part of the bytes themselves
abbrev pub text_of : List ℕ → Part → List ℕ
text_of s p = take p.length (drop p.at s)

-- the text of comment i
abbrev pub comment : List ℕ → ℕ → List ℕ
comment s i = text_of s (comment_part s i)

abbrev pub is_accepted : Verdict → Bool
is_accepted (Ok u) = true
is_accepted (Err x) = false

-- whether comment i is there, at inspect's price and with its numbers
unfoldable pub has_comment : List ℕ → ℕ → Limits → Budget → Presence
unfolding comments inspect
has_comment s i l budget =
    let q = inspect s false l budget in
    record {
      verdict = q.verdict;
      budget = q.budget;
      there = is_accepted q.verdict and ltb i (length (comments s));
    }
