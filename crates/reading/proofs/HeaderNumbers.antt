-- A header is refused 3, 4 or 5, and by nothing else.
use mathlib.Core.Path.{◌≡◌, subst}
use mathlib.Core.Bool.{Bool, true, false, not, cond}
use mathlib.Core.List.{List}
use Prim.Native.Nat.{ℕ, ◌*◌, ◌+◌}
use lib.Dec.{eqb}
use lib.ListN.{length}
use Rattle.reading.specs.declared.Refusal.{Refusal}
use Rattle.reading.specs.declared.Refusal.TheVariants.{CutShort, Malformed, Unsupported}
use Rattle.reading.specs.declared.Case.{Case}
use Rattle.reading.specs.declared.Case.TheVariants.{Marker, Quantizers, Huffman}
use Rattle.reading.specs.declared.Kind.{Kind}
use Rattle.reading.specs.declared.Kind.TheVariants.{Quants, Tables, Frames, Scans, Intervals, Skips, Others}
use Rattle.reading.specs.declared.Header.{Header}
use Rattle.reading.specs.declared.Record.{Record}
use Rattle.std.specs.declared.result.Result.{Result}
use Rattle.std.specs.declared.result.Result.TheVariants.{Ok, Err}
use Rattle.reading.specs.Header.{Stage, more, done, stop, stop_if, byte, window, kind_of, segment, segment_end, step_in, opening, opens, started, header}
use Rattle.reading.specs.Code.Heads.{headed}
use Rattle.reading.proofs.Stages.{steps_hold}

-- the refusals of a header
pub data OfHeader : Refusal → Type 0 where
  cut_short : OfHeader CutShort
  malformed : OfHeader Malformed
  unsupported : OfHeader Unsupported

pub data Numbered : Stage → Type 0 where
  on : (h : Header) → Numbered (more h)
  met : (r : Record) → Numbered (done r)
  off : (x : Refusal) → OfHeader x → Numbered (stop x)

test : (b : Bool) (x : Refusal) (st : Stage) → OfHeader x → Numbered st → Numbered (stop_if b x st)
unfolding stop_if
test true x st o n = off x o
test false x st o n = n

either : (b : Bool) (u v : Stage) → Numbered u → Numbered v → Numbered (cond b u v)
either true u v m n = m
either false u v m n = n

module _ (s : List ℕ) (colour : Bool) where
  segment_numbered : (h : Header) (k : Kind) (b : List ℕ) (a e : ℕ) → Numbered (segment colour h k b a e)
  segment_numbered h Quants b a e = test _ _ _ malformed (on _)
  segment_numbered h Tables b a e = test _ _ _ malformed (on _)
  segment_numbered h Frames b a e = test _ _ _ malformed (test _ _ _ unsupported (test _ _ _ malformed (test _ _ _ unsupported (on _))))
  segment_numbered h Scans b a e = test _ _ _ malformed (test _ _ _ unsupported (test _ _ _ malformed (test _ _ _ unsupported (test _ _ _ malformed (met _)))))
  segment_numbered h Intervals b a e = test _ _ _ malformed (on _)
  segment_numbered h Skips b a e = on _
  segment_numbered h Others b a e = off _ unsupported

  step_numbered : (h : Header) (k : Case) → Numbered (step_in s colour h k)
  step_numbered h Marker =
      let code = byte s (h.at + 1) in
      let end = segment_end s h.at in
      test _ _ _ malformed
      (either (eqb code 255) _ _ (on _)
      (test _ _ _ malformed (test _ _ _ cut_short (segment_numbered h (kind_of code) (window s (h.at + 4) end) (h.at + 4) end))))
  step_numbered h (Quantizers e) = either (eqb h.at e) _ _ (on _) (test _ _ _ malformed (on _))
  step_numbered h (Huffman e) = either (eqb h.at e) _ _ (on _) (test _ _ _ malformed (on _))

  header_numbered : Numbered (header s colour)
  unfolding header
  header_numbered = steps_hold s colour Numbered (λ h _. step_numbered h h.case) (2 * length s + 1) (started s) (test (not (opens s)) _ _ malformed (on opening))

-- what an answer says of its number
abbrev numbered : Result Record Refusal → Type 0
numbered (Ok u) = Unit {0}
numbered (Err x) = OfHeader x

stage_numbered : (st : Stage) → Numbered st → numbered (headed st)
stage_numbered st (on h) = cut_short
stage_numbered st (met r) = tt
stage_numbered st (off x o) = o

pub header_number : (s : List ℕ) (colour : Bool) (x : Refusal) → headed (header s colour) ≡ Err x → OfHeader x
header_number s colour x e = subst numbered e (stage_numbered (header s colour) (header_numbered s colour))
