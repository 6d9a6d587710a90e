-- A state of the header itself passes both tests of specs/Segments, and an answer says which stage it is of.
use Prim.Native.Nat.{ℕ, ◌+◌, ◌≤◌}
use mathlib.Core.Path.{◌≡◌, refl, ap}
use mathlib.Core.Bool.{Bool, true, false, not}
use mathlib.Core.List.{List}
use lib.Dec.{leb}
use lib.ListN.{length}
use borrow.Author.Tests.{le-leb, ltb-true}
use Rattle.reading.specs.declared.Refusal.TheVariants.{Malformed, Unsupported}
use Rattle.reading.specs.declared.Refusal.{Refusal}
use Rattle.reading.specs.declared.Header.{Header}
use Rattle.reading.specs.declared.Record.{Record}
use Rattle.reading.specs.Tests.{◌and◌}
use Rattle.reading.specs.Header.{Stage, more, done, stop, has_frame}
use Rattle.reading.proofs.Stages.{stop_go}
use Rattle.reading.proofs.Frames.{Framed}
use Rattle.std.specs.Prelude.{Ok, Err}
use Rattle.jpeg_header_state.specs.declared.Step.{Step}
use Rattle.jpeg_header_state.specs.declared.Step.TheVariants.{More, Done}
use Rattle.jpeg_header_state.specs.Segments.{stepped, in_segment, numbers_fit, behind_frame}
use Rattle.jpeg_header_state.proofs.Numbers.{numbers_fit_lem}

-- what is left of a segment of tables
pub in_segment_lem : (b : List ℕ) (h : Header) (e : ℕ) (st : Stage) → h.at + length b ≤ e → in_segment b h e st ≡ st
unfolding in_segment
in_segment_lem b h e st p = stop_go (not (leb (h.at + length b) e)) Malformed st (ap not (le-leb (h.at + length b) e p))

-- a scan behind a frame
pub behind_framed : (h : Header) (st : Stage) → Framed h → behind_frame h st ≡ st
unfolding behind_frame
behind_framed h st f = stop_go (has_frame h and not (numbers_fit h.frame)) Unsupported st (go (has_frame h) refl)
  where
    go : (t : Bool) → has_frame h ≡ t → (t and not (numbers_fit h.frame)) ≡ false
    go true p = ap not (numbers_fit_lem h.frame (f (ltb-true 0 h.frame.channels p)))
    go false p = refl

-- ---- the stage of an answer

pub stage_more : (v : Step) (h : Header) (st : Stage) → v ≡ More h → Ok v ≡ stepped st → more h ≡ st
unfolding stepped
stage_more v h (more g) w e = cc
stage_more v h (done q) w e = cc
stage_more v h (stop y) w e = cc

pub stage_done : (v : Step) (r : Record) (st : Stage) → v ≡ Done r → Ok v ≡ stepped st → done r ≡ st
unfolding stepped
stage_done v r (more g) w e = cc
stage_done v r (done q) w e = cc
stage_done v r (stop y) w e = cc

pub stage_stop : (x : Refusal) (st : Stage) → Err x ≡ stepped st → stop x ≡ st
unfolding stepped
stage_stop x (more g) e = cc
stage_stop x (done q) e = cc
stage_stop x (stop y) e = cc
