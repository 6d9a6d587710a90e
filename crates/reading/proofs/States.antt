-- What holds of the header from its first state to the record: where it stands, what it has read, and where the tables lie.
--     step_valid       a step from a valid state leads to a valid state, a fit record or a refusal
--     steps_valid      so does every number of steps from the file's start
--     header_fits      the record of an accepted header is a fit one
--     header_readable  and its scan can be read
use Prim.Native.Nat.{ℕ, ◌+◌, ◌*◌, ◌≤◌}
use mathlib.Core.Path.{◌≡◌, refl, subst}
use mathlib.Core.Bool.{Bool, true, not}
use mathlib.Core.List.{List}
use lib.ListN.{length}
use borrow.Author.Tests.{le-leb}
use Rattle.reading.specs.declared.Refusal.TheVariants.{Malformed}
use Rattle.reading.specs.declared.Header.{Header}
use Rattle.reading.specs.declared.Record.{Record}
use Rattle.reading.specs.Code.Scans.{readable}
use Rattle.reading.specs.Header.{Stage, more, done, stop, step, steps, opens, started, opening, header}
use Rattle.reading.proofs.Sampling.{sampled_so}
use Rattle.reading.proofs.Stages.{stop_or, steps_hold}
use Rattle.reading.proofs.HeaderEnds.{Ok, Down, left, opens_two, step_down}
use Rattle.reading.proofs.HeaderEnds as ends
use Rattle.reading.proofs.FileBytes.{AllBytes}
use Rattle.reading.proofs.Frames.{Shaped}
use Rattle.reading.proofs.GoodTables.{Inv, Ready, Kept, step_kept, opening_kept}
use Rattle.reading.proofs.GoodTables as tables
use Rattle.reading.proofs.Accepted.{Accepted, Sound, step_sound, opening_shaped}
use Rattle.reading.proofs.Accepted as sound

module _ (s : List ℕ) (colour : Bool) where
  pub record Valid (h : Header) : Type 0 where
    -- the place is not past the file, inside a segment of tables not past its end
    pub place : Ok (length s) h
    -- the frame is one of the rules, the interval has two bytes
    pub shape : Shaped h
    -- each table that was read stands before the place, and its codes fit
    pub tables : Inv s colour h

  pub record Fit (r : Record) : Type 0 where
    pub within : r.start ≤ length s
    pub accepted : Accepted colour r
    pub ready : Ready s colour r

  abbrev pub Holds : Stage → Type 0
  Holds (more h) = Valid h
  Holds (done r) = Fit r
  Holds (stop x) = Unit {0}

  joined : (m : ℕ) (st : Stage) → Down (length s) m st → Sound colour st → Kept s colour st → Holds st
  joined m (more h) (ends.on _ o d) (sound.on _ f) (tables.on _ v) = record { place = o; shape = f; tables = v }
  joined m (done r) (ends.ready _ w) (sound.met _ a) (tables.ready _ q) = record { within = w; accepted = a; ready = q }
  joined m (stop x) d f v = tt

  module _ (y : AllBytes s) where
    pub step_valid : (h : Header) → Valid h → Holds (step s colour h)
    step_valid h v = joined (left (length s) h) (step s colour h) (step_down s colour h v.place) (step_sound colour s y h v.shape) (step_kept s colour h v.tables)

    start_valid : Holds (started s)
    start_valid = stop_or Holds (λ x. tt) (not (opens s)) Malformed (more opening) (λ t. record { place = (opens_two s t, tt); shape = opening_shaped colour s y; tables = opening_kept s colour })

    pub steps_valid : (k : ℕ) → Holds (steps s colour k (started s))
    steps_valid k = steps_hold s colour Holds step_valid k (started s) start_valid

    pub header_fits : (r : Record) → header s colour ≡ done r → Fit r
    unfolding header
    header_fits r e = subst Holds e (steps_valid (2 * length s + 1))

-- its scan can be read
pub header_readable : (s : List ℕ) → AllBytes s → (colour : Bool) (r : Record) → header s colour ≡ done r → readable s r ≡ true
unfolding readable
header_readable s y colour r e =
    let f = header_fits s colour y r e in
    rw (
      le-leb r.start (length s) f.within,
      sampled_so r.frame f.accepted.frame.sampling,
    ) refl
