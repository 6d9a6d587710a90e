-- `walk`: what a step says at a place, by the table of that place.
use Rattle.std.proofs.Common.{sym, rules, arith, w16, w32, SFits}
use Rattle.std.proofs.lemmas.Int.{ints, to_z-of_z}
use Rattle.std.proofs.lemmas.Bool.Decides.{nat_tests}
use Rattle.reading.proofs.BlockAnswers.{said_got, said_fault, levels_got, levels_fault}
use Rattle.jpeg_block.proofs.Steps.{Puts}
use Rattle.jpeg_block.proofs.Remaining.{begun, at_64, stopped, ended, skipped, put_room, put}
use Rattle.jpeg_block.proofs.walk.Goals as goal
use Rattle.jpeg_block.proofs.walk.Goals.{else-loop-place-test, then-loop-place-test+in-Ok-End}

pub loop-place-init : goal.loop-place-init
loop-place-init c = record { base = grind (arith, nat_tests); walk = rw c.requires (begun _ _ _ _ _ _) }

pub returns-in-Err : goal.returns-in-Err
returns-in-Err c =
    let pred : SFits w32 c.args.pred = c.ranges.pred in
    let e = simp to_z-of_z at (stopped c.loop-place.invariant.walk (omega arith) c.loop-place.invariant.base (sym (rw c.in-Err.is at c.one_step.ensures))) in
    (said_fault e, levels_fault e _)

pub loop-place-preserved-in-Ok-Skip : goal.loop-place-preserved-in-Ok-Skip
loop-place-preserved-in-Ok-Skip c = record {
  base = grind (arith, nat_tests);
  walk = skipped c.loop-place.invariant.walk (omega arith) c.loop-place.invariant.base (sym (rw (c.in-Ok-Skip.is, c.in-Ok-Skip.field-0-is) at c.one_step.ensures));
}

room : (c : goal.In-Ok-Put-unread) → Puts c.loop-place.place c.in-Ok-Put.at c.in-Ok-Put.level
room c = put_room c.loop-place.invariant.walk (omega arith) c.loop-place.invariant.base (sym (rw (c.in-Ok-Put.is, c.in-Ok-Put.field-0-is) at c.one_step.ensures))

pub offset_bounds-levels-at : goal.offset_bounds-levels-at
offset_bounds-levels-at c = omega (arith, (room c).inside)

pub bounds-levels-at : goal.bounds-levels-at
bounds-levels-at c = (room c).inside

pub overflow_add-reach : goal.overflow_add-reach
overflow_add-reach c = omega (arith, (room c).inside)

pub overflow_add-place-in-Ok-Put : goal.overflow_add-place-in-Ok-Put
overflow_add-place-in-Ok-Put c = omega (arith, (room c).inside)

pub loop-place-smaller : goal.loop-place-smaller
loop-place-smaller c =
    let room = put_room c.loop-place.invariant.walk (omega arith) c.loop-place.invariant.base (sym (rw (c.in-Ok-Put.is, c.in-Ok-Put.field-0-is) at c.one_step.ensures)) in
    omega (arith, room.inside, room.onwards)

pub loop-place-preserved : goal.loop-place-preserved
loop-place-preserved c =
    let fits : SFits w16 c.in-Ok-Put.level = search rules in
    record {
      base = grind (arith, nat_tests);
      walk = rw (to_z-of_z w16 _ fits)
          (put c.loop-place.invariant.walk (omega arith) c.loop-place.invariant.base (sym (rw (c.in-Ok-Put.is, c.in-Ok-Put.field-0-is) at c.one_step.ensures)));
    }

-- behind place 63 nothing is left to be read, and behind an end code nothing is either
pub returns : goal.returns
returns c =
    let pred : SFits w32 c.args.pred = c.ranges.pred in
    elim c.loop-place-test.branch [
      | else-loop-place-test w ↦
          let e = simp to_z-of_z at (at_64 c.loop-place.invariant.walk (omega (arith, w.loop-place-test.false))) in
          rw w.here-is (said_got e _ _ (omega (arith, ints)) c.loop-place.invariant.walk.many, levels_got e _)
      | then-loop-place-test+in-Ok-End w ↦
          let e = simp to_z-of_z at (ended c.loop-place.invariant.walk (omega (arith, w.loop-place-test.true)) c.loop-place.invariant.base
          (sym (rw (w.in-Ok-End.is, w.in-Ok-End.field-0-is) at w.one_step.ensures))) in
          rw w.here-is (said_got e _ _ (omega (arith, ints)) c.loop-place.invariant.walk.many, levels_got e _)
    ]
