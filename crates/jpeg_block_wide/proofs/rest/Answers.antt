-- `rest`: a look that serves, the end code, or a step of the plain walk.
use Rattle.std.proofs.Common.{◌≡◌, ◌+◌, ◌/◌, ◌%◌, refl, sym, pos, get_or, w16, w32, to_z, of_z, SFits, rules, arith}
use Rattle.std.proofs.lemmas.Int.{ints, to_z-of_z}
use Rattle.std.proofs.lemmas.Result.{err_from_is_err_and}
use Rattle.jpeg_block_wide.proofs.Values.{field_means, field_narrow}
use Rattle.jpeg_block_wide.proofs.Stepping.{file_bytes}
use Rattle.jpeg_block_wide.proofs.Looking.{serves_says, ends_says}
use Rattle.jpeg_block_wide.proofs.Going.{set_out, arrived, topped_going, plain_stop, plain_end, plain_skip, plain_put, look_put, look_end}
use Rattle.jpeg_block_wide.proofs.rest.Goals as goal
use Rattle.jpeg_block_wide.proofs.rest.Goals.{else-loop-place-test, then-loop-place-test+else-serves+then-ends, then-loop-place-test+else-serves+else-ends+in_ok-q+in-End}

pub loop-place-init : goal.loop-place-init
loop-place-init c = record { later = omega arith; going = set_out }

pub overflow_cast-levels : goal.overflow_cast-levels
overflow_cast-levels c =
    let fits : SFits w32 c.meant-v.result = search rules in
    rw to_z-of_z (field_narrow _ _ _ c.field.ensures c.meant-v.ensures)

pub loop-place-preserved-then-serves : goal.loop-place-preserved-then-serves
loop-place-preserved-then-serves c =
    let e = c.entry-e.result in
    let serves = serves_says (e / 256) c.topped.result.left (e % 16) (c.loop-place.place + e % 256 / 16) (sym c.if-serves.ensures) in
    let fits : SFits w32 c.meant-v.result = search rules in
    let level : SFits w16 c.meant-v.result = field_narrow _ _ _ c.field.ensures c.meant-v.ensures in
    record {
      later = omega arith;
      going = λ o.
          let here = topped_going (c.loop-place.invariant.going o) (file_bytes _ c.type_inv.s) refl c.topped.ensures in
          rw (to_z-of_z w32 _ fits, to_z-of_z w16 _ level, field_means _ _ _ c.field.ensures c.meant-v.ensures)
          (look_put here c.loop-place-test.true c.loop-place.invariant.later
          c.args.look.now c.args.from o.looks c.entry-e.ensures serves.some serves.there serves.sized serves.inside);
    }

pub returns-in_err-q : goal.returns-in_err-q
returns-in_err-q c o =
    let p = err_from_is_err_and c.from_residual.result c.from_residual.ensures.1 in
    let here = topped_going (c.loop-place.invariant.going o) (file_bytes _ c.type_inv.s) refl c.topped.ensures in
    rw (p.1, p.2)
    (plain_stop here c.loop-place-test.true c.loop-place.invariant.later
    refl c.in_err-q.ensures.same refl)

pub loop-place-preserved-in-Skip : goal.loop-place-preserved-in-Skip
loop-place-preserved-in-Skip c =
    let step = rw c.in-Skip.is at c.in_ok-q.ensures in
    record {
      later = omega arith;
      going = λ o.
          let here = topped_going (c.loop-place.invariant.going o) (file_bytes _ c.type_inv.s) refl c.topped.ensures in
          plain_skip here c.loop-place-test.true c.loop-place.invariant.later
          refl step.same refl;
    }

pub loop-place-preserved : goal.loop-place-preserved
loop-place-preserved c =
    let fits : SFits w16 c.in-Put.z = search rules in
    let step = rw c.in-Put.is at c.in_ok-q.ensures in
    record {
      later = omega arith;
      going = λ o.
          let here = topped_going (c.loop-place.invariant.going o) (file_bytes _ c.type_inv.s) refl c.topped.ensures in
          rw to_z-of_z
          (plain_put here c.loop-place-test.true c.loop-place.invariant.later
          refl step.same refl);
    }

pub returns : goal.returns
returns c o =
    let fits : SFits w16 (get_or c.loop-place.levels 0 (pos 0)) = search rules in
    let first : to_z w32 (of_z w32 (to_z w16 (of_z w16 (get_or c.loop-place.levels 0 (pos 0))))) ≡ get_or c.loop-place.levels 0 (pos 0) = omega (arith, ints) in
    elim c.loop-place-test.branch [
      | else-loop-place-test w ↦ rw (w.at-is, w.acc-is, w.left-is) (arrived (c.loop-place.invariant.going o) w.loop-place-test.false _ refl first)
      | then-loop-place-test+else-serves+then-ends w ↦
          let e = w.entry-e.result in
          let ends = ends_says (e / 256) w.topped.result.left (e % 256) (sym w.if-ends.ensures) in
          let here = topped_going (c.loop-place.invariant.going o) (file_bytes _ c.type_inv.s) refl w.topped.ensures in
          rw (w.at-is, w.acc-is, w.left-is)
          (look_end here w.loop-place-test.true c.loop-place.invariant.later
          c.args.look.now c.args.from o.looks w.entry-e.ensures ends.some ends.there ends.none _ refl first)
      | then-loop-place-test+else-serves+else-ends+in_ok-q+in-End w ↦
          let step = rw w.in-End.is at w.in_ok-q.ensures in
          let here = topped_going (c.loop-place.invariant.going o) (file_bytes _ c.type_inv.s) refl w.topped.ensures in
          rw (w.at-is, w.acc-is, w.left-is)
          (plain_end here w.loop-place-test.true c.loop-place.invariant.later
          refl step.same _ refl first)
    ]
