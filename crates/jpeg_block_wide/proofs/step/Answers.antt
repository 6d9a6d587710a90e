-- `step`: no symbol, one that may not stand, the end, 16 zeros, or a value that is there or not.
use Rattle.std.proofs.Common.{◌+◌, refl, ap, ◌∙◌, w16, w32, SFits, arith, rules}
use Rattle.std.proofs.lemmas.Int.{to_z-of_z}
use Rattle.std.proofs.lemmas.Result.{err_from_is_err_and}
use Rattle.jpeg_block.proofs.Steps.{Room, value_room}
use Rattle.whole.specs.Expressions.{fits_abs}
use Rattle.jpeg_block.specs.Step.{level_at}
use Rattle.jpeg_bits_wide.specs.Cursor.{taken}
use Rattle.jpeg_block_wide.proofs.Values.{value_few, value_means, value_level}
use Rattle.jpeg_block_wide.proofs.Stepping.{file_bytes, plain_stopped, plain_ended, plain_skipped, plain_wrong, plain_cut, plain_valued}
use Rattle.jpeg_block_wide.proofs.step.Goals as goal

pub returns-in_err-x : goal.returns-in_err-x
returns-in_err-x c =
    let p = err_from_is_err_and c.from_residual.result c.from_residual.ensures.1 in
    rw (p.1, p.2) (plain_stopped _ _ _ _ _ _ (file_bytes _ c.type_inv.s) c.in_err-x.ensures)

pub returns-in_err-ask : goal.returns-in_err-ask
returns-in_err-ask c =
    let p = err_from_is_err_and c.from_residual-in_err-ask.result c.from_residual-in_err-ask.ensures.1 in
    rw (p.1, p.2) (plain_wrong _ _ _ _ _ _ (file_bytes _ c.type_inv.s) c.in_ok-x.ensures c.in_err-ask.ensures)

pub returns-in-End : goal.returns-in-End
returns-in-End c = plain_ended _ _ _ _ _ _ (file_bytes _ c.type_inv.s) c.in_ok-x.ensures (rw c.in-End.is at c.in_ok-ask.ensures)

pub returns-in-Skip : goal.returns-in-Skip
returns-in-Skip c = plain_skipped _ _ _ _ _ _ (file_bytes _ c.type_inv.s) c.in_ok-x.ensures (rw c.in-Skip.is at c.in_ok-ask.ensures)

pub returns-then-left-size : goal.returns-then-left-size
returns-then-left-size c =
    rw c.fault_at.ensures
    (plain_cut _ _ _ _ _ _ (file_bytes _ c.type_inv.s) c.in_ok-x.ensures (rw c.in-Value.is at c.in_ok-ask.ensures) c.if-left-size.true)

pub overflow_cast-top : goal.overflow_cast-top
overflow_cast-top c =
    let ask = rw c.in-Value.is at c.in_ok-ask.ensures in
    let room : Room c.args.place c.in-Value.run' c.in-Value.size = value_room c.args.place c.in_ok-x.x ask refl in
    let few = value_few _ _ (omega arith) room.few c.top.ensures in
    omega (arith, few)

pub overflow_shl-after : goal.overflow_shl-after
overflow_shl-after c =
    let ask = rw c.in-Value.is at c.in_ok-ask.ensures in
    let room : Room c.args.place c.in-Value.run' c.in-Value.size = value_room c.args.place c.in_ok-x.x ask refl in
    omega arith

pub overflow_add-place : goal.overflow_add-place
overflow_add-place c =
    let ask = rw c.in-Value.is at c.in_ok-ask.ensures in
    let room : Room c.args.place c.in-Value.run' c.in-Value.size = value_room c.args.place c.in_ok-x.x ask refl in
    omega arith

pub overflow_cast-v : goal.overflow_cast-v
overflow_cast-v c =
    let ask = rw c.in-Value.is at c.in_ok-ask.ensures in
    let room : Room c.args.place c.in-Value.run' c.in-Value.size = value_room c.args.place c.in_ok-x.x ask refl in
    let fits : SFits w32 c.meant-v.result = search rules in
    rw to_z-of_z (fits_abs (value_level _ _ (omega arith) room.few c.top.ensures c.meant-v.ensures) tt)

pub returns-else-left-size : goal.returns-else-left-size
returns-else-left-size c =
    let ask = rw c.in-Value.is at c.in_ok-ask.ensures in
    let room : Room c.args.place c.in-Value.run' c.in-Value.size = value_room c.args.place c.in_ok-x.x ask refl in
    let fits : SFits w32 c.meant-v.result = search rules in
    let short : SFits w16 c.meant-v.result = fits_abs (value_level _ _ (omega arith) room.few c.top.ensures c.meant-v.ensures) tt in
    let pred : SFits w32 c.args.pred = c.ranges.pred in
    plain_valued _ _ _ _ _ _ (file_bytes _ c.type_inv.s) c.in_ok-x.ensures ask c.if-left-size.false
    (simp to_z-of_z at c.level.ensures
    ∙ ap (λ z. level_at (c.args.place + c.in-Value.run') c.args.pred z (taken c.in-Value.size c.in_ok-x.behind))
    (value_means _ _ (omega arith) room.few c.top.ensures c.meant-v.ensures))
