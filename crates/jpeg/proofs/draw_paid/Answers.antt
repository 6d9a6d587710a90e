use Rattle.std.proofs.Common.{◌≡◌, sym, ◌∙◌, length, false}
use Rattle.std.proofs.lemmas.Result.{err_from_is_err_and}
use Rattle.reading.specs.Calls.{short_room}
use Rattle.jpeg_price.proofs.Charged.{uncharged, charges}
use Rattle.jpeg.proofs.Decodes.{decode_poor, decode_paid}
use Rattle.jpeg.proofs.draw_paid.Goals as goal

pub returns-in_err-charge : goal.returns-in_err-charge
returns-in_err-charge c =
    let p = err_from_is_err_and c.from_residual.result c.from_residual.ensures.1 in
    let a = c.args in
    let roomy : short_room a.found a.out.now a.scratch.now ≡ false = sym c.if-short_room.ensures in
    rw (p.1, p.2) (decode_poor a.s.now a.found a.out.now a.scratch.now a.budget.now roomy _ _
    (uncharged (length a.s.now) a.found.work a.budget.now c.charge.new.budget c.in_err-charge.ensures))

pub returns : goal.returns
returns c =
    let a = c.args in
    let roomy : short_room a.found a.out.now a.scratch.now ≡ false = sym c.if-short_room.ensures in
    c.draw_file.ensures c.charge.new.budget
    ∙ decode_paid a.s.now a.found a.out.now a.scratch.now a.budget.now roomy c.charge.new.budget
    (charges (length a.s.now) a.found.work a.budget.now c.charge.new.budget c.in_ok-charge.ensures)
