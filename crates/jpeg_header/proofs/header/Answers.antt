-- `header`: what each step says of the header (Run).
use Rattle.std.proofs.Common.{sym, ◌∙◌, arith}
use Rattle.std.proofs.lemmas.Result.{err_from_is_err_and}
use Rattle.reading.proofs.FileBytes.{all_bytes}
use Rattle.jpeg_header.proofs.Run.{run_start, run_closed, run_more, run_down, run_done, run_stop}
use Rattle.jpeg_header.proofs.header.Goals as goal

pub returns-then-not-opens : goal.returns-then-not-opens
returns-then-not-opens c = run_closed c.args.s.now c.args.colour (sym c.opens.ensures ∙ c.if-not-opens.true)

pub loop-next-init : goal.loop-next-init
loop-next-init c = rw c.fresh-state.ensures (run_start c.args.s.now c.args.colour (sym c.opens.ensures ∙ c.if-not-opens.false))

pub loop-next-smaller : goal.loop-next-smaller
loop-next-smaller c =
    run_down c.args.s.now c.args.colour c.loop-next.state c.in-More.next c.loop-next.invariant _ c.in-More.is c.in_ok-next.ensures

pub loop-next-preserved : goal.loop-next-preserved
loop-next-preserved c =
    run_more c.args.s.now c.args.colour c.loop-next.state c.in-More.next c.loop-next.invariant _ c.in-More.is c.in_ok-next.ensures
    (all_bytes c.args.s.now (λ i. omega (arith, c.type_inv.s i)))

pub returns-in_err-next : goal.returns-in_err-next
returns-in_err-next c =
    let p = err_from_is_err_and c.from_residual.result c.from_residual.ensures.1 in
    rw (p.1, p.2) (run_stop c.args.s.now c.args.colour c.loop-next.state _ c.loop-next.invariant c.in_err-next.ensures)

pub returns-in-Done : goal.returns-in-Done
returns-in-Done c =
    run_done c.args.s.now c.args.colour c.loop-next.state c.in-Done.found _ c.loop-next.invariant c.in-Done.is c.in_ok-next.ensures
