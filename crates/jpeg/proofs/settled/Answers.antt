use Rattle.std.proofs.Common.{◌∙◌, false, arith}
use Rattle.std.proofs.lemmas.Result.{err_from_is_err_and}
use Rattle.reading.proofs.FileBytes.{all_bytes}
use Rattle.jpeg_price.proofs.Admitted.{stops, goes}
use Rattle.jpeg.proofs.Refiled.{settle_stops, settle_goes}
use Rattle.jpeg.proofs.settled.Goals as goal

pub returns-in_err-found : goal.returns-in_err-found
returns-in_err-found c =
    let a = c.args in
    let p = err_from_is_err_and c.from_residual.result c.from_residual.ensures.1 in
    rw (p.1, p.2) (settle_stops a.s.now a.limits a.budget.now a.out.now (stops a.s.now false a.limits a.budget.now c.in_err-found.ensures))

pub returns : goal.returns
returns c =
    let a = c.args in
    c.file.ensures c.admit.new.budget
    ∙ settle_goes a.s.now a.limits a.budget.now a.out.now (all_bytes a.s.now (λ i. omega (arith, c.type_inv.s i)))
    (goes a.s.now false a.limits a.budget.now c.in_ok-found.ensures)
