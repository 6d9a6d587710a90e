use Rattle.std.proofs.Common.{arith}
use Rattle.std.proofs.lemmas.Result.{err_from_is_err_and}
use Rattle.reading.proofs.FileBytes.{all_bytes}
use Rattle.jpeg_price.proofs.Admitted.{stops, goes}
use Rattle.jpeg.proofs.Inspected.{inspect_stops, inspect_fault, inspect_done}
use Rattle.jpeg.proofs.accepted.Goals as goal

pub returns-in_err-found : goal.returns-in_err-found
returns-in_err-found c =
    let p = err_from_is_err_and c.from_residual.result c.from_residual.ensures.1 in
    rw (p.1, p.2) (inspect_stops c.args.s.now c.args.colour c.args.limits c.args.budget.now (stops c.args.s.now c.args.colour c.args.limits c.args.budget.now c.in_err-found.ensures))

pub returns-in_err-validate : goal.returns-in_err-validate
returns-in_err-validate c =
    let p = err_from_is_err_and c.from_residual-in_err-validate.result c.from_residual-in_err-validate.ensures.1 in
    rw (p.1, p.2)
    (inspect_fault c.args.s.now c.args.colour c.args.limits c.args.budget.now (goes c.args.s.now c.args.colour c.args.limits c.args.budget.now c.in_ok-found.ensures)
    (all_bytes c.args.s.now (λ i. omega (arith, c.type_inv.s i))) c.in_err-validate.ensures)

pub returns : goal.returns
returns c =
    inspect_done c.args.s.now c.args.colour c.args.limits c.args.budget.now (goes c.args.s.now c.args.colour c.args.limits c.args.budget.now c.in_ok-found.ensures)
    (all_bytes c.args.s.now (λ i. omega (arith, c.type_inv.s i))) c.in_ok-validate.ensures
