-- `validate`: no plan; and the plan of a record begins in the file.
use Rattle.std.proofs.Common.{◌∙◌, sym}
use Rattle.std.proofs.lemmas.Result.{err_from_is_err_and}
use Rattle.jpeg_scan_plan.proofs.Standing.{ready}
use Rattle.jpeg_scan.proofs.Ends.{unplanned}
use Rattle.jpeg_scan.proofs.validate.Goals as goal

pub returns-in_err-plan : goal.returns-in_err-plan
returns-in_err-plan c =
    let p = err_from_is_err_and c.from_residual.result c.from_residual.ensures.1 in
    rw (p.1, p.2) (unplanned c.args.s.now c.args.found _ c.of.ensures c.nowhere.ensures c.in_err-plan.ensures.value)

pub invariant_of-validate_by : goal.invariant_of-validate_by
invariant_of-validate_by c =
    let u = ready c.args.s.now c.args.found (sym c.in_ok-plan.ensures.ok_part ∙ c.of.ensures) in
    record { begins = u.inside; some = u.numbers.some }
