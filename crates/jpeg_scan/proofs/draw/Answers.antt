-- `draw`: no plan, of which nothing is written; and the plan of a record begins in the file.
use Rattle.std.proofs.Common.{◌∙◌, refl, sym}
use Rattle.std.proofs.lemmas.Result.{err_from_is_err_and}
use Rattle.jpeg_scan_plan.proofs.Standing.{ready}
use Rattle.jpeg_scan.proofs.Ends.{drawn_broken, unplanned}
use Rattle.jpeg_scan.proofs.draw.Goals as goal

pub returns-in_err-plan : goal.returns-in_err-plan
returns-in_err-plan c =
    let p = err_from_is_err_and c.from_residual.result c.from_residual.ensures.1 in
    let e = unplanned c.args.s.now c.args.found _ c.of.ensures c.nowhere.ensures c.in_err-plan.ensures.value in
    rw (p.1, p.2) (e, drawn_broken _ _ _ e refl)

pub invariant_of-draw_by : goal.invariant_of-draw_by
invariant_of-draw_by c =
    let u = ready c.args.s.now c.args.found (sym c.in_ok-plan.ensures.ok_part ∙ c.of.ensures) in
    record { begins = u.inside; some = u.numbers.some }
