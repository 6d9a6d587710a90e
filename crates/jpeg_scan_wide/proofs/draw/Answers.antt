-- `draw`: no plan, of which nothing is written; the plan of a record begins in the file; and of a scan that breaks the fast engine writes
-- nothing.
use Rattle.std.proofs.Common.{◌∙◌, refl, sym, ap, length-take-le}
use Rattle.std.proofs.lemmas.Result.{err_from_is_err_and}
use Rattle.reading.specs.Code.Scans.{nowhere}
use Rattle.jpeg_scan.specs.Steps.{drawn_for}
use Rattle.jpeg_scan_plan.proofs.Standing.{ready}
use Rattle.jpeg_scan.proofs.Ends.{drawn_broken, unplanned}
use Rattle.jpeg_scan.proofs.ScanFollowed.{said_broken}
use Rattle.jpeg_scan_wide.proofs.draw.Goals as goal

pub returns-in_err-plan : goal.returns-in_err-plan
returns-in_err-plan c =
    let p = err_from_is_err_and c.from_residual.result c.from_residual.ensures.1 in
    let e = unplanned c.args.s.now c.args.found _ c.of.ensures c.nowhere.ensures c.in_err-plan.ensures.value in
    rw (p.1, p.2) (e, drawn_broken _ _ _ e refl)

pub slice_bounds-looks-end : goal.slice_bounds-looks-end
slice_bounds-looks-end c =
    sym (length-take-le _ _ (ready c.args.s.now c.args.found (sym c.in_ok-plan.ensures.ok_part ∙ c.of.ensures)).inside)

pub invariant_of-draw_by : goal.invariant_of-draw_by
invariant_of-draw_by c =
    let u = ready c.args.s.now c.args.found (sym c.in_ok-plan.ensures.ok_part ∙ c.of.ensures) in
    record { begins = u.inside; some = u.numbers.some; looked = c.looks.ensures }

pub returns-in-Err : goal.returns-in-Err
returns-in-Err c =
    let of = sym c.in_ok-plan.ensures.ok_part ∙ c.of.ensures in
    let w = said_broken (λ w. nowhere) _ (sym c.in-Err.is ∙ c.draw_by.ensures.told c.args.found of) in
    let same = c.draw_by.ensures.drawn c.args.found of ∙ sym (drawn_broken _ _ _ w.1 refl) in
    (c.draw-in-Err.ensures.0, c.draw-in-Err.ensures.1 ∙ ap (drawn_for c.args.s.now c.args.found) same)
