-- `settled`: no plan, and what a pass by bit places answers.
use Rattle.std.proofs.Common.{sym, ap, ◌∙◌, arith, length-take-le, take, Err, ◌<◌}
use Rattle.std.proofs.lemmas.Result.{err_from_is_err_and}
use Rattle.jpeg_block_wide.proofs.Stepping.{file_bytes}
use Rattle.jpeg_scan_plan.proofs.Standing.{ready}
use Rattle.jpeg_write_codes.specs.Sheets.{sheet}
use Rattle.jpeg_write_scan.proofs.SettledAnswers.{says_stop, settled_unplanned}
use Rattle.jpeg_write_scan.proofs.settled.Goals as goal

pub returns-in_err-plan : goal.returns-in_err-plan
returns-in_err-plan c =
    let a = c.args in
    let few : a.found.blocks < 4294967296 = omega arith in
    let p = err_from_is_err_and c.from_residual.result c.from_residual.ensures.1 in
    let e = says_stop a.out.now (settled_unplanned a.s.now a.found _ few c.of.ensures c.nowhere-2.ensures c.in_err-plan.ensures.value) in
    (p.1 ∙ ap Err p.2 ∙ e.0, e.1)

pub slice_bounds-sheet-end : goal.slice_bounds-sheet-end
slice_bounds-sheet-end c = sym (length-take-le _ _ (ready c.args.s.now c.args.found (sym c.in_ok-plan.ensures.ok_part ∙ c.of.ensures)).inside)

pub invariant_of-settle : goal.invariant_of-settle
invariant_of-settle c =
    let u = ready c.args.s.now c.args.found (sym c.in_ok-plan.ensures.ok_part ∙ c.of.ensures) in
    record { begins = u.inside; some = u.numbers.some }

pub settle-requires : goal.settle-requires
settle-requires c =
    let n = c.in_ok-plan.plan in (
      (sym c.in_ok-plan.ensures.ok_part ∙ c.of.ensures, omega arith),
      c.sheet-words.ensures ∙ ap (sheet (take n.start c.args.s.now)) c.paired-bases.ensures,
      file_bytes c.args.s.now c.type_inv.s,
    )
