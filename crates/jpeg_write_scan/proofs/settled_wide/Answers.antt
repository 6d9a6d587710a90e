-- `settled_wide`: what a fast pass answers, and where that one met a fault what a pass by bit places answers.
use Rattle.std.proofs.Common.{rules, refl, sym, ap, ◌∙◌, length-take-le, take, Err}
use Rattle.jpeg_block_wide.proofs.Stepping.{file_bytes}
use Rattle.reading.specs.Code.Scans.{nowhere, settled_of, scan_settled, laid_over}
use Rattle.jpeg_scan_plan.proofs.Standing.{ready}
use Rattle.jpeg_write_codes.specs.Sheets.{sheet}
use Rattle.jpeg_write_scan.proofs.SettledAnswers.{stays_err}
use Rattle.jpeg_write_scan.proofs.Told.{told_broken}
use Rattle.jpeg_write_scan.proofs.settled_wide.Goals as goal

pub slice_bounds-sheet-end : goal.slice_bounds-sheet-end
slice_bounds-sheet-end c = sym (length-take-le _ _ (ready c.args.s.now c.args.found c.in-Some.ensures).inside)

pub slice_bounds-looks-end : goal.slice_bounds-looks-end
slice_bounds-looks-end c = sym (length-take-le _ _ (ready c.args.s.now c.args.found c.in-Some.ensures).inside)

pub invariant_of-settle : goal.invariant_of-settle
invariant_of-settle c =
    let u = ready c.args.s.now c.args.found c.in-Some.ensures in
    record { begins = u.inside; some = u.numbers.some; looked = c.looks.ensures }

pub settle-requires : goal.settle-requires
settle-requires c =
    let n = c.in-Some.plan in (
      (c.in-Some.ensures, search rules),
      c.sheet-words.ensures ∙ ap (sheet (take n.start c.args.s.now)) c.paired-bases.ensures,
      file_bytes c.args.s.now c.type_inv.s,
    )

pub returns-in-Err-Broke : goal.returns-in-Err-Broke
returns-in-Err-Broke c =
    let o = settled_of c.args.s.now c.args.found in
    let told = told_broken (λ w. nowhere) (scan_settled o) c.settle.ensures.0 (c.in-Err-Broke.is ∙ ap Err c.in-Err-Broke.field-0-is) in
    let stays = c.settle.ensures.1 ∙ sym (stays_err o c.args.out.now refl told.1) in
    (c.settled-in-Err-Broke.ensures.0, c.settled-in-Err-Broke.ensures.1 ∙ ap (laid_over o) stays)
