-- `draw_by`: the first reading writes nothing, and the second, of the same scan, writes its samples.
use Rattle.std.proofs.Common.{◌∙◌, ap, length, arith}
use Rattle.std.proofs.lemmas.Result.{err_from_is_err_and}
use Rattle.jpeg_scan_plan.specs.declared.Plan.{Plan}
use Rattle.jpeg_scan_plan.proofs.Standing.{ready}
use Rattle.jpeg_scan.proofs.Ends.{drawn_broken, drawn_without_room, drawn_with_room}
use Rattle.jpeg_scan.proofs.ScanFollowed.{said_done, said_broken}
use Rattle.jpeg_scan.proofs.draw_by.Goals as goal

pub returns-in_err-run : goal.returns-in_err-run
returns-in_err-run g c =
    let p = err_from_is_err_and c.from_residual.result c.from_residual.ensures.1 in
    record {
      told = λ r a. rw (p.1, p.2) (c.in_err-run.ensures r a).0;
      drawn = λ r a.
          let e = c.in_err-run.ensures r a in
          drawn_broken _ r c.args.scratch.now (said_broken g.E.Engine.says _ e.0).1 e.1;
    }

pub returns-then-scratch-plan : goal.returns-then-scratch-plan
returns-then-scratch-plan g c =
    record {
      told = λ r a. (c.in_ok-run.ensures r a).0;
      drawn = λ r a.
          let e = c.in_ok-run.ensures r a in
          let blocks = ap (λ (n : Plan). n.blocks) (c.plan.ensures ∙ (ready _ r a).plan_is) in
          drawn_without_room _ r c.args.scratch.now (said_done g.E.Engine.says _ e.0) (omega (arith, ap length e.1, blocks)) e.1;
    }

pub returns : goal.returns
returns g c =
    record {
      told = λ r a. (c.run-2.ensures r a).0;
      drawn = λ r a.
          let e = c.in_ok-run.ensures r a in
          let blocks = ap (λ (n : Plan). n.blocks) (c.plan.ensures ∙ (ready _ r a).plan_is) in
          drawn_with_room _ r c.args.scratch.now (said_done g.E.Engine.says _ e.0) (omega (arith, ap length e.1, blocks)) e.1 (c.run-2.ensures r a).1;
    }
