-- `settle`: what is foretold is the answer, or that the scan fits; what is then written is the settled scan (Told).
use mathlib.Core.Path.{◌∙◌, ap}
use Rattle.std.specs.Prelude.{Err}
use Rattle.std.proofs.lemmas.Result.{err_from_is_err_and}
use Rattle.jpeg_scan_plan.proofs.Standing.{ready}
use Rattle.jpeg_write_scan.proofs.Told.{refused_by, short_by, written_by}
use Rattle.jpeg_write_scan.proofs.settle.Goals as goal

pub returns-in_err-n : goal.returns-in_err-n
returns-in_err-n g c =
    let e = g.E.Engine in
    let p = err_from_is_err_and c.from_residual.result c.from_residual.ensures.1 in
    refused_by e.says g.met.E.Engine.says_once _ _ _ c.foretell.ensures c.in_err-n.was (p.1 ∙ ap Err p.2)

pub returns-then-out-n : goal.returns-then-out-n
returns-then-out-n g c = let e = g.E.Engine in short_by e.says g.met.E.Engine.says_once _ _ _ c.foretell.ensures c.in_ok-n.was c.if-out-n.true

pub returns : goal.returns
returns g c =
    let e = g.E.Engine in
    let u = ready (e.file c.args.engine.now) c.args.found c.requires.0.0 in
    written_by e.says g.met.E.Engine.says_once u c.requires.1 c.requires.0.1 c.requires.2 _ c.foretell.ensures c.in_ok-n.was c.if-out-n.false c.run.ensures
