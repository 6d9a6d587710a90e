-- `foretell`: what measuring or reading says of a scan that is yet to be written (Told, SureScans).
use Prim.Native.Nat.{ℕ}
use mathlib.Core.Path.{refl, sym, ◌∙◌, ap}
use mathlib.Core.Bool.{Bool}
use Rattle.std.specs.Prelude.{Err}
use Rattle.std.proofs.lemmas.Result.{err_from_is_err_and}
use Rattle.reading.specs.Code.Scans.{settled_of}
use Rattle.jpeg_scan_plan.proofs.Standing.{ready}
use Rattle.jpeg_scan.proofs.ScanFollowed.{said_done}
use Rattle.jpeg_write_codes.specs.Sheets.{sure}
use Rattle.jpeg_write_scan.specs.Pass.{foretold}
use Rattle.jpeg_write_scan.specs.Engines.{told_by}
use Rattle.jpeg_write_scan.proofs.SureScans.{foretold_measured, read_done}
use Rattle.jpeg_write_scan.proofs.Told.{measured_by, stop_by}
use Rattle.jpeg_write_scan.proofs.foretell.Goals as goal

pub returns-then-not-sure : goal.returns-then-not-sure
returns-then-not-sure g c =
    let e = g.E.Engine in
    let s = e.file c.args.engine.now in
    let u = ready s c.args.found c.requires.0.0 in
    measured_by e.says g.met.E.Engine.says_once u c.requires.0.1 c.measure.ensures
    ∙ ap (told_by e.says)
    (foretold_measured _ c.args.room (settled_of s c.args.found) (sym (c.if-not-sure.ensures ∙ ap (λ (k : ℕ). sure c.args.found c.args.words.now k c.args.room) c.coded.ensures)))

pub returns-in_err-validate_by : goal.returns-in_err-validate_by
returns-in_err-validate_by g c =
    let e = g.E.Engine in
    let s = e.file c.args.engine.now in
    let u = ready s c.args.found c.requires.0.0 in
    let p = err_from_is_err_and c.from_residual.result c.from_residual.ensures.1 in
    ap (told_by e.says) (p.1 ∙ ap Err p.2)
    ∙ stop_by e.says g.met.E.Engine.says_once u c.requires.1 c.requires.0.1 c.args.room (c.validate_by.ensures c.args.found c.requires.0.0) c.in_err-validate_by.was
    ∙ ap (told_by e.says)
    (ap (λ (t : Bool). foretold t c.args.room (settled_of s c.args.found)) (c.if-not-sure.ensures ∙ ap (λ (k : ℕ). sure c.args.found c.args.words.now k c.args.room) c.coded.ensures))

pub returns : goal.returns
returns g c =
    let e = g.E.Engine in
    let s = e.file c.args.engine.now in
    let u = ready s c.args.found c.requires.0.0 in
    let read = said_done e.says _ (sym c.in_ok-validate_by.was ∙ c.validate_by.ensures c.args.found c.requires.0.0) in
    ap (told_by e.says)
    (read_done u c.requires.1 c.requires.0.1 c.args.room read refl
    ∙ ap (λ (t : Bool). foretold t c.args.room (settled_of s c.args.found)) (c.if-not-sure.ensures ∙ ap (λ (k : ℕ). sure c.args.found c.args.words.now k c.args.room) c.coded.ensures))
