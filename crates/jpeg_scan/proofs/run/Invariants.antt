-- `run`: before each MCU the cursor follows the scan's, of each record that has the plan, and the levels read are that scan's up to there
-- (ScanFollowed).
use Rattle.std.proofs.Common.{◌≡◌, Some, length}
use Rattle.reading.specs.declared.Record.{Record}
use Rattle.jpeg_scan_plan.specs.Plans.{plan_for}
use Rattle.jpeg_scan.proofs.ScanFollowed.{Walk}
use Rattle.jpeg_scan.proofs.run.Given as goal

abbrev pub invariant-loop-m : goal.invariant-loop-m
invariant-loop-m g l =
    let e = g.E.Engine in
    let s = e.file l.fn.engine in
    let n = e.plan_of l.fn.engine in
    record {
      size : length l.scratch ≡ length l.initial.scratch;
      walks : (r : Record) → Some n ≡ plan_for s r → Walk (e.meets l.fn.engine) s n l.fn.write l.initial.scratch l.scratch l.cursor l.m;
    }
