-- `run`: before each MCU what is still to come is what was to come at the start (ScanFollowed).
use Rattle.jpeg_write_scan.proofs.ScanFollowed.{Walk}
use Rattle.jpeg_write_scan.proofs.run.Given as goal

abbrev pub invariant-loop-m : goal.invariant-loop-m
invariant-loop-m g l = let e = g.E.Engine in Walk (e.meets l.engine) (e.file l.engine) (e.plan_of l.engine) l.fn.out l.out l.at l.m
