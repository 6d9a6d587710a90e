-- `past_full`: so far all are 255, so the run that is left and the place are what the run was at the start.
use Rattle.std.proofs.Common.{◌≡◌, ◌+◌, ◌≤◌, max, length, drop}
use Rattle.reading.specs.Bits.{fulls}
use Rattle.jpeg_scan_plan.proofs.past_full.Given as goal

abbrev pub invariant-loop-i : goal.invariant-loop-i
invariant-loop-i l = (l.i + fulls (drop l.i l.s) ≡ l.at + fulls (drop l.at l.s)) × (l.i ≤ max l.at (length l.s))
