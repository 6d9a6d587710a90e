-- `order`: from the last block to the first, a digit for each.
use Rattle.std.proofs.Common.{◌≡◌, ◌-◌}
use Rattle.reading.specs.Layout.{channel_in}
use Rattle.reading.specs.Tables.{shape_of}
use Rattle.jpeg_scan_plan.specs.Plans.{digits}
use Rattle.jpeg_scan_plan.proofs.order.Given as goal

abbrev pub invariant-loop-j : goal.invariant-loop-j
invariant-loop-j l = l.list ≡ digits (channel_in (shape_of l.frame).factors) l.j (10 - l.j)
