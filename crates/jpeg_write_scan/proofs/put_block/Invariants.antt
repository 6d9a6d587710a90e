-- `put_block`: at each turn what was written, and what is to come from the place on, are the block (`Onto`, of Writing).
use Rattle.std.proofs.Common.{◌+◌, ◌*◌, ◌-◌, ◌≤◌, ◌<◌, length}
use Rattle.jpeg_write_bits.specs.Page.{page}
use Rattle.jpeg_write_scan.specs.Steps.{onwards}
use Rattle.jpeg_write_scan.proofs.Writing.{Onto}
use Rattle.jpeg_write_scan.proofs.put_block.Given as goal

abbrev pub invariant-loop-pen : goal.invariant-loop-pen
invariant-loop-pen l = record {
  full : 0 < length l.levels;
  within : l.place ≤ length l.levels;
  low : l.run ≤ l.place;
  onto : Onto (onwards l.dc l.ac l.pred l.levels 0 0) (onwards l.dc l.ac l.pred l.levels l.place l.run) (page l.fn.out l.fn.p) (page l.out l.pen);
}

abbrev pub decreases-loop-pen : goal.decreases-loop-pen
decreases-loop-pen l = 2 * (length l.levels - l.place) + l.run
