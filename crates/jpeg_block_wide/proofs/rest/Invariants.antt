-- `rest`: at each place the plain walk stands at a bit place that meets the cursor.
use Rattle.std.proofs.Common.{◌-◌, ◌<◌}
use Rattle.jpeg_block_wide.specs.Blocks.{Opened}
use Rattle.jpeg_block_wide.proofs.Going.{Going}
use Rattle.jpeg_block_wide.proofs.rest.Given as goal

abbrev pub invariant-loop-place : goal.invariant-loop-place
invariant-loop-place l = record {
  later : 0 < l.place;
  going :
      (o : Opened l.t l.ac l.look l.from l.s l.fn.w l.initial.levels)
      → Going l.t l.s o.dc l.ac o.p o.b l.at l.acc l.left l.place l.reach l.levels;
}

abbrev pub decreases-loop-place : goal.decreases-loop-place
decreases-loop-place l = 64 - l.place
