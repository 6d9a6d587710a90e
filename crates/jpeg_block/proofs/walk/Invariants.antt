-- `walk`: at each place the block is what is still to be read there, behind the levels that stand (`Walk`, of Remaining).
use Rattle.std.proofs.Common.{◌≡◌, ◌-◌, cond, eqb}
use Rattle.jpeg_block.proofs.Remaining.{Walk}
use Rattle.jpeg_block.proofs.walk.Given as goal

abbrev pub invariant-loop-place : goal.invariant-loop-place
invariant-loop-place l = record {
  base : l.base ≡ cond (eqb l.place 0) l.dc l.ac;
  walk : Walk l.t l.s l.dc l.ac l.pred l.initial.here l.here l.place l.reach l.levels;
}

abbrev pub decreases-loop-place : goal.decreases-loop-place
decreases-loop-place l = 64 - l.place
