-- The loop's invariant: the pixels of some MCUs are written, and the offset is that of the next one.
use Rattle.std.proofs.Common.{◌-◌}
use Rattle.jpeg_render.proofs.RowDrawn.{RowTo}
use Rattle.jpeg_render.proofs.render.Source.row.Given as goal

abbrev pub invariant-loop-x : goal.invariant-loop-x
invariant-loop-x g l = RowTo l.fn.self.m.frame l.fn.self.colour l.fn.y l.fn.self.samples.now l.fn.out l.offset l.x l.out

abbrev pub decreases-loop-x : goal.decreases-loop-x
decreases-loop-x g l = l.fn.self.m.frame.width - l.x
