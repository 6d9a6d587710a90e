-- The loop's invariant: y rows are written.
use Rattle.jpeg_render.proofs.RowDrawn.{PictureTo}
use Rattle.jpeg_render.proofs.render.Source.picture.Given as goal

abbrev pub invariant-loop-y : goal.invariant-loop-y
invariant-loop-y l = PictureTo l.fn.self.m.frame l.fn.self.colour l.fn.self.samples.now l.fn.out l.y l.out
