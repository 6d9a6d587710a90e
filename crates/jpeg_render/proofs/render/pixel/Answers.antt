use Rattle.jpeg_render.proofs.Drawing.{written_none, written_next}
use Rattle.std.proofs.Common.{refl}
use Rattle.jpeg_render.proofs.render.pixel.Goals as goal

pub loop-c-init : goal.loop-c-init
loop-c-init g c = written_none _ _ _

pub loop-c-preserved : goal.loop-c-preserved
loop-c-preserved g c = written_next _ _ _ _ _ c.loop-c.invariant refl
