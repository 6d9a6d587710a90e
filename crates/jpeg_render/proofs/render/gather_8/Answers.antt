use Rattle.jpeg_render.proofs.Drawing.{written_none, written_next}
use Rattle.std.proofs.Common.{refl}
use Rattle.jpeg_render.proofs.render.gather_8.Goals as goal

pub loop-j-init : goal.loop-j-init
loop-j-init c = written_none _ _ _

pub loop-j-preserved : goal.loop-j-preserved
loop-j-preserved c = written_next _ _ _ _ _ c.loop-j.invariant refl
