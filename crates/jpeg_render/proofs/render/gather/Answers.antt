use Rattle.std.proofs.Common.{arith}
use Rattle.jpeg_render.proofs.Spreading.{gathered_next}
use Rattle.jpeg_render.proofs.render.gather.Goals as goal

pub loop-block-preserved : goal.loop-block-preserved
loop-block-preserved c = gathered_next _ _ c.loop-block.block _ _ c.loop-block.invariant (omega arith) c.gather_8.ensures
