use Rattle.std.proofs.Common.{arith}
use Rattle.jpeg_render.proofs.RowDrawn.{picture_none, picture_next, picture_all}
use Rattle.jpeg_render.proofs.render.Source.picture.Goals as goal

pub loop-y-init : goal.loop-y-init
loop-y-init c = picture_none _ _ _ _ c.requires

pub loop-y-preserved : goal.loop-y-preserved
loop-y-preserved c = picture_next _ _ _ _ c.requires c.loop-y.invariant (omega arith) c.any_row.ensures

pub returns : goal.returns
returns c = picture_all _ _ _ _ c.requires c.loop-y.invariant (omega arith)
