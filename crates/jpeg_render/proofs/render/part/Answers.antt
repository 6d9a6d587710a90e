use Rattle.std.proofs.Common.{arith, refl}
use Rattle.jpeg_render.specs.Rows.{lane}
use Rattle.jpeg_render.proofs.Spreading.{lanes_next, lane_read}
use Rattle.jpeg_render.proofs.render.part.Goals as goal

pub bounds-samples-from : goal.bounds-samples-from
unfolding lane
bounds-samples-from c = omega (arith, lane_read _ _ _ _ c.requires c.loop-i.i c.loop-i-test.true)

pub loop-i-preserved : goal.loop-i-preserved
unfolding lane
loop-i-preserved c = lanes_next _ _ _ _ c.loop-i.i _ _ c.loop-i.invariant c.loop-i-test.true c.requires.most refl
