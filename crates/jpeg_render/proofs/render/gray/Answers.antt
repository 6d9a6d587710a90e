use Rattle.std.proofs.Common.{arith, refl}
use Rattle.jpeg_render.proofs.Drawing.{written_none, front_next, front_pixels}
use Rattle.jpeg_render.proofs.render.gray.Goals as goal

pub loop-i-init : goal.loop-i-init
loop-i-init c = written_none _ _ _

pub loop-i-preserved : goal.loop-i-preserved
loop-i-preserved c = front_next _ _ _ _ c.loop-i.invariant refl

pub returns : goal.returns
returns c = front_pixels c.args.samples.now c.args.out.now c.args.from c.loop-i.i c.args.n c.loop-i.invariant (omega arith)
