use Rattle.std.proofs.Common.{arith, refl}
use Rattle.jpeg_settle.proofs.Refiling.{copied_length, copied_next}
use Rattle.jpeg_settle.proofs.copy.Goals as goal

pub loop-i-init : goal.loop-i-init
loop-i-init c = refl

pub loop-i-preserved : goal.loop-i-preserved
loop-i-preserved c = copied_next c.args.s.now c.args.out.now c.loop-i.i (omega arith) (omega arith) c.loop-i.invariant
