use Rattle.std.proofs.Common.{arith}
use Rattle.jpeg_transform.proofs.Stores.{front_all}
use Rattle.jpeg_transform.proofs.clamp.Goals as goal

pub returns : goal.returns
returns c = front_all c.loop-k.invariant (omega arith) c.requires
