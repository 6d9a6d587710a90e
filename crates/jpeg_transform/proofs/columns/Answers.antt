use Rattle.std.proofs.Common.{arith}
use Rattle.jpeg_transform.proofs.Passes.{columns_next, columns_done}
use Rattle.jpeg_transform.proofs.columns.Goals as goal

pub loop-x-preserved : goal.loop-x-preserved
loop-x-preserved c = rw c.column.ensures (columns_next c.loop-x.invariant (omega arith))

pub returns : goal.returns
returns c = columns_done c.loop-x.invariant (omega arith)
