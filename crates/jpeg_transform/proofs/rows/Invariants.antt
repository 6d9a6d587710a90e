-- The rows above y are done.
use Rattle.std.proofs.Common.{◌*◌}
use Rattle.jpeg_transform.proofs.Passes.{RowsTo}
use Rattle.jpeg_transform.proofs.rows.Given as goal

abbrev pub invariant-loop-y : goal.invariant-loop-y
invariant-loop-y l = RowsTo l.fn.block (8 * l.y) l.block
