-- The columns before x are there, in steps.
use Rattle.jpeg_transform.proofs.Passes.{ColumnsTo}
use Rattle.jpeg_transform.proofs.columns.Given as goal

abbrev pub invariant-loop-x : goal.invariant-loop-x
invariant-loop-x l = ColumnsTo l.block l.x l.steps
