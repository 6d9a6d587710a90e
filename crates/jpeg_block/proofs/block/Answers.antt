-- `block`: what the walk answers says what was read, and so which levels are left.
use Rattle.std.proofs.Common.{sym, ◌∙◌, w32, SFits}
use Rattle.std.proofs.lemmas.Int.{to_z-of_z}
use Rattle.jpeg_block.proofs.Remaining.{left_refused, left_read}
use Rattle.jpeg_block.proofs.block.Goals as goal

pub returns-then-is_err : goal.returns-then-is_err
returns-then-is_err c =
    let pred : SFits w32 c.args.pred = c.ranges.pred in
    let e = simp to_z-of_z at c.walk-read.ensures.0 in
    (e, left_refused _ (rw e at (sym c.is_err.ensures.value ∙ c.if-is_err.true)))

pub returns-else-is_err : goal.returns-else-is_err
returns-else-is_err c =
    let pred : SFits w32 c.args.pred = c.ranges.pred in
    let e = simp to_z-of_z at c.walk-read.ensures.0 in
    (e, left_read _ (rw e at (sym c.is_err.ensures.value ∙ c.if-is_err.false)) (simp to_z-of_z at c.walk-read.ensures.1))
