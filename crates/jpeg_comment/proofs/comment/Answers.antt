use Rattle.std.proofs.Common.{arith}
use Rattle.reading.proofs.Comments.{comment_within}
use Rattle.jpeg_comment.proofs.comment.Goals as goal

pub overflow_add-result : goal.overflow_add-result
overflow_add-result c = rw c.comment_part-at.ensures (omega (arith, comment_within c.args.s.now c.args.i))

pub slice_bounds-result-end : goal.slice_bounds-result-end
slice_bounds-result-end c = rw c.comment_part-at.ensures (omega (arith, comment_within c.args.s.now c.args.i))
