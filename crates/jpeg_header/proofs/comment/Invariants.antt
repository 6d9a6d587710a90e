-- `comment`: comment i is comment `before` of those over which the steps that are left go; what is left of the file falls with each.
use Rattle.std.proofs.Common.{length}
use Rattle.reading.proofs.HeaderEnds.{left}
use Rattle.jpeg_header.proofs.Looking.{Looking}
use Rattle.jpeg_header.proofs.comment.Given as goal

abbrev pub invariant-loop-next : goal.invariant-loop-next
invariant-loop-next l = Looking l.s l.i l.state l.before

abbrev pub decreases-loop-next : goal.decreases-loop-next
decreases-loop-next l = left (length l.s) l.state
