-- `header`: the steps that are left give the whole header; what is left of the file falls with each.
use Rattle.std.proofs.Common.{length}
use Rattle.reading.proofs.HeaderEnds.{left}
use Rattle.jpeg_header.proofs.Run.{Running}
use Rattle.jpeg_header.proofs.header.Given as goal

abbrev pub invariant-loop-next : goal.invariant-loop-next
invariant-loop-next l = Running l.s l.colour l.state

abbrev pub decreases-loop-next : goal.decreases-loop-next
decreases-loop-next l = left (length l.s) l.state
