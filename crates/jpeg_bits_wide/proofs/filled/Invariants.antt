-- `filled`: before each byte, those still to come fill the cursor as all of them do.
use Rattle.std.proofs.Common.{◌-◌}
use Rattle.jpeg_bits_wide.proofs.Filling.{cursor, Filling}
use Rattle.jpeg_bits_wide.proofs.filled.Given as goal

abbrev pub invariant-loop-left : goal.invariant-loop-left
invariant-loop-left l = Filling l.s l.fn.w (cursor l.at l.acc l.left)

abbrev pub decreases-loop-left : goal.decreases-loop-left
decreases-loop-left l = 57 - l.left
