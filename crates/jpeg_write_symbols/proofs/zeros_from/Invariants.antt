-- The levels from the place to k are zero.
use Rattle.jpeg_write_symbols.proofs.Turning.{Walk}
use Rattle.jpeg_write_symbols.proofs.zeros_from.Given as goal

abbrev pub invariant-loop-k : goal.invariant-loop-k
invariant-loop-k l = Walk l.fn.levels l.fn.place l.k
