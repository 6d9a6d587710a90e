use Rattle.std.proofs.Common.{◌≡◌, true}
use Rattle.reading.specs.Tests.{within}
use Rattle.reading.proofs.Sampling.{Walk}
use Rattle.reading.proofs.Mcu.of.Given as goal

-- the walk over the channels keeps what was found and what is still to come
abbrev pub invariant-loop-c : goal.invariant-loop-c
invariant-loop-c l =
    (within 1 4 l.frame.channels ≡ true) × Walk l.frame.channels l.frame.across l.frame.down l.wide l.high l.blocks l.c
