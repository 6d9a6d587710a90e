-- The value stays below the modulus.
use Rattle.std.proofs.Common.{◌<◌}
use Rattle.test_answers.proofs.prepare.Given as goal

abbrev pub invariant-loop-byte : goal.invariant-loop-byte
invariant-loop-byte l = l.value < l.modulus
