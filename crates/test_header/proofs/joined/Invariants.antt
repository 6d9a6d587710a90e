-- A part has fewer than 65,536 bytes.
use Rattle.std.proofs.Common.{◌*◌, ◌≤◌}
use Rattle.test_header.proofs.joined.Given as goal

abbrev pub invariant-loop-k : goal.invariant-loop-k
invariant-loop-k l = l.length ≤ 65535 * l.k
