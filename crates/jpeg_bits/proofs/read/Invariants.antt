-- `read`: before each byte, the bits still to come make of the number so far what all of them make of 0.
use Rattle.std.proofs.Common.{◌≡◌, ◌-◌, ◌^◌, ◌<◌, ◌≤◌}
use Rattle.jpeg_bits.proofs.Field.{further}
use Rattle.jpeg_bits.proofs.read.Given as goal

abbrev pub invariant-loop-here : goal.invariant-loop-here
invariant-loop-here l = record {
  fewer : l.more ≤ l.n;
  small : l.value < 2 ^ (l.n - l.more);
  same : further l.s l.n 0 l.initial.here ≡ further l.s l.more l.value l.here;
}

abbrev pub decreases-loop-here : goal.decreases-loop-here
decreases-loop-here l = l.more
