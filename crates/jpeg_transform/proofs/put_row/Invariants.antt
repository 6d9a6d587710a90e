-- The first u values are stored.
use Rattle.std.proofs.Common.{◌≡◌}
use Rattle.whole.specs.Expressions.{at}
use Rattle.jpeg_transform.specs.Passes.{place, puts}
use Rattle.jpeg_transform.proofs.put_row.Given as goal

abbrev pub invariant-loop-u : goal.invariant-loop-u
invariant-loop-u l = l.block ≡ puts l.fn.block (place l.fn.i 1) (at l.fn.values) l.u
