-- The first y outputs are stored.
use Rattle.std.proofs.Common.{◌≡◌}
use Rattle.whole.specs.Expressions.{at}
use Rattle.jpeg_transform.specs.Passes.{place, puts, in_steps}
use Rattle.jpeg_transform.proofs.store.Given as goal

abbrev pub invariant-loop-y : goal.invariant-loop-y
invariant-loop-y l = l.steps ≡ puts l.fn.steps (place l.x 8) (λ y. in_steps (at l.fn.sums y)) l.y
