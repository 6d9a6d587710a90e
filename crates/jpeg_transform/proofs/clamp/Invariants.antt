-- The first k bytes are clamped.
use Rattle.whole.specs.Expressions.{at}
use Rattle.reading.specs.Colour.{to_byte}
use Rattle.jpeg_transform.proofs.Stores.{Front}
use Rattle.jpeg_transform.proofs.clamp.Given as goal

abbrev pub invariant-loop-k : goal.invariant-loop-k
invariant-loop-k l = Front (λ j. to_byte (at l.steps j)) l.fn.out l.k l.out
