-- `meant`: the lower half of n bits, and the upper one.
use Rattle.std.proofs.Common.{arith}
use Rattle.jpeg_bits_wide.proofs.Meanings.{low_held, high_held}
use Rattle.jpeg_bits_wide.proofs.meant.Goals as goal

pub returns-then-x-span : goal.returns-then-x-span
returns-then-x-span c = low_held c.args.v c.args.size (omega arith) c.if-x-span.true

pub returns-else-x-span : goal.returns-else-x-span
returns-else-x-span c = high_held c.args.v c.args.size (omega arith) c.if-x-span.false
