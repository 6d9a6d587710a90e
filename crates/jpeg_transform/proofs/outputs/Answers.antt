-- The two halves' sums and differences are the line's outputs.
use Rattle.std.proofs.Common.{◌≡◌, ◌∙◌}
use Rattle.whole.specs.Expressions.{at}
use Rattle.jpeg_transform.specs.Halves.{even_of, odd_of}
use Rattle.jpeg_transform.proofs.Lines.{lent_small, half_is, halves_small, joined_is}
use Rattle.jpeg_transform.proofs.outputs.Goals as goal

even : (c : goal.After-odd) → c.even.result ≡ even_of (at c.args.c 0) (at c.args.c 2) (at c.args.c 4) (at c.args.c 6)
even c = half_is (at c.args.c) c.requires.each even_of 0 2 4 6 c.even.ensures

odd : (c : goal.After-odd) → c.odd.result ≡ odd_of (at c.args.c 1) (at c.args.c 3) (at c.args.c 5) (at c.args.c 7)
odd c = half_is (at c.args.c) c.requires.each odd_of 1 3 5 7 c.odd.ensures

pub even-requires : goal.even-requires
even-requires c = lent_small (at c.args.c) c.requires.each 0 2 4 6

pub odd-requires : goal.odd-requires
odd-requires c = lent_small (at c.args.c) c.requires.each 1 3 5 7

pub joined-requires : goal.joined-requires
joined-requires c = halves_small (at c.args.c) c.requires.each (even c) (odd c)

pub returns : goal.returns
returns c = c.joined.ensures ∙ joined_is (at c.args.c) c.requires.each (even c.before) (odd c.before)
