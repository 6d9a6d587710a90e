-- `field`: the last bits of the highest.
use Rattle.std.proofs.Common.{◌/◌, ◌%◌, ◌-◌, ◌^◌, ap, arith}
use Rattle.whole.specs.Powers.{power_is}
use Rattle.jpeg_huffman_table.specs.Looks.{field_at}
use Rattle.jpeg_huffman_table.proofs.field.Goals as goal

pub returns : goal.returns
unfolding field_at
returns c = ap (λ k. c.args.acc / 2 ^ ((64 - c.args.total % 64) % 64) % k) (power_is (c.args.size % 16) (omega arith))
