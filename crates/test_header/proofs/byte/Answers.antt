use Rattle.std.proofs.Common.{◌<◌, arith}
use Rattle.reading.specs.Header.{byte}
use Rattle.test_header.proofs.byte.Goals as goal

pub returns : goal.returns
returns c = let small : byte c.args.list.now c.args.place < 256 = omega (arith, c.type_inv.list c.args.place) in omega (arith, small, c.byte_at.ensures)
