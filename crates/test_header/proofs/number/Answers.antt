use Rattle.std.proofs.Common.{◌+◌, arith}
use Rattle.reading.proofs.FileBytes.{word_small}
use Rattle.test_header.proofs.number.Goals as goal

pub returns : goal.returns
returns c =
    let small = word_small c.args.list.now c.args.place (omega (arith, c.type_inv.list c.args.place)) (omega (arith, c.type_inv.list (c.args.place + 1))) in
    omega (arith, small, c.word_at.ensures)
