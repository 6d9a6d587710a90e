-- `sheet`: the words of the next table are put behind those of the tables before it.
use Rattle.std.proofs.Common.{◌≡◌, ◌+◌, ◌-◌, ◌*◌, arith, rules}
use Rattle.jpeg_write_codes.proofs.SheetFilled.{filled_none, filled_next}
use Rattle.jpeg_write_codes.proofs.sheet.Goals as goal

pub loop-i-init : goal.loop-i-init
loop-i-init c = filled_none _ _ _ (search rules)

pub loop-i-preserved : goal.loop-i-preserved
loop-i-preserved c =
    let long : 256 * c.loop-i.i + 256 - 256 * c.loop-i.i ≡ 256 = omega arith in
    filled_next c.loop-i.invariant (search rules) long c.codes.ensures
