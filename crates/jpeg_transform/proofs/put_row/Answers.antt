use Rattle.std.proofs.Common.{w64, pos, get_or, refl, to_z-of_z, arith, rules}
use mir.Val.{SFits}
use Rattle.jpeg_transform.specs.Passes.{puts}
use Rattle.jpeg_transform.proofs.Stores.{puts_next}
use Rattle.jpeg_transform.proofs.put_row.Goals as goal

pub loop-u-init : goal.loop-u-init
unfolding puts
loop-u-init c = refl

pub loop-u-preserved : goal.loop-u-preserved
loop-u-preserved c =
    let fits : SFits w64 (get_or c.args.values.now c.loop-u.u (pos 0)) = search rules in
    puts_next _ c.args.i 1 _ c.loop-u.u _ _ _ c.loop-u.invariant (omega arith) (to_z-of_z fits)
