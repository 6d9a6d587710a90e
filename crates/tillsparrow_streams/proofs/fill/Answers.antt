use Rattle.std.proofs.Common.{rules}
use Rattle.tillsparrow_streams.proofs.Behind.{more_read}
use Rattle.tillsparrow_streams.proofs.fill.Goals as goal

pub loop-n-preserved : goal.loop-n-preserved
loop-n-preserved g c =
    let before = c.loop-n in
    (search rules, search rules, more_read _ _ _ before.n _ c.in-Ok.more before.buffer _ before.invariant.1 c.in-Ok.ensures.bound.0 before.invariant.2 c.in-Ok.ensures.bytes.0)
