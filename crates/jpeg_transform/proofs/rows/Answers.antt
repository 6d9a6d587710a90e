use Rattle.std.proofs.Common.{arith, ◌*◌, ◌+◌, ◌≡◌}
use Rattle.jpeg_transform.proofs.Passes.{rows_next, rows_done, rows_within}
use Rattle.jpeg_transform.proofs.rows.Goals as goal

pub row-requires : goal.row-requires
row-requires c = (rows_within c.requires.1 c.loop-y.invariant, omega arith)

pub loop-y-preserved : goal.loop-y-preserved
loop-y-preserved c =
    let next : 8 * (c.loop-y.y + 1) ≡ 8 * c.loop-y.y + 8 = omega arith in
    rw (next, c.row.ensures) (rows_next c.loop-y.invariant (omega arith))

pub returns : goal.returns
returns c = rows_done c.loop-y.invariant (omega arith)
