use native.Mathlib.Nat.{zero-add}
use Rattle.jpeg_render_row.proofs.Drawing.{drawn_none, drawn_next}
use Rattle.jpeg_render.proofs.render.join.Goals as goal

pub loop-i-init : goal.loop-i-init
loop-i-init g c = drawn_none _ _ _ _ _

pub loop-i-preserved : goal.loop-i-preserved
loop-i-preserved g c = drawn_next c.loop-i.invariant c.loop-i-test.true (rw zero-add c.pixel.ensures)
