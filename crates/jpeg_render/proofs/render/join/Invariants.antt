-- The loop's invariant: i pixels are written.
use Rattle.jpeg_render_row.proofs.Drawing.{DrawnTo}
use Rattle.jpeg_render.specs.Rows.{in_lists}
use Rattle.jpeg_render.proofs.render.join.Given as goal

abbrev pub invariant-loop-i : goal.invariant-loop-i
invariant-loop-i g l = DrawnTo (in_lists l.fn.lists) g.row.C 0 l.fn.n l.fn.out l.i l.out
