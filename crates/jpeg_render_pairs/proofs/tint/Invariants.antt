-- What the loop of `tint` keeps: i pixels are written.
use Rattle.jpeg_render_row.proofs.Drawing.{DrawnTo}
use Rattle.jpeg_render_pairs.specs.Parts.{summed}
use Rattle.jpeg_render_pairs.proofs.tint.Given as goal

abbrev pub invariant-loop-i : goal.invariant-loop-i
invariant-loop-i l = DrawnTo (summed l.luma l.reds l.greens l.blues) 3 0 l.n l.initial.out l.i l.out
