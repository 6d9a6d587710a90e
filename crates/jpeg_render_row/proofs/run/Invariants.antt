-- What the loop of `run` keeps: i pixels are written.
use Rattle.jpeg_render_row.specs.Runs.{in_run}
use Rattle.jpeg_render_row.proofs.Drawing.{DrawnTo}
use Rattle.jpeg_render_row.proofs.run.Given as goal

abbrev pub invariant-loop-i : goal.invariant-loop-i
invariant-loop-i l = DrawnTo (in_run l.luma l.cb l.cr l.colour) 3 0 l.n l.initial.out l.i l.out
