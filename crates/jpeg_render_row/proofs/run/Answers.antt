-- Where the lists or the buffer are too short it stays as it was; else the loop's pixels are the run.
use Rattle.std.proofs.Common.{arith, sym, ◌∙◌}
use Rattle.jpeg_render_row.specs.Runs.{in_run}
use Rattle.jpeg_render_row.proofs.Drawing.{drawn_none, drawn_first, drawn_all}
use Rattle.jpeg_render_row.proofs.Running.{run_long, run_cut, run_drawn}
use Rattle.jpeg_render_row.proofs.run.Goals as goal
use Rattle.jpeg_render_row.proofs.run.Goals.{then-n-gt32-via-then-n-gt32, then-n-gt32-via-else-n-gt32+then-out-n}

pub returns-then-n-gt32 : goal.returns-then-n-gt32
returns-then-n-gt32 c =
    elim c.then-n-gt32.branch [
      | then-n-gt32-via-then-n-gt32 w ↦ sym (run_long _ _ _ _ _ _ (omega arith))
      | then-n-gt32-via-else-n-gt32+then-out-n w ↦ sym (run_cut _ _ _ _ _ _ (omega arith) (omega arith))
    ]

pub loop-i-init : goal.loop-i-init
loop-i-init c = drawn_none _ _ _ _ _

pub loop-i-preserved : goal.loop-i-preserved
unfolding in_run
loop-i-preserved c = drawn_first c.loop-i.invariant (omega arith) c.pixel.ensures

pub returns : goal.returns
returns c = drawn_all c.loop-i.invariant (omega arith) ∙ sym (run_drawn _ _ _ _ _ _ (omega arith) (omega arith))
