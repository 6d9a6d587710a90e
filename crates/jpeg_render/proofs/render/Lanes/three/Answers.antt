use Rattle.std.proofs.Common.{arith, ◌∙◌}
use Rattle.jpeg_render_row.proofs.Running.{run_drawn}
use Rattle.jpeg_render.proofs.Mcus.{few_pixels, run_mcu}
use Rattle.jpeg_render.proofs.render.Lanes.three.Goals as goal

pub returns : goal.returns
returns c =
    run_mcu c.requires _ _ _ _ c.spread_all.ensures
    (c.run.ensures ∙ run_drawn _ _ _ _ _ _ (few_pixels c.requires) (omega (arith, c.requires.room)))
