use Rattle.jpeg_render.proofs.Mcus.{wide_three}
use Rattle.jpeg_render.proofs.render.LumaChroma.wide.Goals as goal

pub returns : goal.returns
returns g c = wide_three c.requires _ _ _ _ c.spread.ensures c.spread-2.ensures c.spread-3.ensures c.run.ensures
