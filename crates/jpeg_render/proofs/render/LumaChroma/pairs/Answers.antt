use Rattle.jpeg_render.proofs.Mcus.{pairs_three}
use Rattle.jpeg_render.proofs.render.LumaChroma.pairs.Goals as goal

pub returns : goal.returns
returns c = pairs_three c.requires _ c.gather.ensures c.tinted.ensures
