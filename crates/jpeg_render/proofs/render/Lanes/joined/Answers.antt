use Rattle.jpeg_render.proofs.Mcus.{lists_mcu}
use Rattle.jpeg_render.proofs.render.Lanes.joined.Goals as goal

pub returns : goal.returns
returns g c = lists_mcu c.requires _ _ _ c.spread_all.ensures c.join.ensures
