use Rattle.std.proofs.Common.{rules}
use Rattle.jpeg_render.proofs.Mcus.{taken_mcu, gray_mcu}
use Rattle.jpeg_render.proofs.render.mcu.Goals as goal

pub returns-then-this-ne0 : goal.returns-then-this-ne0
returns-then-this-ne0 g c =
    let alone = c.requires.gray (search rules) in
    gray_mcu c.requires.fits alone.0 alone.1 c.args.lanes.now.colour _ _ c.gray.ensures

pub returns-in-Some : goal.returns-in-Some
returns-in-Some g c = taken_mcu c.requires.fits (rw c.in-Some.is at c.requires.taken) _ _ c.mcu.ensures
