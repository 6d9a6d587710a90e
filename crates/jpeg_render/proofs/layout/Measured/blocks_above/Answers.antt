-- Sides of at most 65535 keep each product within 64 bits.
use Rattle.std.proofs.Common.{arith}
use Rattle.jpeg_render.proofs.RowPlaces.{high_is, down_is, blocks_is, across_asked, strips_most, above_most}
use Rattle.jpeg_render.proofs.layout.Measured.blocks_above.Goals as goal

pub overflow_mul-result : goal.overflow_mul-result
overflow_mul-result c = omega (arith, down_is _ c.args.self.sized c.args.self.of_frame, high_is _ c.args.self.sized)

pub nonzero_div-result : goal.nonzero_div-result
nonzero_div-result c = omega (arith, down_is _ c.args.self.sized c.args.self.of_frame, high_is _ c.args.self.sized)

pub overflow_mul-result-2 : goal.overflow_mul-result-2
overflow_mul-result-2 c =
    rw (across_asked _ c.args.self.sized c.args.self.of_frame c.mcus.ensures, down_is _ c.args.self.sized c.args.self.of_frame)
    (omega (arith, strips_most _ c.args.self.sized _ c.requires))

pub overflow_mul-result-3 : goal.overflow_mul-result-3
overflow_mul-result-3 c =
    rw (
      across_asked _ c.args.self.sized c.args.self.of_frame c.mcus.ensures,
      down_is _ c.args.self.sized c.args.self.of_frame,
      blocks_is _ c.args.self.sized c.args.self.of_frame,
    )
    (omega (arith, above_most _ c.args.self.sized _ c.requires))

pub returns : goal.returns
returns c =
    rw (
      across_asked _ c.args.self.sized c.args.self.of_frame c.mcus.ensures,
      down_is _ c.args.self.sized c.args.self.of_frame,
      blocks_is _ c.args.self.sized c.args.self.of_frame,
    )
