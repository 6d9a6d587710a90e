-- The numbers are small.
use Rattle.std.proofs.Common.{arith}
use Rattle.reading.specs.Layout.{per_mcu, block_count}
use Rattle.jpeg_render.proofs.RowPlaces.{across_asked, down_asked, blocks_is, mcus_most, blocks_most}
use Rattle.jpeg_render.proofs.layout.Measured.all_samples.Goals as goal

pub overflow_mul-result : goal.overflow_mul-result
overflow_mul-result c =
    rw (across_asked _ c.args.self.sized c.args.self.of_frame c.mcus.ensures, down_asked _ c.args.self.sized c.args.self.of_frame c.mcus-2.ensures)
    (omega (arith, mcus_most _ c.args.self.sized))

pub overflow_mul-result-2 : goal.overflow_mul-result-2
overflow_mul-result-2 c =
    rw (
      across_asked _ c.args.self.sized c.args.self.of_frame c.mcus.ensures,
      down_asked _ c.args.self.sized c.args.self.of_frame c.mcus-2.ensures,
      blocks_is _ c.args.self.sized c.args.self.of_frame,
    )
    (omega (arith, blocks_most _ c.args.self.sized))

pub overflow_mul-result-3 : goal.overflow_mul-result-3
overflow_mul-result-3 c =
    rw (
      across_asked _ c.args.self.sized c.args.self.of_frame c.mcus.ensures,
      down_asked _ c.args.self.sized c.args.self.of_frame c.mcus-2.ensures,
      blocks_is _ c.args.self.sized c.args.self.of_frame,
    )
    (omega (arith, blocks_most _ c.args.self.sized))

pub returns : goal.returns
unfolding block_count per_mcu
returns c =
    rw (
      across_asked _ c.args.self.sized c.args.self.of_frame c.mcus.ensures,
      down_asked _ c.args.self.sized c.args.self.of_frame c.mcus-2.ensures,
      blocks_is _ c.args.self.sized c.args.self.of_frame,
    )
