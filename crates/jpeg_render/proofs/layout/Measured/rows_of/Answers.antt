use Rattle.std.proofs.Common.{arith, refl}
use Rattle.jpeg_render.proofs.RowPlaces.{sampling, high_is, down_is, rows_none, row_fits, few_blocks, rows_next}
use Rattle.jpeg_render.proofs.layout.Measured.rows_of.Goals as goal

pub overflow_mul-v : goal.overflow_mul-v
overflow_mul-v c = omega (arith, down_is _ c.args.self.sized c.args.self.of_frame, high_is _ c.args.self.sized)

pub nonzero_rem-v : goal.nonzero_rem-v
nonzero_rem-v c = omega (arith, down_is _ c.args.self.sized c.args.self.of_frame, high_is _ c.args.self.sized)

pub loop-c-init : goal.loop-c-init
loop-c-init c = rows_none _ c.args.self.sized _ c.requires _ _ refl c.blocks_above-blocks.ensures

pub row_in-requires : goal.row_in-requires
row_in-requires c = row_fits _ c.args.self.sized c.args.self.of_frame c.loop-c.invariant (omega arith)

pub overflow_mul-blocks : goal.overflow_mul-blocks
overflow_mul-blocks c = omega (arith, few_blocks _ c.args.self.sized c.args.self.of_frame c.loop-c.invariant (omega arith))

pub overflow_add-blocks : goal.overflow_add-blocks
overflow_add-blocks c =
    omega (arith, few_blocks _ c.args.self.sized c.args.self.of_frame c.loop-c.invariant (omega arith), (sampling _ c.args.self.sized).few)

pub loop-c-preserved : goal.loop-c-preserved
loop-c-preserved c = rows_next _ c.args.self.sized c.args.self.of_frame c.loop-c.invariant (omega arith) c.row_in.ensures
