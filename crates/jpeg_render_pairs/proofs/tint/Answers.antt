-- Each pixel's three bytes are luma and what is added to it.
use Rattle.std.proofs.Common.{arith, ◌*◌}
use Rattle.jpeg_render_row.proofs.Drawing.{drawn_none, drawn_first, three_channels}
use Rattle.jpeg_render_pairs.specs.Parts.{summed}
use Rattle.jpeg_render_pairs.proofs.Tinting.{shade}
use Rattle.jpeg_render_pairs.proofs.tint.Goals as goal

pub loop-i-init : goal.loop-i-init
loop-i-init c = drawn_none _ _ _ _ _

pub loop-i-preserved : goal.loop-i-preserved
unfolding summed
loop-i-preserved c =
    drawn_first c.loop-i.invariant (omega arith)
    (three_channels (summed c.args.luma.now c.args.reds.now c.args.greens.now c.args.blues.now c.loop-i.i) (c.loop-i.i * 3) c.loop-i.out
    (shade c.args.luma.now c.args.reds.now c.loop-i.i c.requires.red (omega arith) c.with_luma.ensures)
    (shade c.args.luma.now c.args.greens.now c.loop-i.i c.requires.green (omega arith) c.with_luma-in-loop-i.ensures)
    (shade c.args.luma.now c.args.blues.now c.loop-i.i c.requires.blue (omega arith) c.with_luma-in-loop-i-2.ensures))
