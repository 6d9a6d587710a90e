-- The loop's invariant: c channels are written.
use Rattle.std.proofs.Common.{◌≡◌}
use Rattle.jpeg_render_row.specs.Drawn.{written}
use Rattle.jpeg_render.specs.Rows.{in_lists}
use Rattle.jpeg_render.proofs.render.pixel.Given as goal

abbrev pub invariant-loop-c : goal.invariant-loop-c
invariant-loop-c g l = l.out ≡ written (in_lists l.fn.lists l.fn.i) l.fn.at l.c l.fn.out
