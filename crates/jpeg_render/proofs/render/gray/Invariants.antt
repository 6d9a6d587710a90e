-- The loop's invariant: i pixels are written.
use Rattle.std.proofs.Common.{◌≡◌, ◌+◌}
use lib.ListN.{get_or}
use Rattle.jpeg_render_row.specs.Drawn.{written}
use Rattle.jpeg_render.proofs.render.gray.Given as goal

abbrev pub invariant-loop-i : goal.invariant-loop-i
invariant-loop-i l = l.out ≡ written (λ k. get_or l.fn.samples (l.fn.from + k) 0) 0 l.i l.fn.out
