-- The loop's invariant: j samples are written.
use Rattle.std.proofs.Common.{◌≡◌, ◌+◌}
use lib.ListN.{get_or}
use Rattle.jpeg_render_row.specs.Drawn.{written}
use Rattle.jpeg_render.proofs.render.gather_8.Given as goal

abbrev pub invariant-loop-j : goal.invariant-loop-j
invariant-loop-j l = l.list ≡ written (λ k. get_or l.fn.samples (l.fn.from + k) 0) l.fn.x l.j l.fn.list
