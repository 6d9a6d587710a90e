-- The loop's invariant: the samples of i pixels are spread.
use Rattle.jpeg_render.proofs.Spreading.{LanesTo}
use Rattle.jpeg_render.proofs.render.part.Given as goal

abbrev pub invariant-loop-i : goal.invariant-loop-i
invariant-loop-i l = LanesTo l.fn.samples l.fn.from l.fn.own l.fn.largest l.i l.list
