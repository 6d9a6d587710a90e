-- The loop's invariant: j samples are spread; each is stored four times, which is at least hs times.
use Rattle.jpeg_render.proofs.Spreading.{SpreadTo}
use Rattle.jpeg_render.proofs.render.widen.Given as goal

abbrev pub invariant-loop-j : goal.invariant-loop-j
invariant-loop-j l = SpreadTo l.fn.samples l.fn.from l.fn.hs l.j l.list
