-- The loop's invariant: the samples of whole blocks are gathered.
use Rattle.jpeg_render.proofs.Spreading.{GatheredTo}
use Rattle.jpeg_render.proofs.render.gather.Given as goal

abbrev pub invariant-loop-block : goal.invariant-loop-block
invariant-loop-block l = GatheredTo l.fn.samples l.fn.from l.block l.list
