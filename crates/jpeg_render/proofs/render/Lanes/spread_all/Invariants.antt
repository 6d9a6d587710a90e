-- The loop's invariant: the samples of c channels are spread.
use Rattle.jpeg_render.proofs.Spreading.{ChannelsTo}
use Rattle.jpeg_render.proofs.render.Lanes.spread_all.Given as goal

abbrev pub invariant-loop-c : goal.invariant-loop-c
invariant-loop-c g l = ChannelsTo l.fn.self.samples.now l.fn.self.places l.fn.offset l.fn.self.across l.fn.self.largest g.row.C l.c l.lists
