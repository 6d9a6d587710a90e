-- `channel_in`: what is left of the place behind the channels that were passed.
use Rattle.jpeg_scan_plan.proofs.Standing.{Passing}
use Rattle.jpeg_scan_plan.proofs.channel_in.Given as goal

abbrev pub invariant-loop-c : goal.invariant-loop-c
invariant-loop-c l = Passing l.frame.channels l.frame.across l.frame.down l.j l.left l.c
