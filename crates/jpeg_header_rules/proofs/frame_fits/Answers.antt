-- The tests in the code's order are those of the definition: that there is an MCU stands for the count of channels and the sum of blocks.
use Rattle.std.proofs.Common.{rules, tests}
use Rattle.jpeg_header_rules.proofs.Sampled.{frame_tests}
use Rattle.jpeg_header_rules.proofs.frame_fits.Goals as goal

pub returns-then-ids_apart : goal.returns-then-ids_apart
returns-then-ids_apart c = rw (frame_tests c.args.body.now c.frame_of-frame.ensures c.of.ensures) (search (rules, tests))
