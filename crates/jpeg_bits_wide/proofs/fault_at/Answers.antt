-- `fault_at`: two bytes are there, or fewer.
use Rattle.std.proofs.Common.{arith}
use Rattle.jpeg_bits_wide.proofs.Ending.{ran_out, is_bare}
use Rattle.jpeg_bits_wide.proofs.fault_at.Goals as goal

pub returns-then-saturating_sub-lt2 : goal.returns-then-saturating_sub-lt2
returns-then-saturating_sub-lt2 c = ran_out _ _ (omega arith)

pub returns-else-saturating_sub-lt2 : goal.returns-else-saturating_sub-lt2
returns-else-saturating_sub-lt2 c = is_bare _ _ (omega arith)
