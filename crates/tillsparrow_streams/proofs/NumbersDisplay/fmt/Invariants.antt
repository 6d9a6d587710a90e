-- What was written is the text of the numbers so far.
use Rattle.std.proofs.Common.{take}
use Rattle.std.specs.Fmt.{HasWritten, IsPlainFormatter}
use Rattle.tillsparrow_streams.specs.Numbers.{numbers_text}
use Rattle.tillsparrow_streams.proofs.NumbersDisplay.fmt.Given as goal

abbrev pub invariant-loop-x : goal.invariant-loop-x
invariant-loop-x g l =
    IsPlainFormatter l.initial.f
    → HasWritten g.W.Write.write_str_gives l.initial.f (numbers_text (take l.x-index l.x-items)) l.f
