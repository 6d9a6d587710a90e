-- `sheet`: the words of one table more at each turn.
use Rattle.jpeg_write_codes.proofs.SheetFilled.{FilledTo}
use Rattle.jpeg_write_codes.proofs.sheet.Given as goal

abbrev pub invariant-loop-i : goal.invariant-loop-i
invariant-loop-i l = FilledTo l.t l.fn.places l.i l.words
