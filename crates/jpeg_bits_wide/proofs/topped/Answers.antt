-- `topped`: enough bits, four bytes at once, or byte by byte.
use Rattle.std.proofs.Common.{sym, ◌∙◌, arith}
use Rattle.jpeg_bits_wide.proofs.Words.{four, topped_enough, topped_word, topped_filled}
use Rattle.jpeg_bits_wide.proofs.topped.Goals as goal

pub returns-then-w-ge32 : goal.returns-then-w-ge32
returns-then-w-ge32 c = topped_enough _ _ c.if-w-ge32.true

pub returns-in_default : goal.returns-in_default
returns-in_default c = c.filled.ensures ∙ topped_filled _ _ c.if-w-ge32.false (sym c.in_default.ensures)

pub overflow_add-result : goal.overflow_add-result
overflow_add-result c =
    let f = four _ _ (sym c.in-Some.ensures) in
    let room = f.room in
    omega arith

pub returns : goal.returns
returns c = topped_word _ _ c.if-w-ge32.false (omega arith) (sym c.in-Some.ensures)
