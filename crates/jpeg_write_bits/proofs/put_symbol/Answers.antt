-- `put_symbol`: a code and the field behind it are one number's bits.
use mathlib.Core.Path.{sym}
use Rattle.jpeg_write_bits.proofs.Symbols.{symbol_improper, symbol_wide, symbol_none, symbol_put}
use Rattle.jpeg_write_bits.proofs.put_symbol.Goals as goal
use Rattle.jpeg_write_bits.proofs.put_symbol.Goals.{else-proper-via-then-proper+then-size-le12+else-within, else-proper-via-then-proper+else-size-le12, else-proper-via-else-proper}

pub returns-then-within : goal.returns-then-within
returns-then-within c =
    symbol_put _ _ _ _ _ (sym c.if-proper.ensures) c.if-size-le12.true (sym c.if-within.ensures) c.power-full.ensures c.put.ensures

pub returns : goal.returns
returns c =
    elim c.else-proper.branch [ else-proper-via-then-proper+then-size-le12+else-within w ↦ symbol_none _ _ _ _ _ (sym w.if-proper.ensures) w.if-size-le12.true (sym w.if-within.ensures) | else-proper-via-then-proper+else-size-le12 w ↦ symbol_wide _ _ _ _ _ (sym w.if-proper.ensures) w.if-size-le12.false | else-proper-via-else-proper w ↦ symbol_improper _ _ _ _ _ (sym w.if-proper.ensures) ]
