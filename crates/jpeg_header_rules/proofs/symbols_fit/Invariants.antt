-- The list fits where its rest does and has no symbol that was met.
use Rattle.std.proofs.Common.{◌≡◌, length}
use Rattle.jpeg_header_rules.proofs.Marks.{fitting, rest}
use Rattle.jpeg_header_rules.proofs.symbols_fit.Given as goal

abbrev pub invariant-loop-symbol : goal.invariant-loop-symbol
invariant-loop-symbol l = (length l.met ≡ 256) × (fitting l.class l.symbols ≡ rest l.class l.met l.symbols l.symbol-index)
