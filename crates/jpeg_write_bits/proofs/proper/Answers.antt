-- `proper`: what its byte wants, and then the value.
use mathlib.Core.Path.{sym, ◌∙◌}
use Rattle.jpeg_write_bits.proofs.Propers.{byte_wants, by_value}
use Rattle.jpeg_write_bits.proofs.proper.Goals as goal

pub returns-then-within : goal.returns-then-within
returns-then-within c = by_value _ (sym c.if-within.ensures) c.power.ensures

pub returns-else-within : goal.returns-else-within
returns-else-within c = c.if-within.false ∙ byte_wants _ (sym c.if-within.ensures)
