-- `finish`: what waits, and ones behind it, is a data byte; where nothing waits there is none.
use mathlib.Core.Path.{◌∙◌}
use native.Mathlib.Omega.{arith}
use native.Mathlib.Nat.{le_refl}
use Rattle.jpeg_write_bits.proofs.Bytes.{with_ones, product_small}
use Rattle.jpeg_write_bits.proofs.Propers.{proper_begun}
use Rattle.jpeg_write_bits.proofs.Closings.{closed_full, closed_pad}
use Rattle.jpeg_write_bits.proofs.finish.Goals as goal

pub returns-then-p-eq8 : goal.returns-then-p-eq8
returns-then-p-eq8 c = closed_full _ c.if-p-eq8.true

pub power-full-requires : goal.power-full-requires
power-full-requires c = omega (arith, (proper_begun _ c.requires).few)

pub overflow_mul-byte : goal.overflow_mul-byte
overflow_mul-byte c = omega (arith, product_small (proper_begun _ c.requires) _ (le_refl _) c.power-full.ensures)

pub overflow_add-byte : goal.overflow_add-byte
overflow_add-byte c = omega (arith, with_ones (proper_begun _ c.requires) _ (le_refl _) c.power-full.ensures)

pub overflow_cast-byte : goal.overflow_cast-byte
overflow_cast-byte c = omega (arith, with_ones (proper_begun _ c.requires) _ (le_refl _) c.power-full.ensures)

pub returns : goal.returns
returns c = c.put_data.ensures ∙ closed_pad _ c.if-p-eq8.false c.power-full.ensures
