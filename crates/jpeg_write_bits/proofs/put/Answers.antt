-- `put`: a byte, and what waits for one, stay small; one turn fills the byte, and the rest is put behind it.
use Prim.Native.Nat.{◌/◌}
use mathlib.Core.Path.{refl}
use native.Mathlib.Omega.{arith}
use native.Mathlib.Nat.{le_refl, le_of_lt}
use Rattle.jpeg_write_bits.proofs.Bytes.{product_small, with_low, put_more, put_last}
use Rattle.jpeg_write_bits.proofs.Propers.{proper_begun, begun_fresh}
use Rattle.jpeg_write_bits.proofs.put.Goals as goal

pub loop-pen-init : goal.loop-pen-init
loop-pen-init c = record { begun = proper_begun _ c.requires.0; few = c.requires.1; same = refl }

pub overflow_mul-byte : goal.overflow_mul-byte
overflow_mul-byte c = omega (arith, product_small c.loop-pen.invariant.begun _ (le_refl _) c.power-full.ensures)

pub overflow_add-byte : goal.overflow_add-byte
overflow_add-byte c = omega (arith, with_low c.loop-pen.invariant.begun _ (le_refl _) c.power-full.ensures (c.args.x / c.power.result))

pub overflow_cast-byte : goal.overflow_cast-byte
overflow_cast-byte c = omega (arith, with_low c.loop-pen.invariant.begun _ (le_refl _) c.power-full.ensures (c.args.x / c.power.result))

pub loop-pen-preserved : goal.loop-pen-preserved
loop-pen-preserved c = record {
  begun = begun_fresh c.fresh-pen.ensures;
  few = omega arith;
  same = put_more _ _ _ _ c.loop-pen.invariant.same c.loop-pen.invariant.begun.some c.loop-pen-test.true c.power-full.ensures c.power.ensures c.put_data.ensures c.fresh-pen.ensures;
}

pub overflow_mul-result : goal.overflow_mul-result
overflow_mul-result c = omega (arith, product_small c.loop-pen.invariant.begun _ (le_of_lt c.loop-pen-test.false) c.power-full-2.ensures)

pub overflow_add-result : goal.overflow_add-result
overflow_add-result c = omega (arith, with_low c.loop-pen.invariant.begun _ (le_of_lt c.loop-pen-test.false) c.power-full-2.ensures c.args.x)

pub returns : goal.returns
returns c = put_last _ _ _ _ c.loop-pen.invariant.same c.loop-pen-test.false c.power-full-2.ensures
