-- `level`: the sum of the prediction and a difference, where it is in its range.
use Rattle.std.proofs.Common.{◌≡◌, sym, ◌∙◌, ap, true, arith, ℤ, ◌+ℤ◌, to_z, of_z, w16, w32, w64, SFits}
use Rattle.std.proofs.lemmas.Int.{to_z-of_z}
use mathlib.Core.Path.{subst⁻¹}
use lib.Dec.{T}
use Rattle.whole.specs.Held.{widened, plus}
use Rattle.reading.specs.Block.{predictable}
use Rattle.reading.proofs.BlockLevels.{predictable_small}
use Rattle.jpeg_block.proofs.Steps.{level_first}
use Rattle.jpeg_block.proofs.level.Goals as goal

-- the sum as the code takes it
module _ (p v : ℤ) (f : SFits w32 p) (g : SFits w16 v) where
  sum_is : to_z w64 (of_z w64 (to_z w64 (of_z w64 (to_z w32 (of_z w32 p))) +ℤ to_z w64 (of_z w64 (to_z w16 (of_z w16 v))))) ≡ p +ℤ v
  sum_is = (plus {w = w64} (widened tt f) (widened tt g) tt).is

in_range : (z : ℤ) → predictable z ≡ true → SFits w16 z
in_range z e = record { sfits = omega (arith, predictable_small z (subst⁻¹ T e tt)) }

pub overflow_cast-result : goal.overflow_cast-result
overflow_cast-result g c = in_range _ (sym c.predictable.ensures ∙ c.if-predictable.true)

pub returns-then-predictable : goal.returns-then-predictable
returns-then-predictable g c =
    let is = sum_is c.args.pred c.args.v c.ranges.pred c.ranges.v in
    let tested : predictable (c.args.pred +ℤ c.args.v) ≡ true = sym (c.predictable.ensures ∙ ap predictable is) ∙ c.if-predictable.true in
    let fits = in_range (c.args.pred +ℤ c.args.v) tested in
    rw (is, to_z-of_z w16 _ fits) (sym (level_first c.args.at c.args.pred c.args.v c.args.after c.if-at-ne0.false tested))
