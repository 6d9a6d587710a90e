-- `next`: the end code, 240, or a level, as the definition picks them.
use Rattle.std.proofs.Common.{◌≡◌, ◌∙◌, ap, ℤ, nat_abs, to_z, of_z, w64, rules, arith}
use mir.Facts.{to_z-of_z}
use mir.Val.{SFits}
use Rattle.reading.specs.Settled.{field_of}
use Rattle.jpeg_write_symbols.specs.Turns.{value_at}
use Rattle.jpeg_write_symbols.proofs.Turning.{turn_end, turn_skip, turn_value, category_few}
use Rattle.jpeg_write_symbols.proofs.next.Goals as goal

pub returns-then-levels-place : goal.returns-then-levels-place
returns-then-levels-place c = c.plain.ensures ∙ turn_end _ c.args.pred _ c.args.run c.if-levels-place.true

pub returns-then-run-ge16 : goal.returns-then-run-ge16
returns-then-run-ge16 c = c.plain-then-run-ge16.ensures ∙ turn_skip _ c.args.pred _ _ c.if-levels-place.false c.if-run-ge16.true

pub overflow_add-result : goal.overflow_add-result
overflow_add-result c = omega (arith, c.category-size.ensures, category_few c.unsigned_abs.result)

pub field_of-requires : goal.field_of-requires
field_of-requires c = omega (arith, c.category-size.ensures, category_few c.unsigned_abs.result)

pub returns : goal.returns
returns c =
    let d = c.value_at-d.result in
    let fits : SFits w64 d = search rules in
    let back : to_z w64 (of_z w64 d) ≡ d = to_z-of_z fits in
    turn_value _ c.args.pred _ _ c.if-levels-place.false c.if-run-ge16.false (c.value_at-d.ensures ∙ ap (λ (z : ℤ). value_at c.args.levels.now z c.args.place) (to_z-of_z c.ranges.pred)) (c.unsigned_abs.ensures.value ∙ ap nat_abs back) c.category-size.ensures (c.field_of.ensures ∙ ap (field_of c.category-size.result) back)
