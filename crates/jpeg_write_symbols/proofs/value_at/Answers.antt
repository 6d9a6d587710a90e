-- `value_at`: a level and a prediction fit in 64 bits, and so does their difference.
use Rattle.std.proofs.Common.{◌≡◌, ◌∙◌, ◌-ℤ◌, pos, get_or, to_z, of_z, w16, w64, rules, arith}
use Rattle.std.proofs.lemmas.Int.{ints}
use mir.Val.{SFits}
use Rattle.jpeg_write_symbols.proofs.Values.{value_first, value_later}
use Rattle.jpeg_write_symbols.proofs.value_at.Goals as goal

pub returns-then-place-eq0 : goal.returns-then-place-eq0
returns-then-place-eq0 c =
    let level : SFits w16 (get_or c.args.levels.now c.args.place (pos 0)) = search rules in
    let less : to_z w64 (of_z w64 (to_z w64 (of_z w64 c.from-level.result) -ℤ to_z w64 (of_z w64 c.from.result))) ≡ get_or c.args.levels.now c.args.place (pos 0) -ℤ c.args.pred = omega (arith, ints) in
    less ∙ value_first _ _ _ c.if-place-eq0.true

pub returns : goal.returns
returns c =
    let level : SFits w16 (get_or c.args.levels.now c.args.place (pos 0)) = search rules in
    let same : to_z w64 (of_z w64 c.from-level.result) ≡ get_or c.args.levels.now c.args.place (pos 0) = omega (arith, ints) in
    same ∙ value_later _ c.args.pred _ c.if-place-eq0.false
