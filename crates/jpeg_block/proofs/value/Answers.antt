-- `value`: a value is small enough for a level.
use Rattle.std.proofs.Common.{◌<◌, sym, ◌∙◌, rules, arith, nat_abs, w16, w32, SFits}
use Rattle.std.proofs.lemmas.Int.{to_z-of_z}
use Rattle.std.proofs.lemmas.Result.{err_from_is_err_and}
use Rattle.whole.specs.Expressions.{fits_abs}
use Rattle.jpeg_block.proofs.Steps.{value_cut, value_small, value_is}
use Rattle.jpeg_block.proofs.value.Goals as goal

pub returns-in_err-v : goal.returns-in_err-v
returns-in_err-v c =
    let p = err_from_is_err_and c.from_residual.result c.from_residual.ensures.1 in
    rw (p.1, p.2) (sym (value_cut _ _ _ _ _ c.requires c.amplitude.ensures c.in_err-v.was))

pub overflow_cast-v : goal.overflow_cast-v
overflow_cast-v c =
    let fits : SFits w32 c.in_ok-v.v = search rules in
    let small : nat_abs c.in_ok-v.v < 2048 = value_small _ _ c.args.at _ c.args.pred c.requires c.amplitude.ensures c.in_ok-v.was in
    rw to_z-of_z (fits_abs {n = 2047} (omega (arith, small)) tt)

pub returns : goal.returns
returns c =
    let fits : SFits w32 c.in_ok-v.v = search rules in
    let small : nat_abs c.in_ok-v.v < 2048 = value_small _ _ c.args.at _ c.args.pred c.requires c.amplitude.ensures c.in_ok-v.was in
    let short : SFits w16 c.in_ok-v.v = fits_abs {n = 2047} (omega (arith, small)) tt in
    let pred : SFits w32 c.args.pred = c.ranges.pred in
    simp to_z-of_z at c.level.ensures ∙ sym (value_is _ _ _ _ _ c.requires c.amplitude.ensures c.in_ok-v.was)
