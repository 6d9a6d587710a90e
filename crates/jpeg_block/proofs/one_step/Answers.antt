-- `one_step`: each return is one case of what the symbol asks for.
use Rattle.std.proofs.Common.{sym, ◌∙◌, arith, w32, SFits}
use Rattle.std.proofs.lemmas.Int.{to_z-of_z}
use Rattle.std.proofs.lemmas.Result.{err_from_is_err_and}
use Rattle.jpeg_block.proofs.Steps.{Room, value_room, step_cut, step_end, step_skip, step_wrong, step_value}
use Rattle.jpeg_block.proofs.one_step.Goals as goal

pub returns-in_err-x : goal.returns-in_err-x
returns-in_err-x c =
    let p = err_from_is_err_and c.from_residual.result c.from_residual.ensures.1 in
    rw (p.1, p.2)
    (sym (step_cut c.args.t.now c.args.s.now c.args.base c.args.b c.args.place c.args.pred c.symbol.ensures c.in_err-x.was))

pub returns-in_err-ask : goal.returns-in_err-ask
returns-in_err-ask c =
    let p = err_from_is_err_and c.from_residual-in_err-ask.result c.from_residual-in_err-ask.ensures.1 in
    rw (p.1, p.2)
    (sym
    (step_wrong c.args.t.now c.args.s.now c.args.base c.args.b c.args.place c.args.pred
    c.symbol.ensures c.in_ok-x.was c.ask.ensures c.in_err-ask.was))

pub overflow_add-place : goal.overflow_add-place
overflow_add-place c =
    let room : Room c.args.place c.in-Value.run' c.in-Value.size = value_room _ _ c.ask.ensures (rw c.in-Value.is at c.in_ok-ask.was) in
    omega arith

pub value-requires : goal.value-requires
value-requires c =
    let room : Room c.args.place c.in-Value.run' c.in-Value.size = value_room _ _ c.ask.ensures (rw c.in-Value.is at c.in_ok-ask.was) in
    room.few

pub returns-in-End : goal.returns-in-End
returns-in-End c =
    sym
    (step_end c.args.t.now c.args.s.now c.args.base c.args.b c.args.place c.args.pred
    c.symbol.ensures c.in_ok-x.was c.ask.ensures (rw c.in-End.is at c.in_ok-ask.was))

pub returns-in-Skip : goal.returns-in-Skip
returns-in-Skip c =
    sym
    (step_skip c.args.t.now c.args.s.now c.args.base c.args.b c.args.place c.args.pred
    c.symbol.ensures c.in_ok-x.was c.ask.ensures (rw c.in-Skip.is at c.in_ok-ask.was))

pub returns-in-Value : goal.returns-in-Value
returns-in-Value c =
    let pred : SFits w32 c.args.pred = c.ranges.pred in
    simp to_z-of_z at c.value.ensures
    ∙ sym
    (step_value c.args.t.now c.args.s.now c.args.base c.args.b c.args.place c.args.pred
    c.symbol.ensures c.in_ok-x.was c.ask.ensures (rw c.in-Value.is at c.in_ok-ask.was))
