-- `run`: what each way out of the pass says, and that one MCU more keeps what is still to come (ScanFollowed).
use mathlib.Core.Path.{sym, ◌∙◌, ap}
use borrow.Author.Rules.{rules}
use Rattle.std.specs.Prelude.{Err}
use Rattle.std.proofs.lemmas.Result.{err_from_is_err_and}
use Rattle.jpeg_write_scan.proofs.ScanFollowed.{mcus, mcu_inside, mcus_all, begin, ended_done, ended_not, broken, further}
use Rattle.jpeg_write_scan.proofs.run.Goals as goal

pub loop-m-init : goal.loop-m-init
loop-m-init g c = begin _ _ _ _ c.fresh.ensures c.fresh-2.ensures

pub returns-in_err-at : goal.returns-in_err-at
returns-in_err-at g c =
    let e = g.E.Engine in
    let n = e.plan_of c.args.engine.now in
    let i = mcu_inside n (g.met.E.Engine.some c.args.engine.now) (c.div_ceil-m-end.ensures ∙ ap mcus c.plan-plan.ensures) c.loop-m-test.true in
    let p = err_from_is_err_and c.from_residual.result c.from_residual.ensures.1 in
    broken _ e.says c.loop-m.invariant i c.in_err-at.ensures (p.1 ∙ ap Err p.2)

pub loop-m-preserved : goal.loop-m-preserved
loop-m-preserved g c =
    let e = g.E.Engine in
    let n = e.plan_of c.args.engine.now in
    let i = mcu_inside n (g.met.E.Engine.some c.args.engine.now) (c.div_ceil-m-end.ensures ∙ ap mcus c.plan-plan.ensures) c.loop-m-test.true in
    further _ e.says c.loop-m.invariant i c.in_ok-at.ensures

pub returns-then-not-at_end : goal.returns-then-not-at_end
returns-then-not-at_end g c =
    let e = g.E.Engine in
    let n = e.plan_of c.args.engine.now in
    let x = c.loop-m.invariant in
    let all = mcus_all n (g.met.E.Engine.some c.args.engine.now) (c.div_ceil-m-end.ensures ∙ ap mcus c.plan-plan.ensures) c.loop-m-test.false in
    ended_not _ e.says x all (sym (c.if-not-at_end.ensures x.here.bits x.follows.met)) (c.broke.ensures x.here x.here x.follows x.follows)

pub returns : goal.returns
returns g c =
    let e = g.E.Engine in
    let n = e.plan_of c.args.engine.now in
    let x = c.loop-m.invariant in
    let all = mcus_all n (g.met.E.Engine.some c.args.engine.now) (c.div_ceil-m-end.ensures ∙ ap mcus c.plan-plan.ensures) c.loop-m-test.false in
    ended_done _ e.says x all (sym (c.if-not-at_end.ensures x.here.bits x.follows.met)) (search rules) c.last.ensures
