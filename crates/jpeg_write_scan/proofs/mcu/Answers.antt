-- `mcu`: no block is left, or the block is the rules' block at each cursor that is followed, and one block more keeps what is to come
-- (McuFollowed).
use Rattle.std.proofs.Common.{refl, ◌≡◌, ◌∙◌, ◌/◌, ap, Ok, rules, arith}
use Rattle.std.proofs.lemmas.Result.{err_from_is_err_and}
use Rattle.std.proofs.Common.{pos, get_or, length}
use mir.Syntax.{w32}
use mir.Val.{SFits}
use mir.Facts.{to_z-of_z}
use Rattle.jpeg_scan_plan.specs.declared.Plan.{Plan}
use Rattle.jpeg_scan_plan.proofs.Standing.{later_digit, first_digit}
use Rattle.jpeg_scan_plan.specs.Marks.{broke_in}
use Rattle.jpeg_engine.proofs.Counting.{count_is, count_in, countable, channel_is, channel_few}
use Rattle.jpeg_scan.proofs.OneMcu.{err_from_match}
use Rattle.jpeg_scan.proofs.McuFollowed.{left}
use Rattle.jpeg_write_scan.proofs.SheetFilled.{sheet_long}
use Rattle.jpeg_write_scan.proofs.McuFollowed.{over, begin, stopped, done_is, whole, broken, quiet, further}
use Rattle.jpeg_write_scan.proofs.mcu.Goals as goal

pub returns-then-plan-before : goal.returns-then-plan-before
returns-then-plan-before g c = λ q f. over _ g.E.Engine.says _ _ q _ c.plan-plan.ensures f c.requires.1 c.if-plan-before.true

pub returns-in_err-cursor : goal.returns-in_err-cursor
returns-in_err-cursor g c = λ q f.
    let p = err_from_is_err_and c.from_residual.result c.from_residual.ensures.1 in
    let r = err_from_match c.restart.result c.in_err-cursor.ensures.cases (λ x h. cc) in
    let is : c.in_err-cursor.field-0.0 ≡ g.E.Engine.says (broke_in q q r.0) = search rules in
    let i = left _ c.plan-plan.ensures f c.if-plan-before.false in
    rw (p.1, p.2, is) (stopped _ g.E.Engine.says _ _ _ _ _ i (c.restart.ensures q f) r.1 refl)

pub loop-init : goal.loop-init
loop-init g c =
    let on : c.restart.result ≡ Ok c.in_ok-cursor.cursor = search rules in
    record {
      digits = ap (λ (n : Plan). n.order) c.plan-plan.ensures ∙ first_digit _;
      walks = λ q f. begin _ (search rules) (c.restart.ensures q f) on (ap (λ (n : Plan). n.interval) c.plan-plan.ensures) c.mark-ink.ensures;
    }

pub returns-in-Err : goal.returns-in-Err
returns-in-Err g c = λ q f.
    let x = c.loop.invariant.walks q f in
    let e = g.E.Engine in
    let k = c.channel-c.result in
    let held : SFits w32 (get_or c.loop.cursor.predictors k (pos 0)) = search rules in
    let i = count_in c.in_ok-cursor.cursor.done c.plan-plan.ensures c.saturating_sub.ensures c.min-end.ensures c.loop-test.true in
    (broken _ e.says x i (channel_is _ _ c.channel-c.ensures c.loop.invariant.digits) (to_z-of_z held) c.block.new.levels
    (c.block.ensures (channel_few _ c.channel-c.ensures) x.here.bits x.follows.met)
    (left _ c.plan-plan.ensures f c.if-plan-before.false) c.in-Err.is (c.broke.ensures q x.here f x.follows))

pub put_on-ink-requires : goal.put_on-ink-requires
put_on-ink-requires g c =
    let x = c.loop.invariant.walks c.requires.2.one c.requires.2.follows in
    let e = g.E.Engine in
    let n = e.plan_of c.args.engine.now in
    let k = c.channel-c.result in
    let held : SFits w32 (get_or c.loop.cursor.predictors k (pos 0)) = search rules in
    let i = count_in c.in_ok-cursor.cursor.done c.plan-plan.ensures c.saturating_sub.ensures c.min-end.ensures c.loop-test.true in (
      x.walk.fit,
      channel_few _ c.channel-c.ensures,
      sheet_long _ n c.requires.0,
      quiet _ e.says x i (channel_is _ _ c.channel-c.ensures c.loop.invariant.digits) (to_z-of_z held) c.block.new.levels
          (c.block.ensures (channel_few _ c.channel-c.ensures) x.here.bits x.follows.met) c.in-Ok.is,
    )

pub overflow_add-cursor : goal.overflow_add-cursor
overflow_add-cursor g c =
    let x = c.loop.invariant.walks c.requires.2.one c.requires.2.follows in
    countable c.plan-plan.result.now _ (done_is _ g.E.Engine.says x) c.saturating_sub.ensures c.min-end.ensures c.loop-test.true (search rules)

pub loop-preserved : goal.loop-preserved
loop-preserved g c =
    let e = g.E.Engine in
    let n = e.plan_of c.args.engine.now in
    let k = c.channel-c.result in
    let held : SFits w32 (get_or c.loop.cursor.predictors k (pos 0)) = search rules in
    let first : SFits w32 c.in-Ok.read.first = search rules in
    let long : length c.put_on-ink.new.out ≡ length c.loop.out = search rules in
    let i = count_in c.in_ok-cursor.cursor.done c.plan-plan.ensures c.saturating_sub.ensures c.min-end.ensures c.loop-test.true in
    record {
      digits = ap (λ o. o / 4) c.loop.invariant.digits ∙ later_digit _ c.loop.counter;
      walks = λ q f.
          let x = c.loop.invariant.walks q f in
          further _ e.says x i (channel_is _ _ c.channel-c.ensures c.loop.invariant.digits) (to_z-of_z held) c.block.new.levels
          (c.block.ensures (channel_few _ c.channel-c.ensures) x.here.bits x.follows.met)
          c.in-Ok.is c.requires.0 (to_z-of_z first) long c.put_on-ink.ensures;
    }

pub returns : goal.returns
returns g c =
    let e = c.min-end.ensures in
    let end : c.loop.counter ≡ c.min-end.result = omega arith in
    λ q f.
    whole _ g.E.Engine.says (c.loop.invariant.walks q f) (left _ c.plan-plan.ensures f c.if-plan-before.false)
    (end ∙ count_is _ c.plan-plan.ensures c.saturating_sub.ensures e)
