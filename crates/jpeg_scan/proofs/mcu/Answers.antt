-- `mcu`: no block is left, a restart or a block that breaks, and the blocks that were read (McuFollowed).
use Rattle.std.proofs.Common.{◌≡◌, ◌∙◌, ◌/◌, ap, Ok, get_or, pos, rules, arith}
use Rattle.std.proofs.lemmas.Result.{err_from_is_err_and}
use mir.Syntax.{w32}
use mir.Val.{SFits}
use mir.Facts.{to_z-of_z}
use Rattle.jpeg_scan_plan.specs.declared.Plan.{Plan}
use Rattle.jpeg_scan_plan.specs.Marks.{broke_in}
use Rattle.jpeg_scan_plan.proofs.Standing.{later_digit, first_digit}
use Rattle.jpeg_engine.proofs.Counting.{count_is, count_in, countable, channel_is}
use Rattle.jpeg_scan.proofs.OneMcu.{err_from_match}
use Rattle.jpeg_scan.proofs.McuFollowed.{left, over, begin, halted, whole, broken, further}
use Rattle.jpeg_scan.proofs.mcu.Goals as goal

pub returns-then-plan-before : goal.returns-then-plan-before
returns-then-plan-before g c = λ q f. over _ g.E.Engine.says _ _ q _ _ c.plan-plan.ensures f c.if-plan-before.true

pub returns-in_err-bits : goal.returns-in_err-bits
returns-in_err-bits g c = λ q f.
    let p = err_from_is_err_and c.from_residual.result c.from_residual.ensures.1 in
    let r = err_from_match c.restart.result c.in_err-bits.ensures.cases (λ x h. cc) in
    let is : c.in_err-bits.field-0.0 ≡ g.E.Engine.says (broke_in q q r.0) = search rules in
    let i = left _ c.plan-plan.ensures f c.if-plan-before.false in
    rw (p.1, p.2) (halted _ g.E.Engine.says _ _ _ _ _ _ i (c.restart.ensures q f) r.1 is)

pub loop-init : goal.loop-init
loop-init g c =
    let on : c.restart.result ≡ Ok c.in_ok-bits.field-0 = search rules in
    record {
      digits = ap (λ (n : Plan). n.order) c.plan-plan.ensures ∙ first_digit _;
      count = omega arith;
      walks = λ q f. begin _ _ _ _ _ _ _ (c.restart.ensures q f) on;
    }

pub returns-in_err-read : goal.returns-in_err-read
returns-in_err-read g c = λ q f.
    let p = err_from_is_err_and c.from_residual-in_err-read.result c.from_residual-in_err-read.ensures.1 in
    let r = err_from_match c.block.result c.in_err-read.ensures.cases (λ x h. cc) in
    let x = c.loop.invariant.walks q f in
    let e = g.E.Engine in
    let held : SFits w32 (get_or c.loop.predictors c.channel-c.result (pos 0)) = search rules in
    let is : c.in_err-read.field-0.0 ≡ e.says (broke_in q x.here r.0) = search rules in
    let i = count_in c.in_ok-bits.field-0.done c.plan-plan.ensures c.saturating_sub.ensures c.min-end.ensures c.loop-test.true in
    rw (p.1, p.2)
    (broken _ e.says x i (channel_is _ _ c.channel-c.ensures c.loop.invariant.digits) (to_z-of_z held) c.block.new.levels c.block.ensures
    (left _ c.plan-plan.ensures f c.if-plan-before.false) r.1 is)

pub overflow_add-done : goal.overflow_add-done
overflow_add-done g c =
    countable c.plan-plan.result.now _ c.loop.invariant.count c.saturating_sub.ensures c.min-end.ensures c.loop-test.true (search rules)

pub loop-preserved : goal.loop-preserved
loop-preserved g c =
    let e = g.E.Engine in
    let held : SFits w32 (get_or c.loop.predictors c.channel-c.result (pos 0)) = search rules in
    let first : SFits w32 c.in_ok-read.read.first = search rules in
    let got : c.block.result ≡ Ok c.in_ok-read.read = search rules in
    let i = count_in c.in_ok-bits.field-0.done c.plan-plan.ensures c.saturating_sub.ensures c.min-end.ensures c.loop-test.true in
    record {
      digits = ap (λ o. o / 4) c.loop.invariant.digits ∙ later_digit _ c.loop.counter;
      count = omega (arith, c.loop.invariant.count);
      walks = λ q f.
          further _ e.says (c.loop.invariant.walks q f) i (channel_is _ _ c.channel-c.ensures c.loop.invariant.digits) (to_z-of_z held)
          c.block.new.levels c.block.ensures got (to_z-of_z first) (simp (c.head-t.ensures, c.plan-plan.ensures) at c.paint.ensures.written) c.requires;
    }

pub returns : goal.returns
returns g c =
    let end : c.loop.counter ≡ c.min-end.result = omega (arith, c.min-end.ensures) in
    λ q f.
    whole _ g.E.Engine.says (c.loop.invariant.walks q f) (left _ c.plan-plan.ensures f c.if-plan-before.false)
    (end ∙ count_is _ c.plan-plan.ensures c.saturating_sub.ensures c.min-end.ensures)
