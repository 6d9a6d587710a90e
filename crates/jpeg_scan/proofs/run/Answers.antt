-- `run`: a fault in an MCU, and the end (ScanFollowed).
use Rattle.std.proofs.Common.{◌∙◌, ℕ, refl, sym, ap, rules, arith}
use Rattle.std.proofs.lemmas.Result.{err_from_is_err_and}
use Rattle.std.specs.Int.{div_ceil}
use Rattle.jpeg_scan_plan.specs.declared.Plan.{Plan}
use Rattle.jpeg_scan_plan.proofs.Standing.{ready}
use Rattle.jpeg_scan.proofs.ScanFollowed.{begin, ended, unended, stopped, onward}
use Rattle.jpeg_scan.proofs.run.Goals as goal

-- how many MCUs there are
abbrev mcus : Plan → ℕ
mcus n = div_ceil n.blocks n.per

pub loop-m-init : goal.loop-m-init
loop-m-init g c = record { size = refl; walks = λ r a. begin _ _ _ _ _ c.fresh-cursor.ensures }

pub mcu-requires : goal.mcu-requires
mcu-requires g c = λ t. omega (arith, c.requires t, c.loop-m.invariant.size)

pub returns-in_err-cursor : goal.returns-in_err-cursor
returns-in_err-cursor g c = λ r a.
    let p = err_from_is_err_and c.from_residual.result c.from_residual.ensures.1 in
    rw (p.1, p.2) (stopped _ g.E.Engine.says (c.loop-m.invariant.walks r a) (ready _ r a) (omega (arith, c.div_ceil-m-end.ensures ∙ ap mcus c.plan-plan.ensures)) c.in_err-cursor.ensures)

pub loop-m-preserved : goal.loop-m-preserved
loop-m-preserved g c =
    record {
      size = search rules;
      walks = λ r a. onward _ g.E.Engine.says (c.loop-m.invariant.walks r a) (ready _ r a) (omega (arith, c.div_ceil-m-end.ensures ∙ ap mcus c.plan-plan.ensures)) c.in_ok-cursor.ensures;
    }

pub returns-then-not-at_end : goal.returns-then-not-at_end
returns-then-not-at_end g c = λ r a.
    let x = c.loop-m.invariant.walks r a in
    unended _ g.E.Engine.says x (ready _ r a) (omega (arith, c.div_ceil-m-end.ensures ∙ ap mcus c.plan-plan.ensures)) (sym (c.if-not-at_end.ensures x.here.bits x.follows.met))
    (c.broke.ensures x.here x.here x.follows x.follows)

pub returns : goal.returns
returns g c = λ r a.
    let x = c.loop-m.invariant.walks r a in
    ended _ g.E.Engine.says x (ready _ r a) (omega (arith, c.div_ceil-m-end.ensures ∙ ap mcus c.plan-plan.ensures)) (sym (c.if-not-at_end.ensures x.here.bits x.follows.met))
