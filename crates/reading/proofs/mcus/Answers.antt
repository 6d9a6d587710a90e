-- `mcus`: a side or a factor that no frame has counts none; behind the tests the ceiling fits, and the divisor is not 0.
use Rattle.std.proofs.Common.{arith, sym, ◌∙◌, T}
use mathlib.Core.Path.{subst⁻¹}
use Rattle.reading.proofs.Fits.{within_known}
use Rattle.reading.proofs.McuCounts.{div_ceil_is, mcus_are, mcus_long, mcus_none}
use Rattle.reading.proofs.mcus.Goals as goal
use Rattle.reading.proofs.mcus.Goals.{then-side-gt-SIDE-via-then-side-gt-SIDE, then-side-gt-SIDE-via-else-side-gt-SIDE+then-not-within}

pub returns-then-side-gt-SIDE : goal.returns-then-side-gt-SIDE
returns-then-side-gt-SIDE c =
    elim c.then-side-gt-SIDE.branch [
      | then-side-gt-SIDE-via-then-side-gt-SIDE w ↦ mcus_long _ _ (omega arith)
      | then-side-gt-SIDE-via-else-side-gt-SIDE+then-not-within w ↦ mcus_none _ _ (omega arith) (sym w.within.ensures ∙ w.if-not-within.true)
    ]

pub returns : goal.returns
returns c =
    let fits = within_known 1 4 c.args.factor (subst⁻¹ T (sym c.within.ensures ∙ c.if-not-within.false) tt) in
    c.div_ceil.ensures ∙ div_ceil_is _ _ fits.0 fits.1 ∙ mcus_are _ _ (omega arith) fits.0 fits.1
