-- `Mcu::of`: by the ways out of its tests; no sum passes 64.
use Rattle.std.proofs.Common.{arith, ◌≡◌, ◌*◌, ◌≤◌, ◌∙◌, sym, refl, get_or, Bool, true, false, T}
use mathlib.Core.Path.{subst⁻¹}
use native.Mathlib.Nat.{mul-le-mul}
use Rattle.reading.specs.Tests.{◌and◌, within}
use Rattle.reading.specs.Code.Mcus.{factors_fit}
use Rattle.reading.proofs.Fits.{within_known}
use Rattle.reading.proofs.Sampling.{walk_begin, walk_unfit, walk_on, walk_done, measured_count, measured_unfit, measured_many, measured_so}
use Rattle.reading.proofs.Mcu.of.Goals as goal
use Rattle.reading.proofs.Mcu.of.Goals.{then-not-within-2-via-then-not-within-2, then-not-within-2-via-else-not-within-2+then-not-within-3}

no_first : (a b : Bool) → a ≡ false → a and b ≡ false
no_first a b e = rw e refl

no_second : (a b : Bool) → b ≡ false → a and b ≡ false
no_second true b e = e
no_second false b e = refl

most : (n : _) → within 1 4 n ≡ true → n ≤ 4
most n e = (within_known 1 4 n (subst⁻¹ T e tt)).1

pub returns-then-not-within : goal.returns-then-not-within
returns-then-not-within c = measured_count _ (sym c.within.ensures ∙ c.if-not-within.true)

pub loop-c-init : goal.loop-c-init
loop-c-init c =
    let fits = sym c.within.ensures ∙ c.if-not-within.false in
    (fits, walk_begin _ _ _ (most _ fits))

pub returns-then-not-within-2 : goal.returns-then-not-within-2
returns-then-not-within-2 c =
    let f = c.args.frame in
    let h = get_or f.across c.loop-c.c 0 in
    let v = get_or f.down c.loop-c.c 0 in
    let unfit : factors_fit f.across f.down c.loop-c.c ≡ false =
    elim c.then-not-within-2.branch [
      | then-not-within-2-via-then-not-within-2 w ↦ no_first (within 1 4 h) (within 1 4 v) (sym c.within-in-loop-c.ensures ∙ w.if-not-within-2.true)
      | then-not-within-2-via-else-not-within-2+then-not-within-3 w ↦ no_second (within 1 4 h) (within 1 4 v) (sym w.within-else-not-within-2.ensures ∙ w.if-not-within-3.true)
    ] in
    measured_unfit f (walk_unfit _ _ _ c.loop-c.invariant.1 c.loop-c-test.true unfit)

pub overflow_add-blocks : goal.overflow_add-blocks
overflow_add-blocks c =
    let h = most _ (sym c.within-in-loop-c.ensures ∙ c.if-not-within-2.false) in
    let v = most _ (sym c.within-else-not-within-2.ensures ∙ c.if-not-within-3.false) in
    let few : get_or c.args.frame.across c.loop-c.c 0 * get_or c.args.frame.down c.loop-c.c 0 ≤ 16 = mul-le-mul h v in
    omega (arith, few, c.loop-c.invariant.1.small, c.loop-c.invariant.1.few, c.loop-c-test.true)

pub loop-c-preserved : goal.loop-c-preserved
loop-c-preserved c = (
  c.loop-c.invariant.0,
  walk_on _ _ _ c.loop-c.invariant.1 c.loop-c-test.true
      (sym c.within-in-loop-c.ensures ∙ c.if-not-within-2.false) (sym c.within-else-not-within-2.ensures ∙ c.if-not-within-3.false)
      c.max-wide.ensures c.max-high.ensures,
)

pub returns-then-blocks-gt10 : goal.returns-then-blocks-gt10
returns-then-blocks-gt10 c =
    let w = walk_done _ _ _ c.loop-c.invariant.1 c.loop-c-test.false in
    measured_many _ c.loop-c.invariant.0 w.3 (omega (arith, w.2, c.if-blocks-gt10.true))

pub returns : goal.returns
returns c =
    let w = walk_done _ _ _ c.loop-c.invariant.1 c.loop-c-test.false in
    rw (w.0, w.1, w.2) (measured_so _ c.loop-c.invariant.0 w.3 (omega (arith, w.2, c.if-blocks-gt10.false)))
