-- `zeros_from`: the levels from the place to k are zero.
use Rattle.std.proofs.Common.{◌≡◌, ◌-◌, ◌∙◌, arith, rules, tests}
use Rattle.jpeg_write_symbols.proofs.Turning.{zeros_first, zeros_start, zeros_past, zeros_end, zeros_more}
use Rattle.jpeg_write_symbols.proofs.zeros_from.Goals as goal

pub returns-then-place-eq0 : goal.returns-then-place-eq0
returns-then-place-eq0 c = zeros_first _ _ c.if-place-eq0.true

pub loop-k-init : goal.loop-k-init
loop-k-init c = record { past = omega arith; within = omega arith; same = zeros_start _ _ c.if-place-eq0.false }

pub loop-k-preserved : goal.loop-k-preserved
loop-k-preserved c = record { past = omega (arith, c.loop-k.invariant.past); within = omega arith; same = zeros_more _ _ _ c.loop-k.invariant.past c.loop-k.invariant.same (omega arith) (search (rules, tests)) }

pub returns-then-levels-k-ne0 : goal.returns-then-levels-k-ne0
returns-then-levels-k-ne0 c = zeros_end _ _ _ c.loop-k.invariant.past c.loop-k.invariant.same (omega arith) (search (rules, tests))

pub returns : goal.returns
returns c =
    let same : c.saturating_sub.result ≡ c.loop-k.k - c.args.place = omega (arith, c.loop-k.invariant.past, c.loop-k.invariant.within) in
    same ∙ zeros_past _ _ _ c.loop-k.invariant.past c.loop-k.invariant.same (omega arith)
