-- The sides fit 64 bits, as every `usize` does.
use Rattle.std.proofs.Common.{◌≡◌, ◌<◌, ◌^◌, arith, ap, ◌∙◌, List, ℕ, [], ◌∷◌, cond, eqb}
use Rattle.tillsparrow_streams.proofs.Lines.{refusal_printed, kind_of_one, kind_of_more, head_printed}
use Rattle.tillsparrow_streams.proofs.LineDisplay.fmt.Goals as goal
use Rattle.tillsparrow_streams.proofs.LineDisplay.fmt.Goals.{then-channels-eq1, else-channels-eq1}

pub returns-in-Refused-clause-writes : goal.returns-in-Refused-clause-writes
returns-in-Refused-clause-writes g c =
    let small : c.number.result < 2 ^ 64 = omega arith in
    rw (← refusal_printed c.args.self.now c.in-Refused.x c.number.result c.in-Refused.is c.number.ensures small) c.writeln.ensures.writes

pub returns-after-channels-eq1-clause-writes : goal.returns-after-channels-eq1-clause-writes
returns-after-channels-eq1-clause-writes g c =
    let frame = c.in-Picture.found.frame in
    let kind : ◌≡◌ {A = List ℕ} c.if-channels-eq1.kind.now (80 ∷ cond (eqb frame.channels 1) 53 54 ∷ []) =
    elim c.if-channels-eq1.branch [
      | then-channels-eq1 w ↦ ap (λ k. k.now) w.kind-is ∙ kind_of_one _ w.if-channels-eq1.true
      | else-channels-eq1 w ↦ ap (λ k. k.now) w.kind-is ∙ kind_of_more _ w.if-channels-eq1.false
    ] in
    let wide : frame.width < 2 ^ 64 = omega arith in
    let high : frame.height < 2 ^ 64 = omega arith in
    rw (← head_printed c.args.self.now c.in-Picture.found c.if-channels-eq1.kind.now c.in-Picture.is kind wide high) c.writeln-in-Picture.ensures.writes
