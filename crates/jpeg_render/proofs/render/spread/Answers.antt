use Rattle.std.proofs.Common.{arith, ◌∙◌}
use Rattle.jpeg_render.proofs.Spreading.{in_gathered, in_widened}
use Rattle.jpeg_render.proofs.render.spread.Goals as goal

pub returns-then-own-largest : goal.returns-then-own-largest
returns-then-own-largest c =
    λ i h. c.gather.ensures i (omega arith) ∙ in_gathered c.args.samples.now c.args.from _ _ c.if-own-largest.true (omega arith) i

pub returns-then-own-eq1 : goal.returns-then-own-eq1
returns-then-own-eq1 c = λ i h. c.widen.ensures i h ∙ in_widened c.args.samples.now c.args.from _ _ c.if-own-eq1.true i h
