-- `block`: what is said of the block that was read, for the prediction as it is held.
use mathlib.Core.Path.{◌≡◌, ◌∙◌, ap, subst⁻¹}
use lib.IntN.{ℤ}
use mir.Facts.{to_z-of_z}
use Rattle.reading.specs.declared.Bits.{Bits}
use Rattle.reading.specs.Code.Answers.{said, levels_of}
use Rattle.jpeg_engine.specs.Engines.{block_here, Alike}
use Rattle.jpeg_engine.proofs.Plainly.{alike_said}
use Rattle.jpeg_engine.proofs.PlainEngine.block.Goals as goal

pub returns : goal.returns
returns c =
    let s = c.args.self.now.s.now in
    let n = c.args.self.now.plan in
    let is = simp (c.head.ensures, c.at_or.ensures, c.at_or-2.ensures) at c.block.ensures in
    λ few b e. subst⁻¹ (λ (b : Bits). Alike (λ b at. b ≡ at) (block_here s n c.args.c c.args.prediction b) c.block.result c.block.new.levels) e
    (alike_said _
    (is.0 ∙ ap (λ (z : ℤ). said (block_here s n c.args.c z c.args.at)) (to_z-of_z c.ranges.prediction))
    (is.1 ∙ ap (λ (z : ℤ). levels_of (block_here s n c.args.c z c.args.at)) (to_z-of_z c.ranges.prediction)))
