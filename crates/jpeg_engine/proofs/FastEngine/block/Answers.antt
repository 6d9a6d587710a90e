-- `block`: what was read at every bit place that the cursor meets.
use mir.Facts.{to_z-of_z}
use Rattle.jpeg_engine.proofs.Widely.{alike_met}
use Rattle.jpeg_engine.proofs.FastEngine.block.Goals as goal

pub returns : goal.returns
returns c =
    λ few. alike_met c.args.self.now.s.now c.args.self.now.plan c.args.c _ _ _ few c.args.self.now.looked (to_z-of_z c.ranges.prediction)
    (simp (c.head.ensures, c.at_or.ensures, c.at_or-2.ensures) at c.block.ensures)
