-- One output more.
use Rattle.std.proofs.Common.{w32, w64, refl, ◌∙◌, ap, to_z-of_z, arith}
use borrow.Author.Rules.{sfits_of}
use Rattle.whole.specs.Expressions.{fits_abs}
use Rattle.jpeg_transform.specs.Passes.{puts, in_steps}
use Rattle.jpeg_transform.proofs.Stores.{puts_next}
use Rattle.jpeg_transform.proofs.store.Goals as goal

pub loop-y-init : goal.loop-y-init
unfolding puts
loop-y-init c = refl

pub loop-y-preserved : goal.loop-y-preserved
loop-y-preserved c =
    puts_next _ c.args.x 8 _ c.loop-y.y _ _ _ c.loop-y.invariant (omega arith)
    (to_z-of_z {w = w32} (sfits_of c.in_steps.type_inv) ∙ c.in_steps.ensures
    ∙ ap in_steps (to_z-of_z {w = w64} (fits_abs (c.requires.1.each c.loop-y.y) tt)))
