-- What the test lets through is drawn, and nothing else.
use Rattle.std.proofs.Common.{sym, ◌∙◌}
use Rattle.jpeg_render.proofs.Fitting.{fits_drawable, rendered_fit, rendered_unfit, rendered_unframed}
use Rattle.jpeg_render.proofs.picture.Goals as goal

pub picture-requires : goal.picture-requires
picture-requires c = fits_drawable _ _ _ (sym c.fits.ensures ∙ c.if-fits.true)

pub returns-then-fits : goal.returns-then-fits
returns-then-fits c = rw (sym c.in-Some.ensures) (rendered_fit _ _ _ _ (sym c.fits.ensures ∙ c.if-fits.true) c.picture.ensures)

pub returns-else-fits : goal.returns-else-fits
returns-else-fits c = rw (sym c.in-Some.ensures) (rendered_unfit _ _ _ _ (sym c.fits.ensures ∙ c.if-fits.false))

pub returns-in_default : goal.returns-in_default
returns-in_default c = rendered_unframed _ _ _ _ (c.in_default.ensures {u = tt})
