-- Both passes leave the definition's samples in front of what stood behind them.
use Rattle.std.proofs.Common.{◌≡◌, List, ℤ, take, refl, ◌∙◌, ap}
use Rattle.whole.specs.Expressions.{at}
use Rattle.whole.specs.Lists.{list_of}
use Rattle.reading.specs.Tests.{over}
use Rattle.reading.specs.Colour.{to_byte}
use Rattle.reading.specs.Transform.{coefficients, samples}
use Rattle.jpeg_transform.specs.Passes.{rows_of, columns_of}
use Rattle.jpeg_transform.proofs.Passes.{rows_small, both}
use Rattle.jpeg_transform.proofs.Coefficients.{painted_long}
use Rattle.jpeg_transform.proofs.transformed.Goals as goal

-- the two passes, one after the other
two_passes : (c : List ℤ) {made passed steps : List ℤ} → steps ≡ columns_of passed → passed ≡ rows_of made → made ≡ c
    → list_of 64 (λ k. to_byte (at steps k)) ≡ samples c
two_passes c g e h = ap (λ xs. list_of 64 (λ k. to_byte (at xs k))) (g ∙ ap columns_of (e ∙ ap rows_of h)) ∙ both c

pub columns-requires : goal.columns-requires
columns-requires c = (rw c.rows.ensures (rows_small c.dequantize.ensures.1), refl)

pub returns : goal.returns
returns c =
    let q = c.args.quantizer.now in
    let l = c.args.levels.now in
    let n = c.args.places in
    c.clamp.ensures
    ∙ ap (λ xs. over xs c.args.out.now) (two_passes (coefficients q (take n l)) c.columns.ensures c.rows.ensures c.dequantize.ensures.0)
    ∙ painted_long q l n c.args.out.now c.requires
