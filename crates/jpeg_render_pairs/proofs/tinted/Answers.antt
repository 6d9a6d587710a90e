-- What the chroma samples add, each for its two pixels, and luma make the pixels in colour; where a list or the buffer is too short, the
-- buffer stays as it was.
use Rattle.std.proofs.Common.{rules, arith, sym, ◌∙◌}
use Rattle.jpeg_render_row.proofs.Drawing.{pixels_same}
use Rattle.jpeg_render_pairs.proofs.Tinting.{first_as, summed_in_pairs}
use Rattle.jpeg_render_pairs.proofs.Paired.{few_cb, few_cr, tinted_long, tinted_cut, tinted_drawn}
use Rattle.jpeg_render_pairs.proofs.tinted.Goals as goal
use Rattle.jpeg_render_pairs.proofs.tinted.Goals.{then-cb-lt8-via-then-cb-lt8, then-cb-lt8-via-else-cb-lt8+then-cr-lt8}
use Rattle.jpeg_render_pairs.proofs.tinted.Goals.{then-cb-lt8-via-else-cb-lt8+else-cr-lt8+then-n-gt16}
use Rattle.jpeg_render_pairs.proofs.tinted.Goals.{then-cb-lt8-via-else-cb-lt8+else-cr-lt8+else-n-gt16+then-out-n}

pub returns-then-cb-lt8 : goal.returns-then-cb-lt8
returns-then-cb-lt8 c =
    elim c.then-cb-lt8.branch [
      | then-cb-lt8-via-then-cb-lt8 w ↦ sym (few_cb _ _ _ _ _ (omega arith))
      | then-cb-lt8-via-else-cb-lt8+then-cr-lt8 w ↦ sym (few_cr _ _ _ _ _ (omega arith) (omega arith))
      | then-cb-lt8-via-else-cb-lt8+else-cr-lt8+then-n-gt16 w ↦ sym (tinted_long _ _ _ _ _ (omega arith) (omega arith) (omega arith))
      | then-cb-lt8-via-else-cb-lt8+else-cr-lt8+else-n-gt16+then-out-n w ↦
          sym (tinted_cut _ _ _ _ _ (omega arith) (omega arith) (omega arith) (omega arith))
    ]

pub tint-requires : goal.tint-requires
tint-requires c =
    record {
      red = first_as c.parts-reds.ensures (λ i x h e. search rules);
      green = first_as c.parts-greens.ensures (λ i x h e. search rules);
      blue = first_as c.parts-blues.ensures (λ i x h e. search rules);
      within = omega arith;
      room = omega arith;
    }

pub returns : goal.returns
returns c =
    pixels_same _ _ _ _ _ _ _ c.tint.ensures
    (summed_in_pairs _ _ _ _ _ _ _ (omega arith)
    (first_as c.parts-reds.ensures (λ i x h e. search rules))
    (first_as c.parts-greens.ensures (λ i x h e. search rules))
    (first_as c.parts-blues.ensures (λ i x h e. search rules)))
    ∙ sym (tinted_drawn _ _ _ _ _ (omega arith) (omega arith) (omega arith) (omega arith))
