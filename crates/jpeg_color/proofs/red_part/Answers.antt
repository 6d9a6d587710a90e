-- The whole multiple of 65536 passes by the division. The numbers are read off the code, and only what is returned asks for these.
use Rattle.std.proofs.Common.{◌≡◌, ℕ, pos, ◌+ℤ◌, ◌*ℤ◌, sym, ap, ◌∙◌, arith}
use Rattle.std.proofs.lemmas.Int.{ints}
use Rattle.std.specs.Int.Signed.{shr_z}
use Rattle.whole.specs.Held.{held_small, number, plus, plus_fits, times}
use Rattle.reading.specs.Colour.{chroma}
use Rattle.jpeg_color.specs.Parts.{red_part}
use Rattle.jpeg_color.proofs.Sums.{passes, difference, floor}
use Rattle.jpeg_color.proofs.red_part.Goals as goal

sum : (cr : ℕ) → chroma cr +ℤ shr_z (pos 26345 *ℤ chroma cr +ℤ pos 32768) 65536 ≡ red_part cr
unfolding red_part
sum cr = sym (passes (chroma cr) (pos 26345 *ℤ chroma cr +ℤ pos 32768)) ∙ ap (λ z. shr_z z 65536) (omega (arith, ints))

pub overflow_add-result-2 : goal.overflow_add-result-2
overflow_add-result-2 c =
    let d = difference c.ranges.cr in
    plus_fits d (floor (plus (times (number _) d tt) (number _) tt) 256 tt tt) tt

pub returns : goal.returns
returns c =
    let d = difference c.ranges.cr in
    let r = plus d (floor (plus (times (number 26345) d tt) (number 32768) tt) 256 tt tt) tt in
    (r.is ∙ sum c.args.cr, held_small r tt)
