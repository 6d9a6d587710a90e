-- The whole multiple of 65536 passes by the division. The numbers are read off the code, and only what is returned asks for these.
use Rattle.std.proofs.Common.{◌≡◌, ℕ, pos, ◌+ℤ◌, ◌-ℤ◌, ◌*ℤ◌, sym, ap, ◌∙◌, arith}
use Rattle.std.proofs.lemmas.Int.{ints}
use Rattle.std.specs.Int.Signed.{shr_z}
use Rattle.whole.specs.Held.{held_small, number, plus, plus_fits, less, times}
use Rattle.reading.specs.Colour.{chroma}
use Rattle.jpeg_color.specs.Parts.{blue_part}
use Rattle.jpeg_color.proofs.Sums.{passes, difference, floor}
use Rattle.jpeg_color.proofs.blue_part.Goals as goal

sum : (cb : ℕ) → pos 2 *ℤ chroma cb +ℤ shr_z (pos 32768 -ℤ pos 14942 *ℤ chroma cb) 65536 ≡ blue_part cb
unfolding blue_part
sum cb =
    sym (passes (pos 2 *ℤ chroma cb) (pos 32768 -ℤ pos 14942 *ℤ chroma cb)) ∙ ap (λ z. shr_z z 65536) (omega (arith, ints))

pub overflow_add-result : goal.overflow_add-result
overflow_add-result c =
    let d = difference c.ranges.cb in
    plus_fits (times (number _) d tt) (floor (less (number _) (times (number _) d tt) tt) 256 tt tt) tt

pub returns : goal.returns
returns c =
    let d = difference c.ranges.cb in
    let r = plus (times (number 2) d tt) (floor (less (number 32768) (times (number 14942) d tt) tt) 256 tt tt) tt in
    (r.is ∙ sum c.args.cb, held_small r tt)
