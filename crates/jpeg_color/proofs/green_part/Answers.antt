-- The whole multiple of 65536 passes by the division. The numbers are read off the code, and only what is returned asks for these.
use Rattle.std.proofs.Common.{◌≡◌, ℕ, pos, ◌+ℤ◌, ◌-ℤ◌, ◌*ℤ◌, sym, ap, ◌∙◌, arith}
use Rattle.std.proofs.lemmas.Int.{ints}
use Rattle.std.specs.Int.Signed.{shr_z}
use Rattle.whole.specs.Held.{held_small, number, plus, plus_fits, less, times}
use Rattle.reading.specs.Colour.{chroma}
use Rattle.jpeg_color.specs.Parts.{green_part}
use Rattle.jpeg_color.proofs.Sums.{passes, difference, called}
use Rattle.jpeg_color.proofs.green_part.Goals as goal

sum : (cb cr : ℕ)
    → (pos 0 -ℤ chroma cr) +ℤ shr_z ((pos 18734 *ℤ chroma cr +ℤ pos 32768) -ℤ pos 22554 *ℤ chroma cb) 65536 ≡ green_part cb cr
unfolding green_part
sum cb cr =
    sym (passes (pos 0 -ℤ chroma cr) ((pos 18734 *ℤ chroma cr +ℤ pos 32768) -ℤ pos 22554 *ℤ chroma cb))
    ∙ ap (λ z. shr_z z 65536) (omega (arith, ints))

pub overflow_add-result : goal.overflow_add-result
overflow_add-result c =
    let b = difference c.ranges.cb in
    let d = difference c.ranges.cr in
    plus_fits (less (number 0) d tt)
    (called (plus (times (number _) d tt) (number _) tt) (times (number _) b tt) 512 tt tt c.divided.ensures) tt

pub returns : goal.returns
returns c =
    let b = difference c.ranges.cb in
    let d = difference c.ranges.cr in
    let r =
    plus (less (number 0) d tt)
    (called (plus (times (number 18734) d tt) (number 32768) tt) (times (number 22554) b tt) 512 tt tt c.divided.ensures) tt in
    (r.is ∙ sum c.args.cb c.args.cr, held_small r tt)
