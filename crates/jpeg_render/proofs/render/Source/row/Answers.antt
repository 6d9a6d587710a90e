use Rattle.std.proofs.Common.{arith, rules, refl, ◌+◌, ◌*◌, ◌≤◌}
use native.Mathlib.Nat.{mul-le-mul, mul-le-mul_right}
use Rattle.reading.specs.declared.Frame.{Frame}
use Rattle.jpeg_render_row.proofs.Drawing.{drawn_all}
use Rattle.jpeg_render.specs.Rows.{Sized}
use Rattle.jpeg_render.proofs.RowPlaces.{sampling, wide_is, across_is, blocks_is, row_room}
use Rattle.jpeg_render.proofs.Mcus.{lent_fits, lent_drawn}
use Rattle.jpeg_render.proofs.RowDrawn.{row_none, offset_most, next_fits, row_next}
use Rattle.jpeg_render.proofs.render.Source.row.Goals as goal

row_most : (r : Frame) → Sized r → r.width * r.channels ≤ 262140
row_most r ok = mul-le-mul {n₂ = 65535} {m₂ = 4} ok.width_most (sampling r ok).few

pub rows_of-places-requires : goal.rows_of-places-requires
rows_of-places-requires g c = c.requires.fits.1

pub overflow_mul-start : goal.overflow_mul-start
overflow_mul-start g c = omega (arith, row_most _ c.args.self.now.m.sized)

pub overflow_mul-start-2 : goal.overflow_mul-start-2
overflow_mul-start-2 g c = omega (arith, row_room _ _ _ c.requires.fits.0 _ c.requires.fits.1, c.well_formed)

pub overflow_mul-step : goal.overflow_mul-step
overflow_mul-step g c = omega (arith, blocks_is _ c.args.self.now.m.sized c.args.self.now.m.of_frame, sampling _ c.args.self.now.m.sized)

pub loop-x-init : goal.loop-x-init
loop-x-init g c = row_none _ _ _ _ c.requires.fits.0 _ c.requires.fits.1

pub overflow_mul-m : goal.overflow_mul-m
overflow_mul-m g c = omega (arith, across_is _ c.args.self.now.m.sized c.args.self.now.m.of_frame, wide_is _ c.args.self.now.m.sized)

pub overflow_mul-n : goal.overflow_mul-n
overflow_mul-n g c =
    let few : c.min-n.result ≤ c.args.self.now.m.frame.width = omega (arith, c.min-n.ensures) in
    omega (arith, row_most _ c.args.self.now.m.sized, mul-le-mul_right c.args.self.now.m.frame.channels few)

pub overflow_mul-at : goal.overflow_mul-at
overflow_mul-at g c = omega (arith, row_most _ c.args.self.now.m.sized, mul-le-mul_right c.args.self.now.m.frame.channels c.loop-x.invariant.drawn.within)

pub overflow_add-at : goal.overflow_add-at
overflow_add-at g c =
    omega (
      arith,
      row_room _ _ _ c.requires.fits.0 _ c.requires.fits.1,
      mul-le-mul_right c.args.self.now.m.frame.channels c.loop-x.invariant.drawn.within,
      c.well_formed,
    )

pub overflow_add-at-in-loop-x : goal.overflow_add-at-in-loop-x
overflow_add-at-in-loop-x g c =
    let within : c.loop-x.x + c.min-n.result ≤ c.args.self.now.m.frame.width = omega (arith, c.min-n.ensures) in
    omega (arith, row_room _ _ _ c.requires.fits.0 _ c.requires.fits.1, mul-le-mul_right c.args.self.now.m.frame.channels within, c.well_formed)

pub slice_bounds-mcu-end : goal.slice_bounds-mcu-end
slice_bounds-mcu-end g c =
    let within : c.loop-x.x + c.min-n.result ≤ c.args.self.now.m.frame.width = omega (arith, c.min-n.ensures) in
    let room = row_room _ _ _ c.requires.fits.0 _ c.requires.fits.1 in
    let some = mul-le-mul_right c.args.self.now.m.frame.channels within in
    let size = c.loop-x.invariant.drawn.size in
    search rules

pub mcu-requires-clause-fits : goal.mcu-requires-clause-fits
mcu-requires-clause-fits g c =
    lent_fits
    (next_fits _ _ _ _ c.requires.fits.0 _ c.requires.fits.1 c.loop-x.invariant c.loop-x-test.true
    c.args.self.now.m.of_frame _ c.min-n.ensures _ c.rows_of-places.ensures (omega arith)) _ refl

pub overflow_add-offset : goal.overflow_add-offset
overflow_add-offset g c =
    omega (
      arith,
      offset_most _ _ _ _ c.requires.fits.0 _ c.requires.fits.1 c.loop-x.invariant c.loop-x-test.true,
      blocks_is _ c.args.self.now.m.sized c.args.self.now.m.of_frame,
      sampling _ c.args.self.now.m.sized,
      c.well_formed,
    )

pub overflow_add-x : goal.overflow_add-x
overflow_add-x g c = omega (arith, c.min-n.ensures, c.loop-x-test.true, c.args.self.now.m.sized.width_most)

pub loop-x-smaller : goal.loop-x-smaller
loop-x-smaller g c =
    omega (arith, c.min-n.ensures, c.loop-x-test.true, across_is _ c.args.self.now.m.sized c.args.self.now.m.of_frame, wide_is _ c.args.self.now.m.sized)

pub loop-x-preserved : goal.loop-x-preserved
loop-x-preserved g c =
    row_next _ _ _ _ c.requires.fits.0 _ c.requires.fits.1 c.loop-x.invariant c.loop-x-test.true
    c.args.self.now.m.of_frame _ c.min-n.ensures _ c.rows_of-places.ensures refl
    (lent_drawn
    (next_fits _ _ _ _ c.requires.fits.0 _ c.requires.fits.1 c.loop-x.invariant c.loop-x-test.true
    c.args.self.now.m.of_frame _ c.min-n.ensures _ c.rows_of-places.ensures (omega arith)) _ refl _ c.mcu.ensures)

pub returns : goal.returns
returns g c = drawn_all c.loop-x.invariant.drawn c.loop-x-test.false
