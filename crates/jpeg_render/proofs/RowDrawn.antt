-- A row of pixels, MCU by MCU, and a picture, row by row: what holds after some of them, and that the next one fits.
use Prim.Native.Nat.{ℕ, ◌+◌, ◌*◌, ◌-◌, ◌/◌, ◌%◌, ◌<◌, ◌≤◌, min}
use mathlib.Core.Path.{◌≡◌, refl, sym, ap, ◌∙◌}
use mathlib.Core.Bool.{Bool}
use mathlib.Core.List.{List}
use native.Mathlib.Omega.{arith}
use native.Mathlib.Nat.{mul-le-mul_right}
use lib.Dec.{eqb}
use lib.ListN.{get_or, length}
use Rattle.whole.specs.Lists.{list_of}
use Rattle.std.specs.Prelude.{Some}
use Rattle.reading.specs.declared.Frame.{Frame}
use Rattle.reading.specs.declared.Mcu.{Mcu}
use Rattle.reading.specs.Tests.{◌and◌, over}
use Rattle.reading.specs.Layout.{widest, areas, output_length}
use Rattle.reading.specs.Tables.{shape_of}
use Rattle.reading.specs.Reading.{pixel, picture}
use Rattle.reading.specs.Code.Mcus.{measured}
use Rattle.reading.proofs.Sampling.{channels_are}
use Rattle.jpeg_render_row.specs.Drawn.{pixels}
use Rattle.jpeg_render_row.proofs.Drawing.{length_pixels, DrawnTo, drawn_none, drawn_more}
use Rattle.jpeg_render.specs.Drawn.{rows, row_drawn}
use Rattle.jpeg_render.specs.Rows.{Drawable, LaneFits, McuFits, RowsOf, in_mcu}
use Rattle.jpeg_render.proofs.Drawing.{no_rows, row_more, rows_over}
use Rattle.jpeg_render.proofs.RowPlaces.{sampling, wide_is, across_is, blocks_is, row_room, offset_within, lanes_within, pixel_in_row}

-- after k MCUs
pub record RowTo (r : Frame) (colour : Bool) (y : ℕ) (t d : List ℕ) (offset x : ℕ) (out : List ℕ) : Type 0 where
  pub k : ℕ
  pub offset_is : offset ≡ k * (64 * areas (shape_of r).factors)
  pub x_is : x ≡ min (k * (8 * widest (shape_of r).factors)) r.width
  pub drawn : DrawnTo (λ i. pixel (shape_of r) colour t i y) r.channels (y * (r.width * r.channels)) r.width d x out

module _ (r : Frame) (colour : Bool) (t d : List ℕ) (ok : Drawable r t d) (y : ℕ) (below : y < r.height) where
  pub row_none : RowTo r colour y t d 0 0 d
  row_none = record { k = 0; offset_is = omega arith; x_is = omega arith; drawn = drawn_none _ _ _ _ _ }

  -- the next MCU
  module _ {offset x : ℕ} {out : List ℕ} (before : RowTo r colour y t d offset x out) (more : x < r.width) where
    at_mcu : x ≡ before.k * (8 * widest (shape_of r).factors)
    at_mcu = omega (arith, before.x_is)

    in_picture : before.k * (8 * widest (shape_of r).factors) < r.width
    in_picture = omega (arith, at_mcu)

    -- the offset can be counted on
    pub offset_most : offset ≤ length t
    offset_most = omega (arith, offset_within r t d ok y below before.k in_picture, before.offset_is)

    module _ {m : Mcu} (e : Some m ≡ measured r) (n : ℕ) (some : n ≡ min (r.width - x) (8 * m.across)) where
      wide : m.across ≡ widest (shape_of r).factors
      wide = across_is r ok.sized e

      within : n ≤ 8 * m.across
      within = omega (arith, some)

      module _ (places : List ℕ) (found : RowsOf (shape_of r) y r.channels places) where
        lanes : (c : ℕ) → c < r.channels → LaneFits t (get_or places c 0 + offset) (get_or r.across c 0) m.across
        lanes c h =
            rw (before.offset_is, wide)
            (lanes_within r t d ok y below places found before.k in_picture c h)

        pub next_fits : {at : ℕ} → at ≤ y * (r.width * r.channels) + x * r.channels
            → McuFits t out places offset r.across m.across n r.channels at
        next_fits reached =
            record {
              some = (sampling r ok.sized).some;
              few = (sampling r ok.sized).few;
              most = omega (arith, wide, wide_is r ok.sized);
              lanes = lanes;
              within = within;
              room = omega (arith, reached, row_room r t d ok y below, mul-le-mul_right r.channels within_row, before.drawn.size);
            }
          where
            within_row : x + n ≤ r.width
            within_row = omega arith

        pub row_next : {step : ℕ} {f : List ℕ} → step ≡ 64 * m.blocks
            → f ≡ pixels (in_mcu t places offset r.across m.across (colour and eqb r.channels 3)) r.channels
            (y * (r.width * r.channels) + x * r.channels) n out
            → RowTo r colour y t d (offset + step) (x + n) f
        row_next {step} {f} per h =
            record {
              k = before.k + 1;
              offset_is = omega (arith, before.offset_is, per, blocks_is r ok.sized e);
              x_is = omega (arith, at_mcu, some, wide);
              drawn = drawn_more before.drawn _ n (omega arith) h same;
            }
          where
            same : (i c : ℕ) → i < n → c < r.channels
                → in_mcu t places offset r.across m.across (colour and eqb r.channels 3) i c ≡ pixel (shape_of r) colour t (x + i) y c
            same i c l q =
                rw (before.offset_is, at_mcu, wide)
                (pixel_in_row r t d ok y below places found before.k i (omega (arith, within, wide)) colour c q)

-- ---- the picture

-- after y rows
pub record PictureTo (r : Frame) (colour : Bool) (t d : List ℕ) (y : ℕ) (out : List ℕ) : Type 0 where
  pub within : y ≤ r.height
  pub size : length out ≡ length d
  pub drawn : out ≡ rows (λ j i. pixel (shape_of r) colour t i j) r.channels r.width y d

module _ (r : Frame) (colour : Bool) (t d : List ℕ) (ok : Drawable r t d) where
  pub picture_none : PictureTo r colour t d 0 d
  picture_none = record { within = omega arith; size = refl; drawn = sym (no_rows _ _ _ _) }

  module _ {y : ℕ} {out : List ℕ} (before : PictureTo r colour t d y out) where
    -- the buffer has room as before
    pub still_drawable : Drawable r t out
    still_drawable =
        record {
          sized = ok.sized;
          room = omega (arith, ok.room, before.size);
          whole = ok.whole;
        }

    pub picture_next : {e : List ℕ} → y < r.height
        → e ≡ row_drawn r colour t y out
        → PictureTo r colour t d (y + 1) e
    picture_next more h =
        record {
          within = omega arith;
          size = ap length h ∙ length_pixels _ _ _ _ _ ∙ before.size;
          drawn = h ∙ row_more _ _ _ _ _ _ before.drawn;
        }

    pub picture_all : r.height ≤ y → out ≡ over (picture (shape_of r) colour t) d
    unfolding output_length
    picture_all left =
        let all : y ≡ r.height = omega (arith, before.within) in
        before.drawn
        ∙ rows_over (λ j i. pixel (shape_of r) colour t i j) r.channels r.width y (r.width * r.height * r.channels) d (sampling r ok.sized).some
        (omega (arith, ap (λ n. n * (r.width * r.channels)) all)) ok.room
        ∙ ap (λ n. over (list_of (r.width * r.height * n) (λ k. pixel (shape_of r) colour t (k / n % r.width) (k / n / r.width) (k % n))) d)
        (sym (channels_are r))
