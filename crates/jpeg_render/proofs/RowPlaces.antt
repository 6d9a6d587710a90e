-- A row of pixels among the block samples: the places that are counted on from the row's first are the rules' places, and all
-- of them lie within the samples.
use Prim.Native.Nat.{ℕ, zero, suc, ◌+◌, ◌*◌, ◌-◌, ◌/◌, ◌%◌, ◌<◌, ◌≤◌}
use mathlib.Core.Path.{◌≡◌, sym, ap, ap₂, ◌∙◌}
use mathlib.Core.Bool.{Bool}
use mathlib.Core.List.{List, [], ◌∷◌}
use native.Mathlib.Omega.{arith}
use native.Mathlib.Decide.{ℕ_discrete}
use native.Mathlib.Numerals.{add-one}
use native.Mathlib.Nat.{mod-lt, zero-add, div-le_self, mul-le-mul, mul-le-mul_right, mul-div_cancel, div-add-mod', div-lt_iff_lt-mul, not-suc-le-zero}
use lib.Dec.{eqb}
use lib.ListN.{get_or, set, length, take, length-set}
use lib.Seq.{get_or-set_same, get_or-set_other}
use Rattle.std.specs.Prelude.{Some}
use Rattle.reading.specs.declared.Frame.{Frame}
use Rattle.reading.specs.declared.Mcu.{Mcu}
use Rattle.reading.specs.Tests.{◌and◌}
use Rattle.reading.specs.Layout.{Factors, Shape, one_by_one, area, areas, widest, highest, ceiling, mcus_across, mcus_down}
use Rattle.reading.specs.Layout.{channels_in, factors_at, before as blocks_before, scaled, per_mcu, block_count, sample_at}
use Rattle.reading.specs.Tables.{factors_in, shape_of}
use Rattle.reading.specs.Reading.{pixel}
use Rattle.reading.specs.Code.Mcus.{mcus_of, measured}
use Rattle.reading.proofs.McuCounts.{mcus_asked}
use Rattle.reading.proofs.Accepted.{ceiling_small}
use Rattle.reading.proofs.Sampling.{Sampling, sampled_says, measured_mcu, wide_most, high_most, wide_least, high_least, wide_above, channels_are, factors_at_lem}
use Rattle.jpeg_render_row.specs.Runs.{shown}
use Rattle.jpeg_render.specs.Rows.{Sized, Drawable, RowFits, LaneFits, blocks_above, row_in, row_of, RowsOf, lane, lane_at, in_mcu}
use Rattle.jpeg_render.proofs.Lanes.{row_block, sample_place}
use Rattle.jpeg_render.proofs.Shades.{shown_same, coloured_three}

-- ---- the blocks of the channels of an MCU

-- those before channel c + 1 are those before channel c and its own
pub areas_next : (fs : List Factors) (c : ℕ) → c < length fs → areas (take (suc c) fs) ≡ areas (take c fs) + area (get_or fs c one_by_one)
areas_next [] c h = absurd (not-suc-le-zero h)
areas_next (f ∷ fs) zero h = omega arith
areas_next (f ∷ fs) (suc c) h = omega (arith, areas_next fs c (omega arith))

areas_inside : (fs : List Factors) (c : ℕ) → c < length fs → areas (take c fs) + area (get_or fs c one_by_one) ≤ areas fs
areas_inside [] c h = absurd (not-suc-le-zero h)
areas_inside (f ∷ fs) zero h = omega arith
areas_inside (f ∷ fs) (suc c) h = omega (arith, areas_inside fs c (omega arith))

-- ---- a shape

-- a place below a side is in one of the MCUs along it
ceiling_above : (x w b : ℕ) → x < w → 0 < b → x / b < ceiling w b
ceiling_above x w b l p = (div-lt_iff_lt-mul p).1 (omega (arith, div-add-mod' (w + (b - 1)) b, mod-lt (w + (b - 1)) p))

module _ (p : Shape) (wide : 1 ≤ widest p.factors) (high : 1 ≤ highest p.factors) where
  -- the blocks of MCU k in the row of MCUs that has pixel row y are among all
  mcu_below : (k y : ℕ) → k * (8 * widest p.factors) < p.width → y < p.height
      → blocks_above p y + k * areas p.factors + areas p.factors ≤ block_count p
  unfolding block_count per_mcu
  mcu_below k y l m =
      let above : y / (8 * highest p.factors) < mcus_down p = ceiling_above y p.height (8 * highest p.factors) m (omega arith) in
      let left : k * (8 * widest p.factors) / (8 * widest p.factors) < mcus_across p
      = ceiling_above (k * (8 * widest p.factors)) p.width (8 * widest p.factors) l (omega arith) in
      let is : k * (8 * widest p.factors) / (8 * widest p.factors) ≡ k = mul-div_cancel k (omega arith) in
      let one : (y / (8 * highest p.factors) + 1) * mcus_across p ≤ mcus_down p * mcus_across p = mul-le-mul_right (mcus_across p) (omega arith) in
      let all : (y / (8 * highest p.factors) * mcus_across p + k + 1) * areas p.factors ≤ mcus_across p * mcus_down p * areas p.factors
      = mul-le-mul_right (areas p.factors) (omega (arith, one, left, is)) in
      omega (arith, all)

  -- a channel's row in such an MCU ends within it
  row_below : (k y c : ℕ) → k * (8 * widest p.factors) < p.width → y < p.height
      → c < channels_in p → 1 ≤ (factors_at p c).down
      → row_of p y c + k * (64 * areas p.factors) + 64 * (factors_at p c).across ≤ 64 * block_count p + 56
  unfolding row_of
  row_below k y c l m h some =
      let inside : y % (8 * highest p.factors) < 8 * highest p.factors = mod-lt y (omega arith) in
      let block : y % (8 * highest p.factors) * (factors_at p c).down / highest p.factors / 8 < (factors_at p c).down
      = row_block (y % (8 * highest p.factors)) (factors_at p c).down (highest p.factors) inside some in
      let rows : (y % (8 * highest p.factors) * (factors_at p c).down / highest p.factors / 8 + 1) * (factors_at p c).across
      ≤ (factors_at p c).down * (factors_at p c).across = mul-le-mul_right (factors_at p c).across (omega arith) in
      omega (arith, mcu_below k y l m, areas_inside p.factors c h, rows)

-- ---- a frame: the numbers are small

-- the places of a row, channel by channel, as the code counts: what holds before channel c
pub record RowsTo (r : Frame) (y blocks c : ℕ) (places : List ℕ) : Type 0 where
  pub inside : c ≤ r.channels
  pub size : length places ≡ 4
  pub counted : blocks ≡ blocks_above (shape_of r) y + blocks_before (shape_of r) c
  pub few : blocks ≤ 5368627200 + 16 * c
  pub has : RowsOf (shape_of r) y c places

module _ (r : Frame) (ok : Sized r) where
  pub sampling : Sampling r
  sampling = sampled_says r ok.sampling

  pub few_channels : r.channels ≤ 4
  few_channels = sampling.few

  pub wide_is : (1 ≤ widest (shape_of r).factors) × (widest (shape_of r).factors ≤ 4)
  wide_is = (wide_least r sampling, wide_most r sampling)

  pub high_is : (1 ≤ highest (shape_of r).factors) × (highest (shape_of r).factors ≤ 4)
  high_is = (high_least r sampling, high_most r sampling)

  -- the factors of a channel
  pub factors_are : (c : ℕ) → c < r.channels → factors_at (shape_of r) c ≡ factors_in r.across r.down c
  factors_are c h = factors_at_lem r 0 r.channels c h ∙ ap (factors_in r.across r.down) (zero-add c)

  channel_counted : (c : ℕ) → c < r.channels → c < channels_in (shape_of r)
  channel_counted c h = omega (arith, channels_are r)

  -- what was measured, in the rules' words
  module _ {m : Mcu} (e : Some m ≡ measured r) where
    pub across_is : m.across ≡ widest (shape_of r).factors
    across_is = ap (λ (k : Mcu). k.across) (measured_mcu r e)

    pub down_is : m.down ≡ highest (shape_of r).factors
    down_is = ap (λ (k : Mcu). k.down) (measured_mcu r e)

    pub blocks_is : m.blocks ≡ areas (shape_of r).factors
    blocks_is = ap (λ (k : Mcu). k.blocks) (measured_mcu r e)

    pub across_asked : {n : ℕ} → n ≡ mcus_of r.width m.across → n ≡ mcus_across (shape_of r)
    across_asked q =
        mcus_asked _ _ q ok.width_most (omega (arith, across_is, wide_is)) (omega (arith, across_is, wide_is))
        ∙ ap (λ k. ceiling r.width (8 * k)) across_is

    pub down_asked : {n : ℕ} → n ≡ mcus_of r.height m.down → n ≡ mcus_down (shape_of r)
    down_asked q =
        mcus_asked _ _ q ok.height_most (omega (arith, down_is, high_is)) (omega (arith, down_is, high_is))
        ∙ ap (λ k. ceiling r.height (8 * k)) down_is

  pub across_most : mcus_across (shape_of r) ≤ 8192
  across_most = ceiling_small r.width (8 * widest (shape_of r).factors) (omega (arith, ok.width_most)) (omega (arith, wide_is))

  pub mcus_most : mcus_across (shape_of r) * mcus_down (shape_of r) ≤ 67108864
  mcus_most =
      mul-le-mul {n₂ = 8192} {m₂ = 8192} across_most
      (ceiling_small r.height (8 * highest (shape_of r).factors) (omega (arith, ok.height_most)) (omega (arith, high_is)))

  pub blocks_most : mcus_across (shape_of r) * mcus_down (shape_of r) * areas (shape_of r).factors ≤ 671088640
  blocks_most = mul-le-mul {n₂ = 67108864} {m₂ = 10} mcus_most sampling.blocks

  pub pixels_most : r.width * r.height ≤ 4294836225
  pixels_most = mul-le-mul {n₂ = 65535} {m₂ = 65535} ok.width_most ok.height_most

  pub bytes_most : r.width * r.height * r.channels ≤ 17179344900
  bytes_most = mul-le-mul {n₂ = 4294836225} {m₂ = 4} pixels_most sampling.few

  module _ (y : ℕ) (below : y < r.height) where
    pub strips_most : y / (8 * highest (shape_of r).factors) * mcus_across (shape_of r) ≤ 536862720
    strips_most = mul-le-mul {n₂ = 65535} {m₂ = 8192} (omega (arith, div-le_self y (8 * highest (shape_of r).factors), ok.height_most)) across_most

    pub above_most : blocks_above (shape_of r) y ≤ 5368627200
    above_most = mul-le-mul {n₂ = 536862720} {m₂ = 10} strips_most sampling.blocks

  -- ---- the walk over the channels

  pub rows_none : (y : ℕ) (below : y < r.height) (blocks : ℕ) (places : List ℕ) → length places ≡ 4 → blocks ≡ blocks_above (shape_of r) y
      → RowsTo r y blocks 0 places
  rows_none y below blocks places four e =
      record {
        inside = omega arith;
        size = four;
        counted = omega (arith, e);
        few = omega (arith, e, above_most y below);
        has = λ c h. absurd (not-suc-le-zero h);
      }

  module _ {m : Mcu} (e : Some m ≡ measured r) {y blocks c : ℕ} {places : List ℕ} (before : RowsTo r y blocks c places) (more : c < r.channels) where
    pub row_fits : RowFits blocks (y % (8 * m.down)) (get_or r.across c 0) (get_or r.down c 0) m.down
    row_fits =
        let high : m.down ≡ highest (shape_of r).factors = down_is e in
        let some : 1 ≤ m.down = omega (arith, high, high_is) in
        record {
          wide = (sampling.across c more).1;
          high = (sampling.down c more).1;
          some = some;
          inside = mod-lt y (omega arith);
          most = omega (arith, high, high_is);
          few = omega (arith, before.few, before.inside, sampling.few);
        }

    pub few_blocks : get_or r.across c 0 * get_or r.down c 0 ≤ 16
    few_blocks = mul-le-mul {n₂ = 4} {m₂ = 4} (sampling.across c more).1 (sampling.down c more).1

    module _ {x : ℕ} (h : x ≡ row_in blocks (y % (8 * m.down) * get_or r.down c 0 / m.down) (get_or r.across c 0)) where
      placed : x ≡ row_of (shape_of r) y c
      unfolding row_of
      placed =
          h
          ∙ ap (λ v. row_in blocks (y % (8 * v) * get_or r.down c 0 / v) (get_or r.across c 0)) (down_is e)
          ∙ ap (λ b. row_in b (scaled y (get_or r.down c 0) (highest (shape_of r).factors)) (get_or r.across c 0)) before.counted
          ∙ ap (λ (f : Factors). row_in (blocks_above (shape_of r) y + blocks_before (shape_of r) c) (scaled y f.down (highest (shape_of r).factors)) f.across)
          (sym (factors_are c more))

      pub rows_next : RowsTo r y (blocks + get_or r.across c 0 * get_or r.down c 0) (c + 1) (set places c x)
      rows_next =
          record {
            inside = omega arith;
            size = length-set places c x ∙ before.size;
            counted = omega (arith, before.counted, own, all);
            few = omega (arith, before.few, few_blocks);
            has = λ i l. go i l (ℕ_discrete i c);
          }
        where
          own : area (factors_at (shape_of r) c) ≡ get_or r.across c 0 * get_or r.down c 0
          own = ap area (factors_are c more)

          all : blocks_before (shape_of r) (c + 1) ≡ blocks_before (shape_of r) c + area (factors_at (shape_of r) c)
          all = ap (blocks_before (shape_of r)) (add-one c) ∙ areas_next (shape_of r).factors c (channel_counted c more)

          go : (i : ℕ) → i < c + 1 → Dec (i ≡ c) → get_or (set places c x) i 0 ≡ row_of (shape_of r) y i
          go i l (yes p) = rw p (get_or-set_same places c x 0 (omega (arith, before.size, sampling.few)) ∙ placed)
          go i l (no p) = get_or-set_other places c i x 0 (omega arith) ∙ before.has i (omega arith)

  pub rows_all : {y blocks c : ℕ} {places : List ℕ} → RowsTo r y blocks c places → r.channels ≤ c → RowsOf (shape_of r) y r.channels places
  rows_all all over i h = all.has i (omega arith)

-- ---- row y of a picture

module _ (r : Frame) (t d : List ℕ) (ok : Drawable r t d) (y : ℕ) (below : y < r.height) where
  -- the row has room in the buffer
  pub row_room : y * (r.width * r.channels) + r.width * r.channels ≤ length d
  row_room = omega (arith, mul-le-mul_right (r.width * r.channels) below, ok.room)

  -- MCU k of the row is one of the picture's
  pub offset_within : (k : ℕ) → k * (8 * widest (shape_of r).factors) < r.width → k * (64 * areas (shape_of r).factors) ≤ length t
  offset_within k l = omega (arith, mcu_below (shape_of r) (wide_is r ok.sized).0 (high_is r ok.sized).0 k y l below, ok.whole)

  -- with the places of the row
  module _ (places : List ℕ) (found : RowsOf (shape_of r) y r.channels places) (k : ℕ) where
    pub lanes_within : k * (8 * widest (shape_of r).factors) < r.width → (c : ℕ) → c < r.channels
        → LaneFits t (get_or places c 0 + k * (64 * areas (shape_of r).factors)) (get_or r.across c 0) (widest (shape_of r).factors)
    lanes_within l c h =
        let factors : factors_at (shape_of r) c ≡ factors_in r.across r.down c = factors_are r ok.sized c h in
        let across_at : (factors_at (shape_of r) c).across ≡ get_or r.across c 0 = ap (λ (f : Factors). f.across) factors in
        let down_at : (factors_at (shape_of r) c).down ≡ get_or r.down c 0 = ap (λ (f : Factors). f.down) factors in
        let some : 1 ≤ (factors_at (shape_of r) c).down = omega (arith, down_at, (sampling r ok.sized).down c h) in
        let read = row_below (shape_of r) (wide_is r ok.sized).0 (high_is r ok.sized).0 k y c l below (channel_counted r ok.sized c h) some in
        record {
          least = ((sampling r ok.sized).across c h).0;
          below = wide_above r c h;
          most = (wide_is r ok.sized).1;
          read = omega (arith, read, across_at, found c h, ok.whole);
        }

    -- pixel i of MCU k is the picture's
    pub pixel_in_row : (i : ℕ) → i < 8 * widest (shape_of r).factors → (colour : Bool) (c : ℕ) → c < r.channels
        → in_mcu t places (k * (64 * areas (shape_of r).factors)) r.across (widest (shape_of r).factors) (colour and eqb r.channels 3) i c
        ≡ pixel (shape_of r) colour t (k * (8 * widest (shape_of r).factors) + i) y c
    unfolding in_mcu
    pixel_in_row i l colour c h =
        shown_same (colour and eqb r.channels 3) counted sample r.channels (coloured_three colour r.channels) same c h
        ∙ ap (λ n. shown (colour and eqb n 3) sample c) (sym (channels_are r))
      where
        counted : ℕ → ℕ
        counted = lane_at t places (k * (64 * areas (shape_of r).factors)) r.across (widest (shape_of r).factors) i

        sample : ℕ → ℕ
        sample n = get_or t (sample_at (shape_of r) (k * (8 * widest (shape_of r).factors) + i) y n) 0

        same : (n : ℕ) → n < r.channels → counted n ≡ sample n
        same n q =
            ap (λ j. get_or t j 0)
            (ap₂ (λ a own. a + k * (64 * areas (shape_of r).factors) + lane own (widest (shape_of r).factors) i)
            (found n q) (sym (ap (λ (f : Factors). f.across) (factors_are r ok.sized n q)))
            ∙ sym (sample_place (shape_of r) y k i n l))
