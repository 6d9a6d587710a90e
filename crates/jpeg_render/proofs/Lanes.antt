-- A channel's samples for the pixels of an MCU in one row: where the channel is as wide as the MCU, where it has one block across, and
-- that all of them lie in the channel's own blocks.
use Prim.Native.Nat.{ℕ, ◌+◌, ◌*◌, ◌/◌, ◌%◌, ◌<◌, ◌≤◌}
use mathlib.Core.Path.{◌≡◌, ap, ◌∙◌}
use native.Mathlib.Omega.{arith}
use native.Mathlib.Nat.{mul-one, mul-div_cancel, div-lt_iff_lt-mul, mul-le-mul_right}
use lib.Arith.{digits_div, digits_mod}
use Rattle.reading.specs.Layout.{Shape, widest, areas, factors_at, per_mcu, sample_at}
use Rattle.jpeg_render.specs.Rows.{lane, row_of}

-- as wide as the MCU: a sample for each pixel, 8 of each block
pub lane_same : (w i : ℕ) → 0 < w → lane w w i ≡ 64 * (i / 8) + i % 8
unfolding lane
lane_same w i h = ap (λ u. 64 * (u / 8) + u % 8) (mul-div_cancel i h)

-- one block: 8 samples, each for w pixels
pub lane_one : (w i : ℕ) → i < 8 * w → lane 1 w i ≡ i / w
unfolding lane
lane_one w i h =
    let some : 0 < w = omega arith in
    let below : i / w < 8 = (div-lt_iff_lt-mul some).1 h in
    ap (λ u. 64 * (u / 8) + u % 8) (ap (λ n. n / w) (mul-one i)) ∙ omega (arith, below)

-- of a channel with some blocks across no sample is behind its last block
pub scaled_below : (z own w : ℕ) → z < 8 * w → 1 ≤ own → z * own / w < 8 * own
scaled_below z own w h p =
    let some : 0 < w = omega arith in
    let more : (z + 1) * own ≤ 8 * w * own = mul-le-mul_right own (omega arith) in
    (div-lt_iff_lt-mul some).1 (omega (arith, more, p))

pub lane_most : (own w i : ℕ) → i < 8 * w → 1 ≤ own → lane own w i + 57 ≤ 64 * own
unfolding lane
lane_most own w i h p = omega (arith, scaled_below i own w h p)

pub row_block : (z own w : ℕ) → z < 8 * w → 1 ≤ own → z * own / w / 8 < own
row_block z own w h p = omega (arith, scaled_below z own w h p)

-- the one law of places: the sample of any channel for pixel i of MCU k in row y stands so far behind the row's first one
pub sample_place : (p : Shape) (y k i c : ℕ) → i < 8 * widest p.factors
    → sample_at p (k * (8 * widest p.factors) + i) y c
    ≡ row_of p y c + k * (64 * areas p.factors) + lane (factors_at p c).across (widest p.factors) i
unfolding sample_at row_of lane per_mcu
sample_place p y k i c l = rw (digits_div k l, digits_mod k l) (omega arith)
