-- What rendering stands on: the numbers of a frame, where a row of pixels begins among the block samples of each channel, and the
-- pixels of an MCU in that row.
use Rattle.std.specs.Prelude.{ℕ, ◌+◌, ◌*◌, ◌/◌, ◌%◌, ◌<◌, ◌≤◌, ◌≡◌, Bool, true, List, [], eqb, get_or, length}
use Rattle.reading.specs.declared.Frame.{Frame}
use Rattle.reading.specs.Tests.{◌and◌}
use Rattle.reading.specs.Layout.{Shape, highest, mcus_across, areas, block_count, factors_at, before, scaled}
use Rattle.reading.specs.Tables.{shape_of}
use Rattle.reading.specs.Code.Mcus.{sampled}
use Rattle.jpeg_render_row.specs.Drawn.{pixels}
use Rattle.jpeg_render_row.specs.Runs.{three, shown}

-- the frame's numbers: sampling that a frame can have, and sides of two bytes
pub record Sized (r : Frame) : Type 0 where
  pub sampling : sampled r ≡ true
  pub width_most : r.width ≤ 65535
  pub height_most : r.height ≤ 65535

-- a frame by which block samples are drawn into a buffer
pub record Drawable (r : Frame) (samples out : List ℕ) : Type 0 where
  pub sized : Sized r
  pub room : r.width * r.height * r.channels ≤ length out
  pub whole : 64 * block_count (shape_of r) ≤ length samples

-- ---- the row of pixels y among the block samples

-- the blocks of the MCUs above those that have row y
abbrev pub blocks_above : Shape → ℕ → ℕ
blocks_above p y = y / (8 * highest p.factors) * mcus_across p * areas p.factors

-- where row v of a channel's samples in an MCU begins: so many blocks stand before the channel's first in that MCU
abbrev pub row_in : ℕ → ℕ → ℕ → ℕ
row_in blocks v across = 64 * (blocks + v / 8 * across) + 8 * (v % 8)

-- the place of channel c's sample for pixel (0, y)
unfoldable pub row_of : Shape → ℕ → ℕ → ℕ
row_of p y c =
    let f = factors_at p c in
    row_in (blocks_above p y + before p c) (scaled y f.down (highest p.factors)) f.across

-- a list that has these places of the first n channels
abbrev pub RowsOf : Shape → ℕ → ℕ → List ℕ → Type 0
RowsOf p y n places = (c : ℕ) → c < n → get_or places c 0 ≡ row_of p y c

-- the numbers by which such a place is found: factors, a row of an MCU, and not too many blocks before
pub record RowFits (blocks v across down largest : ℕ) : Type 0 where
  pub wide : across ≤ 4
  pub high : down ≤ 4
  pub some : 1 ≤ largest
  pub inside : v < 8 * largest
  pub most : largest ≤ 4
  pub few : blocks ≤ 1000000000000

-- ---- the pixels of an MCU in a row

-- how far behind the row's first sample the one for pixel i of an MCU stands: its sample is i x own / largest, 8 of each block
unfoldable pub lane : ℕ → ℕ → ℕ → ℕ
lane own largest i =
    let u = i * own / largest in
    64 * (u / 8) + u % 8

-- the sample of channel c for pixel i of an MCU, whose row begins at the channel's place and the MCU's offset
abbrev pub lane_at : List ℕ → List ℕ → ℕ → List ℕ → ℕ → ℕ → ℕ → ℕ
lane_at s places offset across largest i c = get_or s (get_or places c 0 + offset + lane (get_or across c 0) largest i) 0

-- pixel i of an MCU in one row
unfoldable pub in_mcu : List ℕ → List ℕ → ℕ → List ℕ → ℕ → Bool → ℕ → ℕ → ℕ
unfolding lane
in_mcu s places offset across largest coloured i = shown coloured (lane_at s places offset across largest i)

-- a buffer with n pixels of an MCU written from a place on, in colour where it is chosen and there are three channels
abbrev pub mcu_drawn : List ℕ → List ℕ → ℕ → List ℕ → ℕ → Bool → ℕ → ℕ → ℕ → List ℕ → List ℕ
mcu_drawn s places offset across largest colour channels at n d =
    pixels (in_mcu s places offset across largest (colour and eqb channels 3)) channels at n d

-- a list that has the samples of one channel for the pixels of an MCU
abbrev pub Spread : List ℕ → ℕ → ℕ → ℕ → List ℕ → Type 0
Spread s a own largest u = (i : ℕ) → i < 8 * largest → get_or u i 0 ≡ get_or s (a + lane own largest i) 0

-- pixel i of lists that have the samples of one channel each
abbrev pub in_lists : List (List ℕ) → ℕ → ℕ → ℕ
in_lists us i c = get_or (get_or us c []) i 0

-- ---- the usual three channels: the first as wide as the MCU, two of chroma with one block across

-- the place of sample i in a row of blocks side by side whose first sample is at a: 8 of each block
abbrev pub luma_at : ℕ → ℕ → ℕ
luma_at a i = a + (64 * (i / 8) + i % 8)

-- pixel i of an MCU in one row: luma samples from a on, the chroma channels' from b and from d on, each for hs pixels
unfoldable pub in_three : List ℕ → ℕ → ℕ → ℕ → ℕ → Bool → ℕ → ℕ → ℕ
in_three s a b d hs coloured i =
    shown coloured (three (get_or s (luma_at a i) 0) (get_or s (b + i / hs) 0) (get_or s (d + i / hs) 0))

-- a list that has each of 8 samples from b on hs times
abbrev pub Widened : List ℕ → ℕ → ℕ → List ℕ → Type 0
Widened s b hs u = (i : ℕ) → i < 8 * hs → get_or u i 0 ≡ get_or s (b + i / hs) 0

-- a list that has the first n samples of a row of blocks side by side
abbrev pub Gathered : List ℕ → ℕ → ℕ → List ℕ → Type 0
Gathered s a n u = (i : ℕ) → i < n → get_or u i 0 ≡ get_or s (luma_at a i) 0

-- the numbers across of such channels
pub record Usual (across : List ℕ) (largest channels : ℕ) : Type 0 where
  pub three : channels ≡ 3
  pub first : get_or across 0 0 ≡ largest
  pub second : get_or across 1 0 ≡ 1
  pub third : get_or across 2 0 ≡ 1

-- such channels taken from those of a row: the same samples and colour, and the places of their rows in the first MCU
pub record Taken (s places across : List ℕ) (largest channels : ℕ) (colour : Bool) (t : List ℕ) (luma cb cr hs : ℕ) (chosen : Bool) : Type 0 where
  pub usual : Usual across largest channels
  pub samples : t ≡ s
  pub first : luma ≡ get_or places 0 0
  pub second : cb ≡ get_or places 1 0
  pub third : cr ≡ get_or places 2 0
  pub wide : hs ≡ largest
  pub coloured : chosen ≡ colour

-- ---- what is read and written lies within the lists

-- an MCU of the usual three channels in one row
pub record ColourFits (s out : List ℕ) (luma cb cr hs n at : ℕ) : Type 0 where
  pub least : 1 ≤ hs
  pub most : hs ≤ 4
  pub within : n ≤ 8 * hs
  pub first : luma + 64 * hs ≤ length s + 56
  pub second : cb + 8 ≤ length s
  pub third : cr + 8 ≤ length s
  pub room : at + n * 3 ≤ length out

-- the row of one channel in an MCU: 8 samples of each block
pub record LaneFits (s : List ℕ) (a own largest : ℕ) : Type 0 where
  pub least : 1 ≤ own
  pub below : own ≤ largest
  pub most : largest ≤ 4
  pub read : a + 64 * own ≤ length s + 56

-- an MCU in one row
pub record McuFits (s out places : List ℕ) (offset : ℕ) (across : List ℕ) (largest n channels at : ℕ) : Type 0 where
  pub some : 1 ≤ channels
  pub few : channels ≤ 4
  pub most : largest ≤ 4
  pub lanes : (c : ℕ) → c < channels → LaneFits s (get_or places c 0 + offset) (get_or across c 0) largest
  pub within : n ≤ 8 * largest
  pub room : at + n * channels ≤ length out
