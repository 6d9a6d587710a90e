-- MCUs, blocks, restarts, and where each sample stands, stated over the sampling factors of each channel. The layout that pictures had
-- before each channel could have factors of its own, hs x vs and then 1 x 1 (`factors_of`), is an instance: proofs/Places and
-- proofs/SamplePlaces say what it is.
use Rattle.std.specs.Prelude.{ℕ, suc, ◌+◌, ◌*◌, ◌-◌, ◌/◌, ◌%◌, max, Bool, cond, List, [], ◌∷◌, ltb, eqb, replicate, length, get_or, take}
use Rattle.reading.specs.Tests.{◌and◌}

-- how many blocks of a channel stand side by side in an MCU, and how many one below the other
pub record Factors : Type 0 where
  pub across : ℕ
  pub down : ℕ

-- the sides of a picture and the factors of its channels
pub record Shape : Type 0 where
  pub width : ℕ
  pub height : ℕ
  pub factors : List Factors

abbrev pub one_by_one : Factors
one_by_one = record { across = 1; down = 1 }

-- first the factors hs x vs, then 1 x 1 for each other channel
abbrev pub factors_of : ℕ → ℕ → ℕ → List Factors
factors_of hs vs channels = record { across = hs; down = vs } ∷ replicate (channels - 1) one_by_one

-- ceiling of a/b, b above 0
abbrev pub ceiling : ℕ → ℕ → ℕ
ceiling a b = (a + (b - 1)) / b

-- the largest factors: an MCU is 8 times that wide and high
abbrev pub widest : List Factors → ℕ
widest [] = 0
widest (f ∷ fs) = max f.across (widest fs)

abbrev pub highest : List Factors → ℕ
highest [] = 0
highest (f ∷ fs) = max f.down (highest fs)

-- MCUs across = ceiling of width/(8 x largest factor across); down likewise
abbrev pub mcus_across : Shape → ℕ
mcus_across p = ceiling p.width (8 * widest p.factors)

abbrev pub mcus_down : Shape → ℕ
mcus_down p = ceiling p.height (8 * highest p.factors)

-- the blocks of a channel in an MCU
abbrev pub area : Factors → ℕ
area f = f.across * f.down

-- the blocks of an MCU: those of each channel, channel after channel
abbrev pub areas : List Factors → ℕ
areas [] = 0
areas (f ∷ fs) = area f + areas fs

unfoldable pub per_mcu : Shape → ℕ
per_mcu p = areas p.factors

unfoldable pub block_count : Shape → ℕ
unfolding per_mcu
block_count p = mcus_across p * mcus_down p * per_mcu p

-- how many channels the picture has
abbrev pub channels_in : Shape → ℕ
channels_in p = length p.factors

-- the bytes of the picture: one for each channel of each pixel
unfoldable pub output_length : Shape → ℕ
output_length p = p.width * p.height * channels_in p

-- work = 3136 x blocks + output bytes
unfoldable pub work_of : Shape → ℕ
unfolding block_count output_length
work_of p = 3136 * block_count p + output_length p

-- the channel of block j of an MCU
abbrev pub channel_in : List Factors → ℕ → ℕ
channel_in [] j = 0
channel_in (f ∷ fs) j = cond (ltb j (area f)) 0 (suc (channel_in fs (j - area f)))

-- the channel of block k of the scan
unfoldable pub channel_of : Shape → ℕ → ℕ
unfolding per_mcu
channel_of p k = channel_in p.factors (k % per_mcu p)

-- the MCU of block k
abbrev pub mcu_of : Shape → ℕ → ℕ
mcu_of p k = k / per_mcu p

-- the factors of channel c
abbrev pub factors_at : Shape → ℕ → Factors
factors_at p c = get_or p.factors c one_by_one

-- the blocks of an MCU that stand before those of channel c: those of the channels before it
abbrev pub before : Shape → ℕ → ℕ
before p c = areas (take c p.factors)

-- the place of channel c's block j in MCU m among all blocks
abbrev pub block_in : Shape → ℕ → ℕ → ℕ → ℕ
block_in p m c j = m * per_mcu p + (before p c + j)

-- a restart is due before MCU m > 0 with m a multiple of the interval; 0 is none
abbrev pub due_before : ℕ → ℕ → Bool
due_before interval m = ltb 0 m and ltb 0 interval and eqb (m % interval) 0

-- block k opens an MCU: it is its first one
unfoldable pub opens_mcu : Shape → ℕ → Bool
unfolding per_mcu
opens_mcu p k = eqb (k % per_mcu p) 0

-- a restart is due before block k: it opens such an MCU
unfoldable pub restart_due : Shape → ℕ → ℕ → Bool
unfolding opens_mcu
restart_due p interval k = opens_mcu p k and due_before interval (mcu_of p k)

-- the code of the restart marker before MCU m
abbrev pub restart_before : ℕ → ℕ → ℕ
restart_before interval m = 208 + (m / interval - 1) % 8

abbrev pub restart_code : Shape → ℕ → ℕ → ℕ
restart_code p interval k = restart_before interval (mcu_of p k)

-- the MCU of a pixel
abbrev pub mcu_at : Shape → ℕ → ℕ → ℕ
mcu_at p x y = y / (8 * highest p.factors) * mcus_across p + x / (8 * widest p.factors)

-- a place on one side of an MCU, in a channel's own samples: floor(place in MCU x its factor / largest factor)
abbrev pub scaled : ℕ → ℕ → ℕ → ℕ
scaled place factor largest = place % (8 * largest) * factor / largest

-- the place of sample (x, y) of channel c among all block samples: its block of the channel, row by row, and its place in the block
unfoldable pub sample_at : Shape → ℕ → ℕ → ℕ → ℕ
unfolding per_mcu
sample_at p x y c =
    let f = factors_at p c in
    let u = scaled x f.across (widest p.factors) in
    let v = scaled y f.down (highest p.factors) in
    64 * block_in p (mcu_at p x y) c (v / 8 * f.across + u / 8) + (8 * (v % 8) + u % 8)
