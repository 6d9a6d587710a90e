-- How many MCUs a side has and what an MCU holds, as the code counts them for any numbers: 0 and none for those that no frame has.
-- It is here for the code: a contract of an inner function cites it, and nothing in it needs to be believed by someone who reads
-- the theorems of the calls.
use Rattle.std.specs.Prelude.{ℕ, ◌*◌, Bool, cond, List, leb, get_or, Option, Some, None}
use Rattle.reading.specs.declared.Frame.{Frame}
use Rattle.reading.specs.declared.Mcu.{Mcu}
use Rattle.reading.specs.Tests.{◌and◌, within}
use Rattle.reading.specs.Layout.{ceiling, widest, highest, areas}
use Rattle.reading.specs.Tables.{shape_of}
use Rattle.reading.specs.Header.{each_channel}

-- MCUs across = ceiling of width/(8 x largest factor), down likewise, for a side of two bytes and a factor 1..4
unfoldable pub mcus_of : ℕ → ℕ → ℕ
mcus_of side factor = cond (leb side 65535 and within 1 4 factor) (ceiling side (8 * factor)) 0

-- the factors of one channel are 1..4
abbrev pub factors_fit : List ℕ → List ℕ → ℕ → Bool
factors_fit across down c = within 1 4 (get_or across c 0) and within 1 4 (get_or down c 0)

-- sampling that a frame can have: one to four channels, factors 1..4, at most ten blocks in an MCU
unfoldable pub sampled : Frame → Bool
sampled f =
    within 1 4 f.channels and each_channel f.channels (factors_fit f.across f.down) and leb (areas (shape_of f).factors) 10

-- what the MCUs of a frame are, for such sampling
unfoldable pub measured : Frame → Option Mcu
unfolding sampled
measured f =
    let fs = (shape_of f).factors in
    cond (sampled f) (Some (record { across = widest fs; down = highest fs; blocks = areas fs })) None
