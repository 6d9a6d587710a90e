-- A run of pixels of three channels: what is shown of a pixel's samples, and the buffer that is left.
use Rattle.std.specs.Prelude.{ℕ, zero, suc, ◌*◌, Bool, cond, List, leb, length, get_or}
use Rattle.reading.specs.Tests.{◌and◌}
use Rattle.reading.specs.Colour.{colour_of}
use Rattle.jpeg_render_row.specs.Drawn.{pixels}

-- the samples of a pixel's channels
abbrev pub three : ℕ → ℕ → ℕ → ℕ → ℕ
three y cb cr zero = y
three y cb cr (suc zero) = cb
three y cb cr (suc (suc c)) = cr

-- channel c of a pixel whose channels have the samples v
abbrev pub shown : Bool → (ℕ → ℕ) → ℕ → ℕ
shown coloured v c = cond coloured (colour_of c (v 0) (v 1) (v 2)) (v c)

-- pixel i of a run: what stands in three lists of samples
unfoldable pub in_run : List ℕ → List ℕ → List ℕ → Bool → ℕ → ℕ → ℕ
in_run luma cb cr coloured i = shown coloured (three (get_or luma i 0) (get_or cb i 0) (get_or cr i 0))

-- the buffer that is left: n pixels at its start, where they are at most 32 and have room; else as it was
unfoldable pub run : List ℕ → List ℕ → List ℕ → ℕ → Bool → List ℕ → List ℕ
run luma cb cr n coloured out =
    cond (leb n 32 and leb (n * 3) (length out)) (pixels (in_run luma cb cr coloured) 3 0 n out) out
