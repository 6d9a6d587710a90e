-- Pixels in colour whose chroma samples serve two pixels each, and the buffer that is left.
use Rattle.std.specs.Prelude.{ℕ, ◌*◌, ◌/◌, true, cond, List, leb, length, get_or}
use Rattle.reading.specs.Tests.{◌and◌}
use Rattle.jpeg_render_row.specs.Drawn.{pixels}
use Rattle.jpeg_render_row.specs.Runs.{three, shown}

-- pixel i: luma sample i, and the chroma samples that serve it and its neighbour
unfoldable pub in_pairs : List ℕ → List ℕ → List ℕ → ℕ → ℕ → ℕ
in_pairs luma cb cr i = shown true (three (get_or luma i 0) (get_or cb (i / 2) 0) (get_or cr (i / 2) 0))

-- the buffer that is left: n pixels at its start, where each chroma channel has 8 samples, they are at most 16 and have room; else as it was
unfoldable pub tinted : List ℕ → List ℕ → List ℕ → ℕ → List ℕ → List ℕ
tinted luma cb cr n out =
    cond (leb 8 (length cb) and leb 8 (length cr) and leb n 16 and leb (n * 3) (length out)) (pixels (in_pairs luma cb cr) 3 0 n out) out
