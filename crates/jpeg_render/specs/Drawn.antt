-- A buffer with a picture written into it, row by row.
use Rattle.std.specs.Prelude.{ℕ, zero, suc, ◌*◌, Bool, List}
use Rattle.reading.specs.declared.Frame.{Frame}
use Rattle.reading.specs.Tables.{shape_of}
use Rattle.reading.specs.Reading.{pixel}
use Rattle.jpeg_render_row.specs.Drawn.{pixels}

-- n rows of `width` pixels written from the first place on: p y x c is channel c of pixel (x, y)
unfoldable pub rows : (ℕ → ℕ → ℕ → ℕ) → ℕ → ℕ → ℕ → List ℕ → List ℕ
rows p channels width zero d = d
rows p channels width (suc n) d = pixels (p n) channels (n * (width * channels)) width (rows p channels width n d)

-- row y of a frame's picture, written at its place
abbrev pub row_drawn : Frame → Bool → List ℕ → ℕ → List ℕ → List ℕ
row_drawn f colour t y d =
    pixels (λ x. pixel (shape_of f) colour t x y) f.channels (y * (f.width * f.channels)) f.width d
