-- What is drawn of any frame: its picture, where its numbers are a frame's and the buffers fit, and else nothing.
use Rattle.std.specs.Prelude.{ℕ, ◌*◌, Bool, cond, List, leb, length}
use Rattle.reading.specs.declared.Frame.{Frame}
use Rattle.reading.specs.Tests.{◌and◌, over}
use Rattle.reading.specs.Layout.{block_count}
use Rattle.reading.specs.Tables.{shape_of}
use Rattle.reading.specs.Reading.{picture}
use Rattle.reading.specs.Code.Mcus.{sampled}

-- the frame's numbers: one to four channels with sampling factors that a frame can have; sides of two bytes
unfoldable pub framed : Frame → Bool
framed f = sampled f and leb f.width 65535 and leb f.height 65535

-- the picture has room in so many bytes, and so many samples are those of all blocks
unfoldable pub fits : Frame → ℕ → ℕ → Bool
unfolding framed
fits f samples room =
    framed f and leb (f.width * f.height * f.channels) room and leb (64 * block_count (shape_of f)) samples

-- the buffer that is left: the picture over what stood in it, where the frame fits
unfoldable pub rendered : Frame → Bool → List ℕ → List ℕ → List ℕ
unfolding fits
rendered f colour samples out = cond (fits f (length samples) (length out)) (over (picture (shape_of f) colour samples) out) out
