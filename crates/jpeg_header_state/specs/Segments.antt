-- What a segment makes of the header's state, as the code answers it, for every state: the two tests that a state of the header
-- itself always passes, and a stage as an answer.
use Rattle.std.specs.Prelude.{ℕ, ◌+◌, Bool, not, List, leb, length, Result, Ok, Err}
use Rattle.reading.specs.declared.Refusal.{Refusal}
use Rattle.reading.specs.declared.Refusal.TheVariants.{Malformed, Unsupported}
use Rattle.reading.specs.declared.Frame.{Frame}
use Rattle.reading.specs.declared.Header.{Header}
use Rattle.reading.specs.Tests.{◌and◌, within}
use Rattle.reading.specs.Code.Mcus.{sampled}
use Rattle.reading.specs.Header.{Stage, more, done, stop, stop_if, has_frame}
use Rattle.jpeg_header_state.specs.declared.Step.{Step}
use Rattle.jpeg_header_state.specs.declared.Step.TheVariants.{More, Done}

-- the answer of a stage
unfoldable pub stepped : Stage → Result Step Refusal
stepped (more h) = Ok (More h)
stepped (done r) = Ok (Done r)
stepped (stop x) = Err x

-- what is left of a segment of tables ends with the segment; a table that lies past its end is malformed
unfoldable pub in_segment : List ℕ → Header → ℕ → Stage → Stage
unfolding stop_if
in_segment b h e st = stop_if (not (leb (h.at + length b) e)) Malformed st

-- the numbers of a frame that is read: sides of two bytes and not 0, and sampling that a frame can have
unfoldable pub numbers_fit : Frame → Bool
unfolding sampled
numbers_fit f = within 1 65535 f.width and within 1 65535 f.height and sampled f

-- a scan behind a frame with other numbers is not read
unfoldable pub behind_frame : Header → Stage → Stage
unfolding stop_if numbers_fit
behind_frame h st = stop_if (has_frame h and not (numbers_fit h.frame)) Unsupported st
