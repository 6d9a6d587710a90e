-- Where a state stands in the file, and where a segment does.
use Rattle.std.specs.Prelude.{ℕ, ◌+◌, ◌≤◌, Bool, cond, List, ltb, length, Result, Ok, Err}
use Rattle.reading.specs.declared.Refusal.{Refusal}
use Rattle.reading.specs.declared.Refusal.TheVariants.{CutShort}
use Rattle.reading.specs.declared.Case.{Case}
use Rattle.reading.specs.declared.Case.TheVariants.{Marker, Quantizers, Huffman}
use Rattle.reading.specs.declared.Header.{Header}
use Rattle.reading.specs.Tests.{◌or◌}
use Rattle.reading.specs.Header.{word, segment_end}
use Rattle.jpeg_header.specs.declared.Segment.{Segment}

-- inside a segment of tables the place is not past its end, and the end not past the file's
abbrev pub InsideCase : ℕ → ℕ → Case → Type 0
InsideCase n at Marker = at ≤ n
InsideCase n at (Quantizers e) = (at ≤ e) × (e ≤ n)
InsideCase n at (Huffman e) = (at ≤ e) × (e ≤ n)

abbrev pub Inside : ℕ → Header → Type 0
Inside n h = InsideCase n h.at h.case

-- the segment whose marker stands at p is cut short: no room for a length, a length that leaves itself out, or one past the end
abbrev pub cut_at : List ℕ → ℕ → Bool
cut_at s p = ltb (length s) (p + 4) or ltb (word s (p + 2)) 2 or ltb (length s) (segment_end s p)

-- the segment whose marker stands at p
unfoldable pub segment_at : List ℕ → ℕ → Result Segment Refusal
segment_at s p = cond (cut_at s p) (Err CutShort) (Ok (record { from = p + 4; end = segment_end s p }))
