-- The reading of a file, limits set aside, and its picture.
use Rattle.std.specs.Prelude.{ℕ, suc, ◌/◌, ◌%◌, Bool, cond, List, [], ◌∷◌, ◌++◌, eqb, get_or, ℤ}
use Rattle.reading.specs.declared.Refusal.{Refusal}
use Rattle.reading.specs.declared.Refusal.TheVariants.{Scan}
use Rattle.reading.specs.declared.Record.{Record}
use Rattle.reading.specs.declared.Bits.{Bits}
use Rattle.whole.specs.Lists.{list_of}
use Rattle.reading.specs.Tests.{◌and◌}
use Rattle.reading.specs.Tables.{shape_of, quantizers_of}
use Rattle.reading.specs.Header.{Stage, ending, header}
use Rattle.reading.specs.Layout.{Shape, channels_in, output_length, channel_of, sample_at}
use Rattle.reading.specs.Transform.{coefficients, samples}
use Rattle.reading.specs.Colour.{colour_of}
use Rattle.reading.specs.Scan.{Scanned, whole, broke, levels}

-- a file is accepted with its record and its levels, or refused
pub data Reading : Type 0 where
  accepted : Record → List (List ℤ) → Reading
  refused : Refusal → Reading

abbrev pub scanned : Record → Scanned Bits (List (List ℤ)) → Reading
scanned r (whole ls b) = accepted r ls
scanned r (broke w) = refused (Scan w)

abbrev pub read_from : List ℕ → Stage → Reading
read_from s st = ending (λ r. scanned r (levels s r)) refused st

-- the reading of a file, limits set aside
abbrev pub reading : List ℕ → Bool → Reading
reading s colour = read_from s (header s colour)

-- the coefficients of block k and those behind it, in natural order, by the quantizer of each channel
abbrev pub dequantized : Shape → (ℕ → List ℕ) → ℕ → List (List ℤ) → List (List ℤ)
dequantized p quant k [] = []
dequantized p quant k (l ∷ ls) = coefficients (quant (channel_of p k)) l ∷ dequantized p quant (suc k) ls

-- the samples of the blocks, one block after another
abbrev pub block_samples : List (List ℤ) → List ℕ
block_samples [] = []
block_samples (c ∷ cs) = samples c ++ block_samples cs

abbrev pub all_samples : Shape → (ℕ → List ℕ) → List (List ℤ) → List ℕ
all_samples p quant ls = block_samples (dequantized p quant 0 ls)

-- the coefficients and the samples of a file's levels, by its record
abbrev pub coefficients_of : List ℕ → Record → List (List ℤ) → List (List ℤ)
coefficients_of s r ls = dequantized (shape_of r.frame) (quantizers_of s r) 0 ls

abbrev pub samples_of : List ℕ → Record → List (List ℤ) → List ℕ
samples_of s r ls = all_samples (shape_of r.frame) (quantizers_of s r) ls

-- channel c of pixel (x, y), in colour where it is chosen and there are three channels
abbrev pub pixel : Shape → Bool → List ℕ → ℕ → ℕ → ℕ → ℕ
pixel p colour t x y c =
    let v : ℕ → ℕ = λ d. get_or t (sample_at p x y d) 0 in
    cond (colour and eqb (channels_in p) 3) (colour_of c (v 0) (v 1) (v 2)) (v c)

-- the picture, row by row, channels interleaved
abbrev pub picture : Shape → Bool → List ℕ → List ℕ
picture p colour t =
    let ch = channels_in p in
    list_of (output_length p) (λ k. pixel p colour t (k / ch % p.width) (k / ch / p.width) (k % ch))

-- the picture of a record, from the samples of its blocks
abbrev pub picture_of : Record → List ℕ → List ℕ
picture_of r t = picture (shape_of r.frame) r.colour t
