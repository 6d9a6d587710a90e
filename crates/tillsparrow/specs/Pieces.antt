-- The program on four files, computed: F, the bench piece of the rules, the empty file, and F in two and in four channels.
use Rattle.std.specs.Prelude.{ℕ, Bool, true, List, [], ◌∷◌, ◌++◌, T, eqb, replicate}
use Rattle.reading.specs.Calls.{number, inspect, decode, eq_list}
use Rattle.reading.specs.Layout.{block_count, output_length, work_of}
use Rattle.reading.specs.Transform.{coefficients, samples, clamped}
use Rattle.reading.specs.Tests.{◌and◌}
use Rattle.tillsparrow_streams.specs.Answers.{own_limits, ample}
use Rattle.tillsparrow_streams.specs.Lines.{digits_in, refused, picture_head, line_text}
use Rattle.tillsparrow.specs.Answer.{answered, written}

-- a file by the segments of its frame and its scan, each behind its marker, and its one coded byte: every level is 0
abbrev file : List ℕ → List ℕ → ℕ → List ℕ
file frame scan coded =
    255 ∷ 216 ∷ 255 ∷ 219 ∷ 0 ∷ 67 ∷ 0 ∷ replicate 64 1
    ++ 255 ∷ 192 ∷ frame
    ++ 255 ∷ 196 ∷ 0 ∷ 20 ∷ 0 ∷ 1 ∷ replicate 16 0
    ++ 255 ∷ 196 ∷ 0 ∷ 20 ∷ 16 ∷ 1 ∷ replicate 16 0
    ++ 255 ∷ 218 ∷ scan
    ++ coded ∷ 255 ∷ 217 ∷ []

-- 8 x 8 in one channel
abbrev F : List ℕ
F = file (0 ∷ 11 ∷ 8 ∷ 0 ∷ 8 ∷ 0 ∷ 8 ∷ 1 ∷ 1 ∷ 17 ∷ 0 ∷ []) (0 ∷ 8 ∷ 1 ∷ 1 ∷ 0 ∷ 0 ∷ 63 ∷ 0 ∷ []) 63

-- in two
abbrev two : List ℕ
two =
    file
    (0 ∷ 14 ∷ 8 ∷ 0 ∷ 8 ∷ 0 ∷ 8 ∷ 2 ∷ 1 ∷ 17 ∷ 0 ∷ 2 ∷ 17 ∷ 0 ∷ [])
    (0 ∷ 10 ∷ 2 ∷ 1 ∷ 0 ∷ 2 ∷ 0 ∷ 0 ∷ 63 ∷ 0 ∷ [])
    15

-- in four
abbrev four : List ℕ
four =
    file
    (0 ∷ 20 ∷ 8 ∷ 0 ∷ 8 ∷ 0 ∷ 8 ∷ 4 ∷ 1 ∷ 17 ∷ 0 ∷ 2 ∷ 17 ∷ 0 ∷ 3 ∷ 17 ∷ 0 ∷ 4 ∷ 17 ∷ 0 ∷ [])
    (0 ∷ 14 ∷ 4 ∷ 1 ∷ 0 ∷ 2 ∷ 0 ∷ 3 ∷ 0 ∷ 4 ∷ 0 ∷ 0 ∷ 63 ∷ 0 ∷ [])
    0

-- a file is answered with this text
abbrev answers : List ℕ → List ℕ → Bool
answers s text = eq_list (written (answered s (replicate 65 0) (replicate 64 0))) text

-- inspect accepts a file
abbrev taken : List ℕ → Bool
taken s = eqb (number (inspect s true own_limits ample).verdict) 0

-- `P5`, `8 8`, `255` and 64 bytes of 128; `refused 4`; and `refused 5` for each of two files that inspect accepts
pub pieces :
    T (answers F (80 ∷ 53 ∷ 10 ∷ 56 ∷ 32 ∷ 56 ∷ 10 ∷ 50 ∷ 53 ∷ 53 ∷ 10 ∷ replicate 64 128)
    and answers [] (114 ∷ 101 ∷ 102 ∷ 117 ∷ 115 ∷ 101 ∷ 100 ∷ 32 ∷ 52 ∷ 10 ∷ [])
    and taken two and answers two (114 ∷ 101 ∷ 102 ∷ 117 ∷ 115 ∷ 101 ∷ 100 ∷ 32 ∷ 53 ∷ 10 ∷ [])
    and taken four and answers four (114 ∷ 101 ∷ 102 ∷ 117 ∷ 115 ∷ 101 ∷ 100 ∷ 32 ∷ 53 ∷ 10 ∷ []))
unfolding answered inspect decode samples coefficients clamped block_count output_length work_of digits_in refused picture_head line_text
pieces = tt
