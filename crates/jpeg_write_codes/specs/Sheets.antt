-- The words of the eight tables that a scan is written by, one list of 256 after the other; and what they say of the scan.
use Rattle.std.specs.Prelude.{ℕ, zero, suc, ◌+◌, ◌*◌, List, [], ◌∷◌, ◌++◌, Bool, true, false, cond, eqb, ltb, get_or, take, drop}
use Rattle.reading.specs.declared.Record.{Record}
use Rattle.reading.specs.Huffman.{table_at}
use Rattle.jpeg_write_codes.specs.Words.{code_words}

-- the words of the tables at these places of t
unfoldable pub sheet : List ℕ → List ℕ → List ℕ
sheet t [] = []
sheet t (base ∷ bases) = code_words (table_at t base) 256 ++ sheet t bases

-- the 256 words from a place on
abbrev pub words_in : ℕ → List ℕ → List ℕ
words_in a ws = take 256 (drop a ws)

-- in each of the first n tables the symbol 0 has a word
unfoldable pub zeros_coded : List ℕ → ℕ → Bool
zeros_coded ws zero = true
zeros_coded ws (suc n) = cond (eqb (get_or ws (256 * n) 0) 0) false (zeros_coded ws n)

-- whatever its levels, a record's scan has room and lacks no code: n blocks that are read from `coded` bytes make at most
-- 2 coded + 4 n bytes, and each channel's two tables have a code for the symbol 0
unfoldable pub sure : Record → List ℕ → ℕ → ℕ → Bool
unfolding zeros_coded
sure r ws coded room =
    cond (ltb room (2 * coded + 4 * r.blocks)) false
    (cond (ltb 4 r.frame.channels) false (zeros_coded ws (2 * r.frame.channels)))
