-- A block symbol by symbol: from a place on, behind a run of zeros that are not written yet, by the words of two tables.
use Rattle.std.specs.Prelude.{ℕ, zero, suc, ◌<◌, ◌≤◌, ◌≡◌, List, ℤ, pos, get_or, drop}
use Rattle.reading.specs.Settled.{Written, block_by, rest_bits}
use Rattle.jpeg_write_codes.specs.Words.{coder_of}

-- the bits of a block from a place on. Its first level is written whatever it is
unfoldable pub onwards : List ℕ → List ℕ → ℤ → List ℤ → ℕ → ℕ → Written
onwards dc ac p l zero run = block_by (coder_of dc) (coder_of ac) p l
onwards dc ac p l (suc k) run = rest_bits (coder_of ac) (drop (suc k) l) run

-- the levels from a place on, which is not the first, are zero
pub record Quiet (reach : ℕ) (l : List ℤ) : Type 0 where
  pub some : 0 < reach
  pub each : (k : ℕ) → reach ≤ k → get_or l k (pos 0) ≡ pos 0

-- the words at a place: the first place has a table of its own
unfoldable pub words_at : List ℕ → List ℕ → ℕ → List ℕ
words_at dc ac zero = dc
words_at dc ac (suc k) = ac

abbrev pub word_at : List ℕ → List ℕ → ℕ → ℕ → ℕ
word_at dc ac place x = get_or (words_at dc ac place) x 0
