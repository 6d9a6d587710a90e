-- A word says how a symbol is written, in one number: 65536 times the length of its code, and the code. A list of words stands
-- in for a table.
use Rattle.std.specs.Prelude.{ℕ, ◌+◌, ◌*◌, ◌/◌, ◌%◌, cond, List, [], ◌∷◌, eqb, length, get_or, set}
use Rattle.std.proofs.Math.Option.{none, some}
use Rattle.whole.specs.Lists.{list_of}
use Rattle.reading.specs.Huffman.{Table, bits_of, code_of}
use Rattle.reading.specs.Settled.{Written, Coder, ◌then◌}
use Rattle.reading.specs.Tests.{within}

-- the number that bits make behind v, highest first
abbrev pub number_from : List ℕ → ℕ → ℕ
number_from [] v = v
number_from (b ∷ bs) v = number_from bs (2 * v + b)

-- the word of a code; 0 where there is none
unfoldable pub word_of : Written → ℕ
word_of none = 0
word_of (some bs) = 65536 * length bs + number_from bs 0

-- the words of the symbols below n
unfoldable pub code_words : Table → ℕ → List ℕ
code_words t n = list_of n (λ x. word_of (code_of t x))

-- the code that a word means: none where its length is not 1 to 16
unfoldable pub word_bits : ℕ → Written
word_bits w = cond (within 1 16 (w / 65536)) (some (bits_of (w / 65536) (w % 65536))) none

-- a list of words as a table
unfoldable pub coder_of : List ℕ → Coder
coder_of ws x = word_bits (get_or ws x 0)

-- a word's code, and the low n bits of a field behind it
unfoldable pub word_code : ℕ → ℕ → ℕ → Written
word_code w field n = word_bits w then some (bits_of n field)

-- a word given to a symbol that has none
unfoldable pub kept : List ℕ → ℕ → ℕ → List ℕ
kept ws x w = cond (eqb (get_or ws x 0) 0) (set ws x w) ws
