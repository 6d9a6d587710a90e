-- A table of what the next k bits begin with, and the tables of four channels.
use Rattle.std.specs.Prelude.{ℕ, zero, suc, ◌+◌, ◌*◌, ◌-◌, ◌/◌, ◌%◌, ◌^◌, Bool, true, false, cond, List, [], ◌∷◌, ◌++◌, ltb, get_or}
use Rattle.whole.specs.Lists.{list_of}
use Rattle.reading.specs.Reader.{Read, got, fault}
use Rattle.reading.specs.Tests.{◌and◌}
use Rattle.reading.specs.Huffman.{Table, symbol, table_at}
use Rattle.reading.specs.Block.{dc_taken, ac_taken}
use Rattle.jpeg_bits_wide.specs.declared.Wide.{Wide}
use Rattle.jpeg_bits_wide.specs.Cursor.{bit}

-- a symbol that a block takes, as its first one or as a later one
unfoldable pub allowed : Bool → ℕ → Bool
allowed first x = cond first (dc_taken x) (ac_taken x)

-- the k bits of a number alone
abbrev pub alone : ℕ → ℕ → Wide
alone k w = record { at = 0; acc = w * 2 ^ (64 - k); left = k }

-- 256 x (bits of code and value) + symbol; 0 where no code was found, or a symbol that may not stand
abbrev pub entry_of : ℕ → Bool → Read Wide ℕ → ℕ
entry_of k first (got x q) = cond (ltb x 256 and allowed first x) (256 * (k - q.left + x % 16) + x) 0
entry_of k first (fault f) = 0

unfoldable pub entry_at : ℕ → Bool → Table → ℕ → ℕ
unfolding symbol bit allowed
entry_at k first t w = entry_of k first (symbol (bit []) t (alone k w))

-- the entries of all numbers of k bits
unfoldable pub entries : ℕ → Bool → Table → List ℕ
unfolding entry_at
entries k first t = list_of (2 ^ k) (entry_at k first t)

-- the entries of n channels from c on
unfoldable pub channel_looks : List ℕ → List ℕ → List ℕ → ℕ → ℕ → List ℕ
channel_looks t dcs acs c zero = []
channel_looks t dcs acs c (suc n) =
    entries 9 true (table_at t (get_or dcs c 0)) ++ entries 9 false (table_at t (get_or acs c 0)) ++ channel_looks t dcs acs (suc c) n

-- of each of four channels its first levels and its later ones
unfoldable pub looks : List ℕ → List ℕ → List ℕ → List ℕ
unfolding channel_looks
looks t dcs acs = channel_looks t dcs acs 0 4

-- the places of the channels' tables, a channel's two after each other
abbrev pub paired : List ℕ → List ℕ → List ℕ
paired dcs acs =
    get_or dcs 0 0 ∷ get_or acs 0 0 ∷ get_or dcs 1 0 ∷ get_or acs 1 0 ∷ get_or dcs 2 0 ∷ get_or acs 2 0 ∷ get_or dcs 3 0 ∷ get_or acs 3 0 ∷ []

-- the entry of the next k bits, of the 2^k from `from` on in a list of 8 x 2^k
unfoldable pub looked : ℕ → List ℕ → ℕ → ℕ → ℕ
looked k look from acc = cond (ltb (7 * 2 ^ k) from) 0 (get_or look (from + acc / 2 ^ (64 - k)) 0)

-- the last bits of the highest `total`, where that is 1 to 63: `size` of them, where that is at most 15
unfoldable pub field_at : ℕ → ℕ → ℕ → ℕ
field_at acc total size = acc / 2 ^ ((64 - total % 64) % 64) % 2 ^ (size % 16)
