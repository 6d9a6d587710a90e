-- A symbol at a wide cursor: the rules' reader over the bits that are there once it is filled up.
use Rattle.std.specs.Prelude.{ℕ, List, Result, Ok, Err}
use Rattle.reading.specs.declared.Fault.{Fault}
use Rattle.reading.specs.Reader.{Read, got, fault}
use Rattle.reading.specs.Huffman.{Table, symbol}
use Rattle.jpeg_bits_wide.specs.declared.Wide.{Wide}
use Rattle.jpeg_bits_wide.specs.Cursor.{filled, bit}

-- the answer: the symbol and the cursor behind it, or the fault
abbrev pub told : Read Wide ℕ → Result (ℕ × Wide) Fault
told (got x q) = Ok (x, q)
told (fault f) = Err f

unfoldable pub plainly : Table → List ℕ → Wide → Result (ℕ × Wide) Fault
unfolding symbol filled bit
plainly t s w = told (symbol (bit s) t (filled s w))
