-- What the code's answers say, as readings. Each map is by cases and loses nothing, so that a contract through it still fixes
-- the answer.
-- It is here for the code: a contract of an inner function cites it, and nothing in it needs to be believed by someone who reads
-- the theorems of the calls.
use Rattle.std.specs.Prelude.{List, ℤ, pos, get_or, Result, Ok, Err}
use Rattle.reading.specs.declared.Bits.{Bits}
use Rattle.reading.specs.declared.Break.{Break}
use Rattle.reading.specs.declared.Fault.{Fault}
use Rattle.reading.specs.declared.BlockRead.{BlockRead}
use Rattle.reading.specs.Reader.{Read, got, fault}
use Rattle.reading.specs.Scan.{Scanned, whole, broke}
use Rattle.reading.specs.Block.{zeros}
use Rattle.reading.specs.Code.Places.{places}

-- what was read and the place behind it, or why nothing was
abbrev pub read_of : {A : Type 0} → Result (A × Bits) Fault → Read Bits A
read_of (Ok (x, b)) = got x b
read_of (Err f) = fault f

-- what is answered of a block: the place after it, its first level and how many places its levels reach
unfoldable pub said : Read Bits (List ℤ) → Result (BlockRead Bits) Fault
unfolding places
said (got l b) = Ok (record { after = b; first = get_or l 0 (pos 0); reach = places l })
said (fault f) = Err f

-- the levels where a block was read, else the others
unfoldable pub levels_or : Read Bits (List ℤ) → List ℤ → List ℤ
levels_or (got l b) others = l
levels_or (fault f) others = others

-- the levels that a block leaves behind: zeros where it was refused
unfoldable pub levels_of : Read Bits (List ℤ) → List ℤ
unfolding levels_or
levels_of r = levels_or r (zeros 64)

-- what is answered of a whole scan
unfoldable pub scan_read : Scanned Bits (List (List ℤ)) → Result (Unit {0}) Break
scan_read (whole ls b) = Ok tt
scan_read (broke w) = Err w
