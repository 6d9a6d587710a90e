-- What is to come at a cursor, as a plain list of bits: those that can be read before the next marker or the end, and the bytes from there
-- on.
-- It is here for the code: a contract of an inner function cites it, and nothing in it needs to be believed by someone who reads
-- the theorems of the calls.
use Rattle.std.specs.Prelude.{ℕ, cond, List, [], ◌∷◌, ◌++◌, eqb, drop}
use Rattle.reading.specs.declared.Bits.{Bits}
use Rattle.reading.specs.declared.Fault.{Fault}
use Rattle.reading.specs.declared.Fault.TheVariants.{RanOut, Bare}
use Rattle.reading.specs.Reader.{Read, got, fault, Reader}
use Rattle.reading.specs.Huffman.{bits_of}

-- bits, and the bytes behind them
pub record Plain : Type 0 where
  pub bits : List ℕ
  pub after : List ℕ

abbrev pub plain : List ℕ → List ℕ → Plain
plain bs after = record { bits = bs; after = after }

-- why there is no further bit
abbrev pub why : List ℕ → Fault
why [] = RanOut
why (x ∷ []) = RanOut
why (x ∷ y ∷ l) = Bare

abbrev pub pop_from : List ℕ → List ℕ → Read Plain ℕ
pop_from [] after = fault (why after)
pop_from (b ∷ bs) after = got b (record { bits = bs; after = after })

-- the next bit
abbrev pub pop : Reader Plain ℕ
pop = λ s. pop_from s.bits s.after

-- bits before others
abbrev pub ahead : List ℕ → Plain → Plain
ahead bs p = plain (bs ++ p.bits) p.after

-- the bits of the data bytes before the next marker, and the bytes from there on
abbrev pub unstuff : List ℕ → Plain
unstuff [] = plain [] []
unstuff (x ∷ []) = cond (eqb x 255) (plain [] (x ∷ [])) (ahead (bits_of 8 x) (plain [] []))
unstuff (x ∷ y ∷ l) =
    cond (eqb x 255) (cond (eqb y 0) (ahead (bits_of 8 255) (unstuff l)) (plain [] (x ∷ y ∷ l))) (ahead (bits_of 8 x) (unstuff (y ∷ l)))

-- what is to come at a bit place of the file
abbrev pub pending : List ℕ → Bits → Plain
pending s b = ahead (bits_of b.left b.byte) (unstuff (drop b.at s))
