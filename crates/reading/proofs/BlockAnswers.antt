-- What is answered of a block, by what was read, and back.
use Prim.Native.Nat.{ℕ}
use mathlib.Core.Path.{◌≡◌, refl, sym, ◌∙◌}
use mathlib.Core.List.{List}
use lib.ListN.{get_or}
use lib.IntN.{ℤ, pos}
use Rattle.reading.specs.declared.Bits.{Bits}
use Rattle.reading.specs.declared.Fault.{Fault}
use Rattle.reading.specs.declared.BlockRead.{BlockRead}
use Rattle.std.specs.declared.result.Result.{Result}
use Rattle.std.specs.declared.result.Result.TheVariants.{Ok, Err}
use Rattle.reading.specs.Reader.{Read, got, fault}
use Rattle.reading.specs.Block.{zeros}
use Rattle.reading.specs.Code.Places.{places}
use Rattle.reading.specs.Code.Answers.{said, levels_or, levels_of}

module _ {r : Read Bits (List ℤ)} where
  pub said_got : {l : List ℤ} {q : Bits} → r ≡ got l q → (z : ℤ) (n : ℕ) → z ≡ get_or l 0 (pos 0) → places l ≡ n → Ok (record { after = q; first = z; reach = n }) ≡ said r
  unfolding said
  said_got e z n f g = rw (e, f, sym g)

  pub said_fault : {f : Fault} → r ≡ fault f → Err f ≡ said r
  unfolding said
  said_fault e = rw e

  pub levels_got : {l : List ℤ} {q : Bits} → r ≡ got l q → (others : List ℤ) → l ≡ levels_or r others
  unfolding levels_or
  levels_got e others = rw e

  pub levels_fault : {f : Fault} → r ≡ fault f → (others : List ℤ) → others ≡ levels_or r others
  unfolding levels_or
  levels_fault e others = rw e

-- a block that was read
pub record Taken (r : Read Bits (List ℤ)) (q : Bits) (z : ℤ) (n : ℕ) : Type 0 where
  pub levels : List ℤ
  pub read : r ≡ got levels q
  pub first : z ≡ get_or levels 0 (pos 0)
  pub reach : n ≡ places levels
  pub left : levels_of r ≡ levels

-- and one that was refused
pub record Refused (r : Read Bits (List ℤ)) (f : Fault) : Type 0 where
  pub read : r ≡ fault f
  pub left : levels_of r ≡ zeros 64

abbrev pub Told : Read Bits (List ℤ) → Result (BlockRead Bits) Fault → Type 0
Told r (Ok b) = Taken r b.after b.first b.reach
Told r (Err f) = Refused r f

said_told : (r : Read Bits (List ℤ)) → Told r (said r)
unfolding said levels_of levels_or
said_told (got l q) = record { levels = l; read = refl; first = refl; reach = refl; left = refl }
said_told (fault f) = record { read = refl; left = refl }

pub told : (r : Read Bits (List ℤ)) {x y : Result (BlockRead Bits) Fault} → x ≡ said r → x ≡ y → Told r y
told r e g = rw (sym e ∙ g) at (said_told r)
