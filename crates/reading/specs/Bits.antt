-- Bits, highest first, from the bytes of a file; fields of n bits and what they mean.
use Rattle.std.specs.Prelude.{ℕ, zero, suc, ◌+◌, ◌*◌, ◌-◌, ◌/◌, ◌%◌, ◌^◌, Bool, cond, List, [], ◌∷◌, ltb, eqb, length, drop, ℤ, pos}
use Rattle.std.proofs.Math.Option.{Option, none, some}
use Rattle.std.proofs.Math.ListN.{get_elem?}
use Rattle.std.proofs.Math.IntN.{sub_ℕ}
use Rattle.reading.specs.declared.Bits.{Bits}
use Rattle.reading.specs.declared.Fault.TheVariants.{RanOut, Bare, Broken}
use Rattle.reading.specs.Reader.{Read, got, fault, Reader, ◌>>=◌, give}
use Rattle.reading.specs.Tests.{◌and◌, is_at}

-- the first bit of a data byte x that stands before `at`
abbrev pub first_of : ℕ → ℕ → Read Bits ℕ
first_of x at = got (x / 128 % 2) (record { at = at; byte = x; left = 7 })

-- a data byte 255 must be followed by 0, which is skipped
abbrev pub after_full : ℕ → Option ℕ → Read Bits ℕ
after_full at none = fault RanOut
after_full at (some y) = cond (eqb y 0) (first_of 255 (at + 2)) (fault Bare)

abbrev pub fresh_from : List ℕ → ℕ → Option ℕ → Read Bits ℕ
fresh_from s at none = fault RanOut
fresh_from s at (some x) = cond (eqb x 255) (after_full at (get_elem? s (at + 1))) (first_of x (at + 1))

-- the first bit of the next data byte
abbrev pub fresh : List ℕ → ℕ → Read Bits ℕ
fresh s at = fresh_from s at (get_elem? s at)

-- the next bit of the file: the highest unread bit of the current byte, or the first of the next data byte
abbrev pub one_at : List ℕ → ℕ → ℕ → ℕ → Read Bits ℕ
one_at s at byte zero = fresh s at
one_at s at byte (suc n) = got ((byte / 2 ^ n) % 2) (record { at = at; byte = byte; left = n })

unfoldable pub one : List ℕ → Reader Bits ℕ
one s = λ b. one_at s b.at b.byte b.left

-- the unread bits of the current byte are all ones
abbrev pub padded : Bits → Bool
padded b = eqb (b.byte % 2 ^ b.left) (2 ^ b.left - 1)

-- the bit place before the byte at `at`
abbrev pub first_bit : ℕ → Bits
first_bit at = record { at = at; byte = 0; left = 0 }

-- how many 255 stand in a row at the front
abbrev pub fulls : List ℕ → ℕ
fulls [] = 0
fulls (x ∷ l) = cond (eqb x 255) (suc (fulls l)) 0

-- a marker in a scan: padding, any number of fill bytes 255, then 255 and the code given; reading goes on behind it
unfoldable pub mark : List ℕ → ℕ → Reader Bits (Unit {0})
mark s code =
    λ b. let n = fulls (drop b.at s) in
    cond (padded b and ltb 0 n and is_at s (b.at + n) code)
    (got tt (first_bit (b.at + n + 1)))
    (fault Broken)

-- where bits come from: the next bit; a marker; whether no byte is left; the first byte not yet taken
pub record Source (S : Type 0) : Type 0 where
  pub next : Reader S ℕ
  pub marker : ℕ → Reader S (Unit {0})
  pub ends : S → Bool
  pub place : S → ℕ

unfoldable pub file : List ℕ → Source Bits
unfolding one mark
file s = record { next = one s; marker = mark s; ends = λ b. eqb b.at (length s); place = λ b. b.at }

-- n more bits behind the number v
abbrev pub field_from : {S : Type 0} → Reader S ℕ → ℕ → ℕ → Reader S ℕ
field_from next zero v = give v
field_from next (suc n) v = next >>= λ b. field_from next n (2 * v + b)

-- an n-bit number, highest bit first
unfoldable pub field : {S : Type 0} → Reader S ℕ → ℕ → Reader S ℕ
field next n = field_from next n 0

-- what an n-bit field v means: 0 if n = 0, v + 1 - 2^n if v < 2^(n-1), else v
abbrev pub meaning : ℕ → ℕ → ℤ
meaning zero v = pos 0
meaning (suc n) v = cond (ltb v (2 ^ n)) (sub_ℕ (v + 1) (2 ^ suc n)) (pos v)

unfoldable pub amplitude : {S : Type 0} → Reader S ℕ → ℕ → Reader S ℤ
unfolding field
amplitude next n = field next n >>= λ v. give (meaning n v)
