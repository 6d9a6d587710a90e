-- Fields of bits as the code reads them.
-- It is here for the code: a contract of an inner function cites it, and nothing in it needs to be believed by someone who reads
-- the theorems of the calls.
use Rattle.std.specs.Prelude.{ℕ, leb, ℤ}
use Rattle.reading.specs.Reader.{Reader, ◌>>=◌, ◌>>◌, give, rule}
use Rattle.reading.specs.Bits.{field, meaning}

-- a field that fits the code's numbers: one of over 16 bits, which no rule asks for, is Broken
unfoldable pub short_field : {S : Type 0} → Reader S ℕ → ℕ → Reader S ℕ
unfolding field
short_field next n = rule (leb n 16) >> field next n

unfoldable pub short_amplitude : {S : Type 0} → Reader S ℕ → ℕ → Reader S ℤ
unfolding short_field field
short_amplitude next n = short_field next n >>= λ v. give (meaning n v)
