-- The number that bits make, the highest first.
use Prim.Native.Nat.{ℕ, zero, suc, ◌+◌, ◌*◌, ◌/◌, ◌%◌, ◌^◌}
use mathlib.Core.Path.{◌≡◌, ◌∙◌}
use native.Mathlib.Omega.{arith}
use Rattle.whole.specs.Powers.{one_more}
use Rattle.reading.specs.Huffman.{bits_of}
use Rattle.jpeg_write_codes.specs.Words.{number_from}

-- the number that the low n bits of x make
pub number_bits : (n x v : ℕ) → number_from (bits_of n x) v ≡ v * 2 ^ n + x % 2 ^ n
number_bits zero x v = omega arith
number_bits (suc n) x v = number_bits n x (2 * v + x / 2 ^ n % 2) ∙ one_more n v x
