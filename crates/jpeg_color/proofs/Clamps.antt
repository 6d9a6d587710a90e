-- A number clamped is the definition's byte.
use Rattle.std.proofs.Common.{◌≡◌, ℤ, pos, nat_abs, to_z-of_z, arith}
use Rattle.std.proofs.lemmas.Int.{ints}
use Rattle.std.specs.Int.{int_max, int_min}
use Rattle.reading.specs.Colour.{to_byte}

pub nearest : (z : ℤ) → nat_abs (int_max (pos 0) (int_min z (pos 255))) ≡ to_byte z
unfolding to_byte
nearest z = grind (arith, ints)

-- what `clamped` stands on: a number is read back as it is, and the nearest of 0 to 255 is the byte
pub ruleset clamps = (to_z-of_z, nearest)
