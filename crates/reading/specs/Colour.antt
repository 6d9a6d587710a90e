-- Colour: Y, Cb, Cr to R, G, B, with floor division and clamping (the rules' 'Samples, places, colour').
use Rattle.std.specs.Prelude.{ℕ, zero, suc, cond, ℤ, pos, nat_abs, ◌+ℤ◌, ◌-ℤ◌, ◌*ℤ◌}
use Rattle.std.specs.Int.Signed.{lt_z, shr_z}

-- clamping to 0..255
unfoldable pub to_byte : ℤ → ℕ
to_byte z = cond (lt_z z (pos 0)) 0 (cond (lt_z (pos 255) z) 255 (nat_abs z))

-- a chroma sample's difference from 128, below 0 or above
abbrev pub chroma : ℕ → ℤ
chroma c = pos c -ℤ pos 128

-- z / n, rounded down, below 0 too
abbrev pub floored : ℤ → ℕ → ℤ
floored z n = shr_z z n

-- R = (65536Y + 91881(Cr-128) + 32768)/65536
unfoldable pub red : ℕ → ℕ → ℕ
unfolding to_byte
red y cr = to_byte (floored (pos 65536 *ℤ pos y +ℤ pos 91881 *ℤ chroma cr +ℤ pos 32768) 65536)

-- G = (65536Y - 22554(Cb-128) - 46802(Cr-128) + 32768)/65536
unfoldable pub green : ℕ → ℕ → ℕ → ℕ
unfolding to_byte
green y cb cr = to_byte (floored (pos 65536 *ℤ pos y -ℤ pos 22554 *ℤ chroma cb -ℤ pos 46802 *ℤ chroma cr +ℤ pos 32768) 65536)

-- B = (65536Y + 116130(Cb-128) + 32768)/65536
unfoldable pub blue : ℕ → ℕ → ℕ
unfolding to_byte
blue y cb = to_byte (floored (pos 65536 *ℤ pos y +ℤ pos 116130 *ℤ chroma cb +ℤ pos 32768) 65536)

-- channel c of the colour
abbrev pub colour_of : ℕ → ℕ → ℕ → ℕ → ℕ
colour_of zero y cb cr = red y cr
colour_of (suc zero) y cb cr = green y cb cr
colour_of (suc (suc c)) y cb cr = blue y cb
