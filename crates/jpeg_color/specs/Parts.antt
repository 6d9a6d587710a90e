-- What the chroma samples add to luma in each channel: the definition's sum without luma, divided and rounded down.
use Rattle.std.specs.Prelude.{ℕ, ℤ, pos, neg_ℤ, ◌+ℤ◌, ◌-ℤ◌, ◌*ℤ◌}
use Rattle.std.specs.Int.Signed.{shr_z}
use Rattle.reading.specs.Colour.{chroma}

unfoldable pub red_part : ℕ → ℤ
red_part cr = shr_z (pos 91881 *ℤ chroma cr +ℤ pos 32768) 65536

unfoldable pub green_part : ℕ → ℕ → ℤ
green_part cb cr = shr_z (neg_ℤ (pos 22554 *ℤ chroma cb) -ℤ pos 46802 *ℤ chroma cr +ℤ pos 32768) 65536

unfoldable pub blue_part : ℕ → ℤ
blue_part cb = shr_z (pos 116130 *ℤ chroma cb +ℤ pos 32768) 65536
