-- What the code makes of a value's bits: it is what the rules say, and it is small enough for a level.
use Prim.Native.Nat.{ℕ, ◌+◌, ◌-◌, ◌/◌, ◌%◌, ◌^◌, ◌<◌, ◌≤◌}
use mathlib.Core.Path.{◌≡◌, ap, ◌∙◌, subst, subst⁻¹}
use mathlib.Core.List.{[]}
use native.Mathlib.Omega.{arith}
use native.Mathlib.Nat.{mod-lt, mod-eq_of_lt}
use lib.IntN.{ℤ, nat_abs}
use mir.Syntax.{w16}
use mir.Val.{SFits}
use Rattle.whole.specs.Expressions.{fits_abs}
use lib.Pow.{pow_pos, pow_mono, shr_lt}
use Rattle.reading.specs.Bits.{one, meaning}
use Rattle.reading.proofs.FineRead.{file_bits, meaning_below}
use Rattle.jpeg_bits_wide.specs.Cursor.{meant_by}
use Rattle.jpeg_bits_wide.proofs.Meanings.{meant_is}
use Rattle.jpeg_huffman_table.specs.Looks.{field_at}

-- the highest n bits
pub top_small : (acc n : ℕ) → acc < 2 ^ 64 → n ≤ 64 → acc / 2 ^ (64 - n) < 2 ^ n
top_small acc n fits few = shr_lt n (64 - n) (subst (λ k. acc < 2 ^ k) whole fits)
  where
    whole : 64 ≡ n + (64 - n)
    whole = omega arith

module _ (n v : ℕ) (below : v < 2 ^ n) where
  pub means : n ≤ 15 → meant_by (n % 16) v ≡ meaning n v
  means few = ap (λ k. meant_by k v) (mod-eq_of_lt (omega arith)) ∙ meant_is n v below

  pub meaning_small : n ≤ 15 → nat_abs (meaning n v) ≤ 32767
  meaning_small few =
      let power : 2 ^ n ≤ 2 ^ 15 = pow_mono {j = 15} few in
      omega (arith, meaning_below (one []) (file_bits []) n v below)

-- the value of a symbol that was found by the plain walk: the highest bits of the cursor behind it
module _ (acc size : ℕ) (fits : acc < 2 ^ 64) (few : size ≤ 11) {v : ℕ} (e : v ≡ acc / 2 ^ (64 - size)) where
  below : v < 2 ^ size
  below = rw e (top_small acc size fits (omega arith))

  pub value_few : v < 2048
  value_few =
      let power : 2 ^ size ≤ 2 ^ 11 = pow_mono {j = 11} few in
      omega (arith, below)

  module _ {z : ℤ} (m : z ≡ meant_by (size % 16) v) where
    pub value_means : z ≡ meaning size (acc / 2 ^ (64 - size))
    value_means = m ∙ means size v below (omega arith) ∙ ap (meaning size) e

    pub value_level : nat_abs z ≤ 32767
    value_level = rw (m, means size v below (omega arith)) (meaning_small size v below (omega arith))

-- the field behind a code
field_small : (acc total size : ℕ) → field_at acc total size < 2 ^ (size % 16)
unfolding field_at
field_small acc total size = mod-lt (acc / 2 ^ ((64 - total % 64) % 64)) (pow_pos (size % 16))

field_level : (acc total size : ℕ) → nat_abs (meant_by (size % 16) (field_at acc total size)) ≤ 32767
field_level acc total size =
    subst⁻¹ (λ z. nat_abs z ≤ 32767) (meant_is (size % 16) (field_at acc total size) (field_small acc total size))
    (meaning_small (size % 16) (field_at acc total size) (field_small acc total size) (omega arith))

module _ (acc total size : ℕ) {v : ℕ} (e : v ≡ field_at acc total size) {z : ℤ} (m : z ≡ meant_by (size % 16) v) where
  pub field_means : z ≡ meant_by (size % 16) (field_at acc total size)
  field_means = m ∙ ap (meant_by (size % 16)) e

  pub field_fits : nat_abs z ≤ 32767
  field_fits = rw field_means (field_level acc total size)

  pub field_narrow : SFits w16 z
  field_narrow = fits_abs field_fits tt
