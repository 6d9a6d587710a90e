-- The next bit of a file: one law for each way through the code.
use Prim.Native.Nat.{ℕ, zero, suc, ◌+◌, ◌-◌, ◌/◌, ◌%◌, ◌^◌, ◌<◌, ◌≤◌}
use mathlib.Core.Path.{◌≡◌, refl, ap, ◌∙◌}
use mathlib.Core.List.{List}
use native.Mathlib.Omega.{arith}
use native.Mathlib.Nat.{div-eq_of_lt}
use native.Mathlib.Numerals.{sub-one}
use lib.Pow.{pow_mono}
use lib.ListN.{length, get_or}
use borrow.Author.Tests.{eq-eqb, ne_eqb}
use Rattle.reading.specs.declared.Bits.{Bits}
use Rattle.reading.specs.declared.Fault.TheVariants.{RanOut, Bare}
use Rattle.reading.specs.Reader.{got, fault}
use Rattle.reading.specs.Bits.{one, one_at, fresh, first_of}
use Rattle.reading.proofs.FileBytes.{element_in, element_out}

-- ---- the first bit of the next data byte

-- a byte's first bit is what 128 goes into it
top_bit : (x : ℕ) → x < 256 → x / 128 % 2 ≡ x / 128
top_bit x h = omega arith

module _ (s : List ℕ) (at : ℕ) where
  pub fresh_out : length s ≤ at → fresh s at ≡ fault RanOut
  fresh_out h = rw (element_out s at h)

  module _ (h : at < length s) where
    pub fresh_data :
        get_or s at 0 < 256 → (get_or s at 0 ≡ 255 → ⊥)
        → fresh s at ≡ got (get_or s at 0 / 128) (record { at = at + 1; byte = get_or s at 0; left = 7 })
    fresh_data byte n =
        let first : fresh s at ≡ first_of (get_or s at 0) (at + 1) = rw (element_in s at h, ne_eqb _ _ n) in
        first ∙ ap (λ k. got k (record { at = at + 1; byte = get_or s at 0; left = 7 })) (top_bit (get_or s at 0) byte)

    module _ (full : get_or s at 0 ≡ 255) where
      pub fresh_last : length s ≤ at + 1 → fresh s at ≡ fault RanOut
      fresh_last o = rw (element_in s at h, eq-eqb _ _ full, element_out s (at + 1) o)

      module _ (i : at + 1 < length s) where
        pub fresh_bare : (get_or s (at + 1) 0 ≡ 0 → ⊥) → fresh s at ≡ fault Bare
        fresh_bare n = rw (element_in s at h, eq-eqb _ _ full, element_in s (at + 1) i, ne_eqb _ _ n)

        pub fresh_full : get_or s (at + 1) 0 ≡ 0 → fresh s at ≡ got 1 (record { at = at + 2; byte = 255; left = 7 })
        fresh_full z = rw (element_in s at h, eq-eqb _ _ full, element_in s (at + 1) i, eq-eqb _ _ z)

pub ruleset fresh_ways = (fresh_out, fresh_data, fresh_last, fresh_bare, fresh_full)

-- ---- the next bit

-- above a byte there are zeros
pub none_above : {x m : ℕ} → x < 256 → 7 < m → x / 2 ^ m ≡ 0
none_above {x} {m} byte h =
    let power : 2 ^ 8 ≤ 2 ^ m = pow_mono {i = 8} h in
    div-eq_of_lt (omega arith)

unread :
    (s : List ℕ) (at byte left : ℕ)
    → (left ≡ 0 → ⊥)
    → one_at s at byte left ≡ got ((byte / 2 ^ (left - 1)) % 2) (record { at = at; byte = byte; left = left - 1 })
unread s at byte zero n = absurd (n refl)
unread s at byte (suc left) n = rw sub-one

module _ (s : List ℕ) (b : Bits) where
  pub one_fresh : b.left ≡ 0 → one s b ≡ fresh s b.at
  unfolding one
  one_fresh e = rw e

  module _ (n : b.left ≡ 0 → ⊥) where
    pub one_unread : one s b ≡ got ((b.byte / 2 ^ (b.left - 1)) % 2) (record { at = b.at; byte = b.byte; left = b.left - 1 })
    unfolding one
    one_unread = unread s b.at b.byte b.left n

    pub one_above : 7 < b.left - 1 → b.byte < 256 → one s b ≡ got 0 (record { at = b.at; byte = b.byte; left = b.left - 1 })
    one_above h byte = one_unread ∙ rw (none_above byte h)

pub ruleset one_ways = (one_fresh, one_unread, one_above)
