-- A field of a file, bit after bit and several bits at once, in the code's terms.
use Prim.Native.Nat.{ℕ, zero, suc, ◌+◌, ◌-◌, ◌*◌, ◌/◌, ◌%◌, ◌^◌, ◌<◌, ◌≤◌}
use mathlib.Core.Path.{◌≡◌, sym, ap, ap₂, ◌∙◌}
use mathlib.Core.List.{List}
use native.Mathlib.Omega.{arith}
use native.Mathlib.Nat.{not-suc-le-zero, add-zero, add-suc}
use native.Mathlib.Numerals.{sub-one}
use borrow.Author.Tests.{le-leb, lt-leb}
use lib.Pow.{shr-shr}
use Rattle.whole.specs.Powers.{one_more}
use Rattle.reading.specs.declared.Bits.{Bits}
use Rattle.reading.specs.declared.Fault.{Fault}
use Rattle.reading.specs.declared.Fault.TheVariants.{Broken}
use Rattle.std.specs.Prelude.{Result, Ok, Err}
use Rattle.reading.specs.Reader.{got, fault, Reader, onward}
use Rattle.reading.specs.Bits.{one, field_from, field}
use Rattle.reading.specs.Code.Fields.{short_field}
use Rattle.reading.specs.Code.Answers.{read_of}

-- ---- the field

-- n more bits of a file, behind the number v
unfoldable pub further : List ℕ → ℕ → ℕ → Reader Bits ℕ
unfolding one
further s n v = field_from (one s) n v

pub field_wide : (s : List ℕ) (b : Bits) (n : ℕ) → 16 < n → short_field (one s) n b ≡ fault Broken
unfolding short_field
field_wide s b n h = rw (lt-leb _ _ h)

pub field_is : (s : List ℕ) (b : Bits) (n : ℕ) → n ≤ 16 → short_field (one s) n b ≡ further s n 0 b
unfolding short_field field further
field_is s b n h = rw (le-leb _ _ h)

pub field_done : (s : List ℕ) (b : Bits) (v n : ℕ) → n ≡ 0 → further s n v b ≡ got v b
unfolding further
field_done s b v n e = rw e

step : (s : List ℕ) (b : Bits) (v n : ℕ) → 0 < n → further s n v b ≡ onward (one s b) (λ c. further s (n - 1) (2 * v + c))
unfolding further
step s b v zero h = absurd (not-suc-le-zero h)
step s b v (suc n) h = rw sub-one

module _ (s : List ℕ) (b : Bits) (v n : ℕ) (h : 0 < n) {r : Result (ℕ × Bits) Fault} (e : read_of r ≡ one s b) where
  pub field_more : {c : ℕ} {p : Bits} → r ≡ Ok (c, p) → further s n v b ≡ further s (n - 1) (2 * v + c) p
  field_more g = step s b v n h ∙ rw (← e, g)

  pub field_cut : {f : Fault} → r ≡ Err f → further s n v b ≡ fault f
  field_cut g = step s b v n h ∙ rw (← e, g)

-- ---- several bits at once

module _ (s : List ℕ) (at byte : ℕ) where
  abbrev cursor : ℕ → Bits
  cursor left = record { at = at; byte = byte; left = left }

  -- k bits of the byte, and then m more
  taken : (rest k m v : ℕ) → further s (m + k) v (cursor (rest + k)) ≡ further s m (v * 2 ^ k + byte / 2 ^ rest % 2 ^ k) (cursor rest)
  unfolding further one
  taken rest zero m v = rw (add-zero m, add-zero rest) (ap (λ w. further s m w (cursor rest)) (omega arith))
  taken rest (suc k) m v =
      rw (add-suc m k, add-suc rest k)
      (taken rest k m (2 * v + byte / 2 ^ (rest + k) % 2)
      ∙ ap (λ w. further s m w (cursor rest)) (rw (← (shr-shr byte rest k)) (one_more k v (byte / 2 ^ rest))))

-- a field of n bits is k bits and then n - k: k bits of the current byte, which make of v the number w
pub field_part :
    (s : List ℕ) (b : Bits) (v n k rest : ℕ) {w : ℕ} → k ≤ n → rest + k ≡ b.left → w ≡ v * 2 ^ k + b.byte / 2 ^ rest % 2 ^ k
    → further s n v b ≡ further s (n - k) w (record { at = b.at; byte = b.byte; left = rest })
field_part s b v n k rest h e g =
    ap₂ (λ m left. further s m v (record { at = b.at; byte = b.byte; left = left })) (omega arith) (sym e)
    ∙ taken s b.at b.byte rest k (n - k) v
    ∙ ap (λ w. further s (n - k) w (record { at = b.at; byte = b.byte; left = rest })) (sym g)
