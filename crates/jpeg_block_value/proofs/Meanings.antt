-- What a field means, in the code's terms, and an amplitude by the field that was read.
use Prim.Native.Nat.{ℕ, zero, suc, ◌+◌, ◌*◌, ◌^◌, ◌<◌, ◌≤◌}
use mathlib.Core.Path.{◌≡◌, refl, sym, ◌∙◌, ap}
use mathlib.Core.List.{List}
use native.Mathlib.Nat.{not-suc-le-zero, pow-suc}
use native.Mathlib.Omega.{arith}
use lib.Pow.{pow_pos}
use lib.IntN.{ℤ, pos, sub_ℕ, nat_abs, ◌-ℤ◌}
use borrow.Author.Tests.{lt-ltb, le-ltb, le-leb}
use Rattle.std.specs.Prelude.{Result, Ok, Err}
use Rattle.reading.specs.declared.Bits.{Bits}
use Rattle.reading.specs.declared.Fault.{Fault}
use Rattle.reading.specs.Reader.{got, fault, give}
use Rattle.reading.specs.Bits.{one, meaning, field, amplitude}
use Rattle.reading.specs.Code.Fields.{short_field, short_amplitude}
use Rattle.reading.specs.Settled.{size}
use Rattle.reading.specs.Code.Answers.{read_of}
use Rattle.reading.proofs.Readings.{two, got_val}
use Rattle.reading.proofs.FineRead.{file_bits, field_below, meaning_below}
use Rattle.reading.proofs.WantOfCode.{size_meaning}

-- ---- a field

difference : (a b : ℕ) → 0 < b → pos a -ℤ pos b ≡ sub_ℕ a b
difference a zero h = absurd (not-suc-le-zero h)
difference a (suc b) h = refl

pub meaning_low : (v n : ℕ) → v < 2 ^ n → 2 * v < 2 ^ n → meaning n v ≡ pos (v + 1) -ℤ pos (2 ^ n)
meaning_low v zero below h = let none : v ≡ 0 = omega arith in rw none
meaning_low v (suc n) below h = rw (lt-ltb v (2 ^ n) (omega (arith, pow-suc 2 n))) (sym (difference (v + 1) (2 ^ suc n) (pow_pos (suc n))))

pub meaning_high : (v n : ℕ) → v < 2 ^ n → 2 ^ n ≤ 2 * v → meaning n v ≡ pos v
meaning_high v zero below h = let none : ⊥ = omega arith in absurd none
meaning_high v (suc n) below h = rw (le-ltb v (2 ^ n) (omega (arith, pow-suc 2 n)))

-- ---- an amplitude

module _ (s : List ℕ) (b : Bits) (n : ℕ) {r : Result (ℕ × Bits) Fault} (e : read_of r ≡ short_field (one s) n b) where
  pub amplitude_is : {v : ℕ} {q : Bits} → r ≡ Ok (v, q) → short_amplitude (one s) n b ≡ got (meaning n v) q
  unfolding short_amplitude
  amplitude_is g = rw (← e, g)

  pub amplitude_cut : {f : Fault} → r ≡ Err f → short_amplitude (one s) n b ≡ fault f
  unfolding short_amplitude
  amplitude_cut g = rw (← e, g)

pub amplitude_short : (s : List ℕ) (b : Bits) (n : ℕ) → n ≤ 16 → short_amplitude (one s) n b ≡ amplitude (one s) n b
unfolding short_amplitude short_field amplitude
amplitude_short s b n h = rw (le-leb n 16 h)

-- what is known of an amplitude that was read: it is small, and only one of no bits is 0
pub record Meant (z : ℤ) (n : ℕ) : Type 0 where
  pub small : nat_abs z < 2 ^ n
  pub full : 0 < n → z ≡ pos 0 → ⊥

pub amplitude_meant : (s : List ℕ) (b : Bits) (n : ℕ) → n ≤ 11 → {z : ℤ} {q : Bits} → amplitude (one s) n b ≡ got z q → Meant z n
unfolding amplitude field
amplitude_meant s b n few {z} {q} e =
    let w = two (field (one s) n b) (λ v. give (meaning n v)) z q e in
    let is : meaning n w.val ≡ z = got_val w.snd in
    let below : w.val < 2 ^ n = field_below (one s) (file_bits s) n b w.at w.val w.fst in
    let sized : size (meaning n w.val) ≡ n = size_meaning n w.val (omega arith) below in
    record {
      small = rw is at (meaning_below (one s) (file_bits s) n w.val below);
      full = λ some none. omega (arith, sym sized ∙ ap size (is ∙ none));
    }
