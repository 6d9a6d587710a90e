-- What a field means: the code's test by halves is the rules', and its numbers of 32 bits are those of the rules.
use Rattle.std.proofs.Common.{◌≡◌, ℕ, ◌+◌, ◌*◌, ◌%◌, ◌^◌, ◌<◌, ◌≤◌, Bool, true, false, ltb, pos, ◌-ℤ◌, w32, to_z, of_z, sym, refl, ap, ◌∙◌, subst, arith, pow_mono, ltb-false, ltb-true, le-ltb, lt-ltb}
use mir.Facts.{to_z_pos}
use Rattle.whole.specs.Powers.{power_is}
use Rattle.whole.specs.Held.{Held, plain, less}
use Rattle.reading.specs.Bits.{meaning}
use Rattle.jpeg_block_value.proofs.Meanings.{meaning_low, meaning_high}
use Rattle.jpeg_bits_wide.specs.Cursor.{meant_by}

module _ (n v : ℕ) where
  pub meant_low : 2 * v < 2 ^ n → pos (v + 1) -ℤ pos (2 ^ n) ≡ meant_by n v
  unfolding meant_by
  meant_low h = rw (lt-ltb _ _ h)

  pub meant_high : 2 ^ n ≤ 2 * v → pos v ≡ meant_by n v
  unfolding meant_by
  meant_high h = rw (le-ltb _ _ h)

  -- of n bits it is what the rules say
  pub meant_is : v < 2 ^ n → meant_by n v ≡ meaning n v
  meant_is below = go (ltb (2 * v) (2 ^ n)) refl
    where
      go : (t : Bool) → ltb (2 * v) (2 ^ n) ≡ t → meant_by n v ≡ meaning n v
      go true e = sym (meant_low (ltb-true _ _ e)) ∙ sym (meaning_low v n below (ltb-true _ _ e))
      go false e = sym (meant_high (ltb-false _ _ e)) ∙ sym (meaning_high v n below (ltb-false _ _ e))

-- ---- in numbers of 32 bits

module _ (v size : ℕ) (small : v ≤ 65535) where
  abbrev n : ℕ
  n = size % 16

  abbrev shifted : ℕ
  shifted = 1 * 2 ^ n % 2 ^ 64

  few : n ≤ 15
  few = omega arith

  span : shifted ≡ 2 ^ n
  span = power_is n (omega (arith, few))

  spanned : Held w32 (to_z w32 shifted) (pos shifted) 65536
  spanned =
      let top : shifted ≤ 32768 = rw span (pow_mono {j = 15} few) in
      plain 65536 (omega arith) tt

  next : Held w32 (to_z w32 (v + 1)) (pos (v + 1)) 65536
  next = plain 65536 (omega arith) tt

  pub low_held : 2 * v < shifted → to_z w32 (of_z w32 (to_z w32 (v + 1) -ℤ to_z w32 shifted)) ≡ meant_by n v
  low_held h = (less next spanned tt).is ∙ ap (λ (k : ℕ). pos (v + 1) -ℤ pos k) span ∙ meant_low n v (subst (λ k. 2 * v < k) span h)

  pub high_held : shifted ≤ 2 * v → to_z w32 v ≡ meant_by n v
  high_held h = to_z_pos w32 (omega arith) ∙ meant_high n v (subst (λ k. k ≤ 2 * v) span h)
