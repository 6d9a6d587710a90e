-- Where a channel's entries stand among those of four channels, and the field behind a code.
use Prim.Native.Nat.{ℕ, zero, suc, ◌+◌, ◌*◌, ◌-◌, ◌/◌, ◌%◌, ◌^◌, ◌<◌}
use mathlib.Core.Path.{◌≡◌, refl, sym, ap, ap₂, ◌∙◌}
use mathlib.Core.Bool.{Bool, true, false}
use mathlib.Core.List.{List, [], append-nil}
use native.Mathlib.Omega.{arith}
use native.Mathlib.Nat.{mod-eq_of_lt}
use lib.Dec.{eqb}
use lib.ListN.{get_or, take, drop}
use lib.Seq.{get_or-take, get_or-drop}
use lib.Pow.{shr_lt}
use borrow.Author.Tests.{le-ltb, eq-eqb, ne_eqb}
use Rattle.whole.specs.Lists.{get_d_from}
use Rattle.reading.specs.Huffman.{Table, table_at}
use Rattle.jpeg_huffman_table.specs.Looks.{entry_at, entries, looks, paired, looked, field_at}
use Rattle.jpeg_huffman_table.proofs.Laying.{part, parts, part_there, looks_parts}

pub field_is : (acc total size : ℕ) → 0 < total → total < 64 → size < 16 → field_at acc total size ≡ acc / 2 ^ (64 - total) % 2 ^ size
unfolding field_at
field_is acc total size some few small = ap₂ (λ i j. acc / 2 ^ i % 2 ^ j) amount (mod-eq_of_lt small)
  where
    amount : (64 - total % 64) % 64 ≡ 64 - total
    amount = omega arith

entry_in : (first : Bool) (t : Table) (i : ℕ) → i < 512 → get_or (entries 9 first t) i 0 ≡ entry_at 9 first t i
unfolding entries
entry_in first t i h = get_d_from (entry_at 9 first t) 0 512 i 0 h ∙ ap (entry_at 9 first t) same
  where
    same : 0 + i ≡ i
    same = omega arith

module _ (t dcs acs : List ℕ) where
  -- an entry of a part
  part_entry :
      (j i : ℕ)
      → j < 8
      → i < 512
      → get_or (looks t dcs acs) (512 * j + i) 0 ≡ entry_at 9 (eqb (j % 2) 0) (table_at t (get_or (paired dcs acs) j 0)) i
  unfolding part
  part_entry j i h k =
      sym (get_or-drop (512 * j) (looks t dcs acs) i 0)
      ∙ sym (get_or-take 512 (drop (512 * j) (looks t dcs acs)) i 0 k)
      ∙ ap (λ l. get_or (take 512 (drop (512 * j) l)) i 0) (looks_parts t dcs acs ∙ sym (append-nil (parts t (paired dcs acs) 0 8)))
      ∙ ap (λ l. get_or l i 0) (part_there t (paired dcs acs) 0 8 j [] h ∙ ap (part t (paired dcs acs)) here)
      ∙ entry_in (eqb (j % 2) 0) (table_at t (get_or (paired dcs acs) j 0)) i k
    where
      here : 0 + j ≡ j
      here = omega arith

  paired_first : (c : ℕ) → c < 4 → get_or (paired dcs acs) (2 * c) 0 ≡ get_or dcs c 0
  paired_first zero h = refl
  paired_first (suc zero) h = refl
  paired_first (suc (suc zero)) h = refl
  paired_first (suc (suc (suc zero))) h = refl
  paired_first (suc (suc (suc (suc c)))) h = let over : ⊥ = omega arith in absurd over

  paired_later : (c : ℕ) → c < 4 → get_or (paired dcs acs) (2 * c + 1) 0 ≡ get_or acs c 0
  paired_later zero h = refl
  paired_later (suc zero) h = refl
  paired_later (suc (suc zero)) h = refl
  paired_later (suc (suc (suc zero))) h = refl
  paired_later (suc (suc (suc (suc c)))) h = let over : ⊥ = omega arith in absurd over

  module _ (c : ℕ) (there : c < 4) (acc : ℕ) (fits : acc < 2 ^ 64) where
    below : acc / 2 ^ 55 < 512
    below = shr_lt 9 55 fits

    -- what `entry` answers for a channel's first levels, and for its later ones
    pub first_entry : looked 9 (looks t dcs acs) (1024 * c) acc ≡ entry_at 9 true (table_at t (get_or dcs c 0)) (acc / 2 ^ 55)
    unfolding looked
    first_entry =
        rw (le-ltb 3584 (1024 * c) (omega (arith, there)))
        (ap (λ k. get_or (looks t dcs acs) (k + acc / 2 ^ 55) 0) place
        ∙ part_entry (2 * c) (acc / 2 ^ 55) (omega (arith, there)) below
        ∙ ap₂ (λ b p. entry_at 9 b (table_at t p) (acc / 2 ^ 55)) (eq-eqb (2 * c % 2) 0 even) (paired_first c there))
      where
        place : 1024 * c ≡ 512 * (2 * c)
        place = omega arith

        even : 2 * c % 2 ≡ 0
        even = omega arith

    pub later_entry : looked 9 (looks t dcs acs) (1024 * c + 512) acc ≡ entry_at 9 false (table_at t (get_or acs c 0)) (acc / 2 ^ 55)
    unfolding looked
    later_entry =
        rw (le-ltb 3584 (1024 * c + 512) (omega (arith, there)))
        (ap (λ k. get_or (looks t dcs acs) (k + acc / 2 ^ 55) 0) place
        ∙ part_entry (2 * c + 1) (acc / 2 ^ 55) (omega (arith, there)) below
        ∙ ap₂ (λ b p. entry_at 9 b (table_at t p) (acc / 2 ^ 55)) (ne_eqb ((2 * c + 1) % 2) 0 odd) (paired_later c there))
      where
        place : 1024 * c + 512 ≡ 512 * (2 * c + 1)
        place = omega arith

        odd : (2 * c + 1) % 2 ≡ 0 → ⊥
        odd e = omega arith
