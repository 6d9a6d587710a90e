-- Flattening and its inverse undo each other; which record decode is asked with.
use Prim.Native.Nat.{ℕ, zero, suc, ◌<◌, ◌≤◌}
use mathlib.Core.Path.{◌≡◌, refl}
use mathlib.Core.Bool.{Bool, true, false}
use native.Mathlib.Omega.{arith}
use borrow.Author.Tests.{lt-ltb, le-ltb}
use lib.Dec.{T, ltb, eqb, ltb→lt}
use Rattle.reading.specs.declared.Record.{Record}
use Rattle.c_record.specs.declared.FlatRecord.{FlatRecord}
use Rattle.c_record.specs.Flat.{digit, flat, record_of, is_record}
use Rattle.c_record.specs.Asked.{channelless, asked}

eqb_digit : (b : Bool) → eqb (digit b) 1 ≡ b
eqb_digit true = refl
eqb_digit false = refl

pub record_of_flat : (r : Record) → record_of (flat r) ≡ r
record_of_flat r = rw (eqb_digit r.colour) refl

past : (n : ℕ) → suc (suc n) < 2 → ⊥
past n p = omega arith

digit_eqb : (n : ℕ) → T (ltb n 2) → digit (eqb n 1) ≡ n
digit_eqb zero t = refl
digit_eqb (suc zero) t = refl
digit_eqb (suc (suc n)) t = absurd (past n (ltb→lt (suc (suc n)) 2 t))

pub flat_of_record : (f : FlatRecord) → T (is_record f) → flat (record_of f) ≡ f
flat_of_record f t = rw (digit_eqb f.colour t) refl

pub flat_is_record : (r : Record) → T (is_record (flat r))
flat_is_record r = go r.colour
  where
    go : (b : Bool) → T (ltb (digit b) 2)
    go true = tt
    go false = tt

-- ---- numbers that are no record's

pub asked_none : (f : FlatRecord) → 1 < f.colour → asked f ≡ channelless f
asked_none f p = rw (lt-ltb 1 f.colour p) refl

pub asked_so : (f : FlatRecord) → f.colour ≤ 1 → asked f ≡ record_of f
asked_so f p = rw (le-ltb 1 f.colour p) refl
