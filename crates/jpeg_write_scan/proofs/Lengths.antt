-- How long a settled scan can be: a block has at most 1808 bits, and the scan of n blocks at most 512 n + 4 bytes. So no place
-- in a settled file comes near 2^64.
use Prim.Native.Nat.{ℕ, zero, suc, ◌+◌, ◌*◌, ◌/◌, ◌%◌, ◌^◌, ◌<◌, ◌≤◌}
use mathlib.Core.Path.{◌≡◌, ap, subst}
use mathlib.Core.Bool.{Bool, true, false}
use mathlib.Core.List.{List, [], ◌∷◌}
use mathlib.Core.Option.{Option, none, some}
use native.Mathlib.Omega.{arith}
use native.Mathlib.Nat.{le_trans, suc-ne-zero}
use lib.Dec.{eqb}
use lib.IntN.{ℤ, pos, nat_abs, ◌-ℤ◌}
use lib.ListN.{length, get_or, set, take, drop, length-append, length-take}
use lib.Seq.{sets}
use Rattle.reading.specs.declared.Bits.{Bits}
use Rattle.reading.specs.declared.Record.{Record}
use Rattle.reading.specs.Huffman.{table_at, code_of}
use Rattle.reading.specs.Layout.{channel_of, restart_due, restart_code}
use Rattle.reading.specs.Scan.{Plan, plan_of, no_predictors, whole, levels}
use Rattle.reading.specs.Settled.{Written, Coder, ◌then◌, size, field_of, value_bits, first_bits, skips, level_bits, rest_bits, block_by, block_bits}
use Rattle.reading.specs.Settled.{packed, Coded, bytes_of, onto, cut, predictors, written, scan_bytes, settled_scan}
use Rattle.reading.specs.Tables.{dc_at, ac_at}
use Rattle.reading.proofs.Unstuffed.{length_bits_of}
use Rattle.reading.proofs.Counted.{Whole, blocks_counted, blocks_whole}
use Rattle.reading.proofs.SettledLength.{UpTo, up_then, up_wide, code_few, packed_length}
use Rattle.jpeg_write_symbols.specs.Turns.{category_of}
use Rattle.jpeg_write_bits.specs.Page.{spot, bytes_at}
use Rattle.jpeg_write_bits.proofs.Closings.{bytes_laid}
use Rattle.jpeg_write_symbols.proofs.Turning.{category_few}

-- ---- bits

up_value : (v : ℤ) → UpTo 12 (some (value_bits v))
unfolding category_of
up_value v = omega (arith, length_bits_of (size v) (field_of (size v) v), category_few (nat_abs v))

-- a coder whose codes have at most 16 bits
pub record Short (c : Coder) : Type 0 where
  pub each : (x : ℕ) → UpTo 16 (c x)

module _ {c : Coder} (s : Short c) where
  up_skips : (n : ℕ) → UpTo (16 * n) (skips c n)
  up_skips zero = omega arith
  up_skips (suc n) = up_wide (16 + 16 * n) (16 * suc n) (c 240 then skips c n) (omega arith) (up_then 16 (16 * n) (c 240) (skips c n) (s.each 240) (up_skips n))

  -- sixteen zeros that wait count one bit each
  up_rest : (l : List ℤ) (run : ℕ) → UpTo (28 * length l + run + 16) (rest_bits c l run)
  up_rest [] zero = omega arith
  up_rest [] (suc run) = up_wide 16 (28 * 0 + suc run + 16) (c 0) (omega arith) (s.each 0)
  up_rest (v ∷ l) run = go (eqb (nat_abs v) 0) (up_rest l)
    where
      go : (t : Bool) → ((run : ℕ) → UpTo (28 * length l + run + 16) (rest_bits c l run)) → UpTo (28 * suc (length l) + run + 16) (level_bits c run v (rest_bits c l) t)
      go true ih = up_wide (28 * length l + suc run + 16) (28 * suc (length l) + run + 16) (rest_bits c l (suc run)) (omega arith) (ih (suc run))
      go false ih =
          up_wide (16 * (run / 16) + (16 + (12 + (28 * length l + 0 + 16)))) (28 * suc (length l) + run + 16) (level_bits c run v (rest_bits c l) false) (omega arith)
          (up_then (16 * (run / 16)) (16 + (12 + (28 * length l + 0 + 16))) (skips c (run / 16)) (c (16 * (run % 16) + size v) then some (value_bits v) then rest_bits c l 0) (up_skips (run / 16))
          (up_then 16 (12 + (28 * length l + 0 + 16)) (c (16 * (run % 16) + size v)) (some (value_bits v) then rest_bits c l 0) (s.each (16 * (run % 16) + size v))
          (up_then 12 (28 * length l + 0 + 16) (some (value_bits v)) (rest_bits c l 0) (up_value v) (ih 0))))

up_block : {dc ac : Coder} → Short dc → Short ac → (p : ℤ) (l : List ℤ) → UpTo (28 * length l + 16) (block_by dc ac p l)
up_block s t p [] = tt
up_block {dc} {ac} s t p (v ∷ l) =
    up_wide (16 + 12 + (28 * length l + 0 + 16)) (28 * suc (length l) + 16) (first_bits dc (v -ℤ p) then rest_bits ac l 0) (omega arith)
    (up_then (16 + 12) (28 * length l + 0 + 16) (first_bits dc (v -ℤ p)) (rest_bits ac l 0)
    (up_then 16 12 (dc (size (v -ℤ p))) (some (value_bits (v -ℤ p))) (s.each (size (v -ℤ p))) (up_value (v -ℤ p)))
    (up_rest t l 0))

-- ---- bytes

-- four times the bytes of a part, but for its padding
abbrev weight : Coded → ℕ
weight c = length c.bits + 4 * length c.after

bytes_weight : (c : Coded) → 4 * length (bytes_of c) ≤ weight c + 7
bytes_weight c = omega (arith, packed_length c.bits, length-append (packed c.bits) c.after)

abbrev Weighs : ℕ → Option Coded → Type 0
Weighs n none = Unit {0}
Weighs n (some c) = weight c ≤ n

weighs_onto : (m n : ℕ) (w : Written) (r : Option Coded) → UpTo m w → Weighs n r → Weighs (m + n) (onto w r)
weighs_onto m n none r h l = tt
weighs_onto m n (some w) none h l = tt
weighs_onto m n (some w) (some c) h l = omega (arith, length-append w c.bits)

weighs_cut : (n : ℕ) (due : Bool) (code : ℕ) (r : Option Coded) → Weighs n r → Weighs (n + 15) (cut due code r)
weighs_cut n due code none h = tt
weighs_cut n true code (some c) h = omega (arith, bytes_weight c)
weighs_cut n false code (some c) h = omega arith

weighs_wide : (m n : ℕ) (r : Option Coded) → m ≤ n → Weighs m r → Weighs n r
weighs_wide m n none l h = tt
weighs_wide m n (some c) l h = le_trans h l

-- ---- a scan

-- the codes of every channel have at most 16 bits
pub record ShortPlan (p : Plan) : Type 0 where
  pub dcs : (c : ℕ) → Short (code_of (p.channels c).dc)
  pub acs : (c : ℕ) → Short (code_of (p.channels c).ac)

pub plan_short : (s : List ℕ) (r : Record) → ShortPlan (plan_of s r)
plan_short s r =
    record {
      dcs = λ c. record { each = code_few (table_at (take r.start s) (dc_at r c)) (few (dc_at r c)) };
      acs = λ c. record { each = code_few (table_at (take r.start s) (ac_at r c)) (few (ac_at r c)) };
    }
  where
    few : (x : ℕ) → length (take 16 (drop x (take r.start s))) ≤ 16
    few x = omega (arith, length-take 16 (drop x (take r.start s)))

written_weight : (p : Plan) → ShortPlan p → (ls : List (List ℤ)) → Whole ls → (k : ℕ) (ps : List ℤ) → Weighs (8 + 1823 * length ls) (written p k ps ls)
written_weight p s [] h k ps = omega arith
written_weight p s (l ∷ ls) h k ps =
    weighs_wide (1808 + (8 + 1823 * length ls) + 15) (8 + 1823 * suc (length ls)) (written p k ps (l ∷ ls)) (omega arith)
    (weighs_cut (1808 + (8 + 1823 * length ls)) due (restart_code p.shape p.interval k) (onto bits rest)
    (weighs_onto 1808 (8 + 1823 * length ls) bits rest
    (up_wide (28 * length l + 16) 1808 bits (omega (arith, h.0)) (up_block (s.dcs c) (s.acs c) (get_or qs c (pos 0)) l))
    (written_weight p s ls h.1 (suc k) (set qs c (get_or l 0 (pos 0))))))
  where
    due : Bool
    due = restart_due p.shape p.interval k

    qs : List ℤ
    qs = predictors (restart_due p.shape p.interval k) ps

    c : ℕ
    c = channel_of p.shape k

    bits : Written
    bits = block_bits (p.channels (channel_of p.shape k)) (get_or qs (channel_of p.shape k) (pos 0)) l

    rest : Option Coded
    rest = written p (suc k) (set qs (channel_of p.shape k) (get_or l 0 (pos 0))) ls

-- n blocks make at most 512 n + 4 bytes
pub scan_length : (p : Plan) (ls : List (List ℤ)) (t : List ℕ) → ShortPlan p → Whole ls → settled_scan p ls ≡ some t → length t ≤ 512 * length ls + 4
unfolding settled_scan
scan_length p ls t s w e = go (written p 0 no_predictors ls) (written_weight p s ls w 0 no_predictors) e
  where
    go : (o : Option Coded) → Weighs (8 + 1823 * length ls) o → scan_bytes o ≡ some t → length t ≤ 512 * length ls + 4
    go none h e = absurd (suc-ne-zero 0 cc)
    go (some c) h e =
        let same : bytes_of c ≡ t = cc in
        omega (arith, bytes_weight c, h, ap length same)

-- ---- a scan that was read

module _ (s : List ℕ) (r : Record) (ls : List (List ℤ)) (b : Bits) (t : List ℕ) (e : levels s r ≡ whole ls b) (f : settled_scan (plan_of s r) ls ≡ some t) where
  pub settled_length : length t ≤ 512 * r.blocks + 4
  settled_length = subst (λ n. length t ≤ 512 * n + 4) (blocks_counted s r e) (scan_length (plan_of s r) ls t (plan_short s r) (blocks_whole s r e) f)

  -- behind a head below 2^62 no place reaches 2^64 - 1, so all bytes are laid one after the other, and counted
  pub settled_laid : (out : List ℕ) (at : ℕ) → at < 2 ^ 62 → r.blocks ≤ 2 ^ 37 → bytes_at (spot out at) t ≡ spot (sets out at t) (at + length t)
  settled_laid out at h l = bytes_laid t out at (omega (arith, settled_length))
