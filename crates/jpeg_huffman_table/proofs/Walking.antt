-- The plain walk's answers, and its bits.
use Rattle.std.proofs.Common.{◌≡◌, ℕ, ◌+◌, ◌-◌, ◌*◌, ◌/◌, ◌^◌, ◌<◌, ◌≤◌, min, List, length, get_or, take, drop, Ok, Err, refl, sym, ap, ◌∙◌, arith}
use Rattle.reading.specs.declared.Fault.{Fault}
use Rattle.reading.specs.declared.Fault.TheVariants.{NoCode}
use Rattle.reading.specs.Reader.{got, fault}
use Rattle.reading.specs.Huffman.{Table, table_at, symbol}
use Rattle.jpeg_bits_wide.specs.declared.Wide.{Wide}
use Rattle.jpeg_bits_wide.specs.Cursor.{filled, bit, taken, fault_at}
use Rattle.jpeg_bits_wide.proofs.Filling.{cursor}
use Rattle.jpeg_bits_wide.proofs.Ending.{bit_none, bit_there}
use Rattle.jpeg_huffman_table.specs.Symbols.{plainly}
use Rattle.jpeg_huffman.proofs.Codes.{Ahead, symbol_none, sliced_length, sliced_left, sliced_count, begun, no_code, no_bit, code_small, found, passed}

module _ (t : Table) (s : List ℕ) (w : Wide) where
  module _ {b : Wide} (e : b ≡ filled s w) where
    pub plain_fault : {f : Fault} → symbol (bit s) t b ≡ fault f → Err f ≡ plainly t s w
    unfolding plainly
    plain_fault g = rw (← e, g)

    pub plain_got : {x : ℕ} {q : Wide} → symbol (bit s) t b ≡ got x q → Ok (x, q) ≡ plainly t s w
    unfolding plainly
    plain_got g = rw (← e, g)

pub plain_none : (t : List ℕ) (base : ℕ) (s : List ℕ) (w : Wide) → length t ≤ base → Err NoCode ≡ plainly (table_at t base) s w
plain_none t base s w h = plain_fault (table_at t base) s w refl (symbol_none (bit s) t base (filled s w) h)

-- ---- before each count

-- what holds before count i of a table, at a cursor that was filled up from `from`
pub record Counted (t : List ℕ) (base : ℕ) (s : List ℕ) (from here : Wide) (past i place : ℕ) : Type 0 where
  pub ahead : Ahead (bit s) t base (filled s from) here past (base + i) place (min 16 (length t - base) - i)

module _ {t : List ℕ} {base : ℕ} {s : List ℕ} {from : Wide} where
  pub counted_begun : {b : Wide} → b ≡ filled s from → base < length t → Counted t base s from b 0 0 (base + 16)
  counted_begun e h =
      let up : base + 0 ≡ base = omega arith in
      let down : min 16 (length t - base) - 0 ≡ min 16 (length t - base) = omega arith in
      record { ahead = rw (e, up, down) (begun (bit s) t base (filled s from) (min 16 (length t - base)) h refl) }

  module _
      {at acc left past i place : ℕ} (a : Counted t base s from (cursor at acc left) past i place)
      {end : ℕ} (is : end ≡ min (length t) (base + 16))
    where
      pub counted_over : length (take (end - base) (drop base t)) ≤ i → Err NoCode ≡ plainly (table_at t base) s from
      counted_over h =
          let none : min 16 (length t - base) - i ≡ 0 = omega (arith, sliced_length t base is) in
          plain_fault (table_at t base) s from refl (no_code a.ahead none)

      module _ (more : i < length (take (end - base) (drop base t))) where
        counts_left : min 16 (length t - base) - i ≡ 0 → ⊥
        counts_left = sliced_left t base is more

        count_is : get_or (take (end - base) (drop base t)) i 0 ≡ get_or t (base + i) 0
        count_is = sliced_count t base is more

        pub counted_out : left ≡ 0 → {f : Fault} → f ≡ fault_at s at → Err f ≡ plainly (table_at t base) s from
        counted_out e g = plain_fault (table_at t base) s from refl (no_bit a.ahead counts_left (bit_none s (cursor at acc left) e ∙ ap fault (sym g)))

        module _ (fits : acc < 2 ^ 64) (some : left ≡ 0 → ⊥) where
          next : bit s (cursor at acc left) ≡ got (acc / 2 ^ 63) (taken 1 (cursor at acc left))
          next = bit_there s (cursor at acc left) some

          one : acc / 2 ^ 63 < 2
          one = omega arith

          pub counted_small : 2 * past + acc / 2 ^ 63 < 65536
          counted_small = code_small a.ahead counts_left next one

          pub counted_found :
              2 * past + acc / 2 ^ 63 < get_or (take (end - base) (drop base t)) i 0
              → {x : ℕ}
              → x ≡ get_or t (place + (2 * past + acc / 2 ^ 63)) 0
              → Ok (x, taken 1 (cursor at acc left)) ≡ plainly (table_at t base) s from
          counted_found h e =
              plain_got (table_at t base) s from refl
              (found a.ahead counts_left next one (rw count_is at h) ∙ ap (λ y. got y (taken 1 (cursor at acc left))) (sym e))

          pub counted_passed :
              get_or t (base + i) 0 < 256
              → get_or (take (end - base) (drop base t)) i 0 ≤ 2 * past + acc / 2 ^ 63
              → Counted t base s from (taken 1 (cursor at acc left))
              (2 * past + acc / 2 ^ 63 - get_or (take (end - base) (drop base t)) i 0) (i + 1) (place + get_or (take (end - base) (drop base t)) i 0)
          counted_passed byte h =
              let up : base + i + 1 ≡ base + (i + 1) = omega arith in
              let down : min 16 (length t - base) - i - 1 ≡ min 16 (length t - base) - (i + 1) = omega arith in
              record { ahead = rw (count_is, ← up, ← down) (passed a.ahead counts_left next one byte (rw count_is at h)) }
