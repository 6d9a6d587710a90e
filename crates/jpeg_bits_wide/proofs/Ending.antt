-- Bit by bit, and where no bit is left, at a proper cursor.
use Rattle.std.proofs.Common.{◌≡◌, ℕ, zero, suc, ◌+◌, ◌-◌, ◌*◌, ◌/◌, ◌%◌, ◌^◌, ◌<◌, ◌≤◌, List, [], ◌∷◌, length, drop, refl, ap}
use Rattle.std.proofs.Common.{◌∙◌, append-nil, le_of_suc-le-suc, not-suc-le-zero, arith, length-drop, eq-eqb, ne_eqb, le-leb}
use borrow.Author.Tests.{lt-leb}
use Rattle.reading.specs.declared.Fault.TheVariants.{RanOut, Bare}
use Rattle.reading.specs.Reader.{got, fault}
use Rattle.reading.specs.Bits.{field, field_from, amplitude}
use Rattle.reading.specs.Huffman.{bits_of}
use Rattle.reading.specs.Code.Coming.{plain, pop, why, ahead}
use Rattle.reading.proofs.Unstuffed.{length_bits_of}
use Rattle.jpeg_bits_wide.specs.declared.Wide.{Wide}
use Rattle.jpeg_bits_wide.specs.Cursor.{Proper, to_come, taken, fault_at, bit}
use Rattle.jpeg_bits_wide.proofs.Coming.{Bared, taken_coming, top_below}

-- ---- no bit is left

module _ (s : List ℕ) (at : ℕ) where
  pub ran_out : length s ≤ at + 1 → RanOut ≡ fault_at s at
  unfolding fault_at
  ran_out h = rw (le-leb _ _ h)

  pub is_bare : at + 1 < length s → Bare ≡ fault_at s at
  unfolding fault_at
  is_bare h = rw (lt-leb _ _ h)

why_at : (s : List ℕ) (at : ℕ) → why (drop at s) ≡ fault_at s at
unfolding fault_at
why_at s at = go (drop at s) (length-drop at s)
  where
    go : (u : List ℕ) → length u ≡ length s - at → why u ≡ fault_at s at
    go [] e = rw (le-leb (length s) (at + 1) (omega (arith, e)))
    go (x ∷ []) e = rw (le-leb (length s) (at + 1) (omega (arith, e)))
    go (x ∷ y ∷ l) e = rw (lt-leb (length s) (at + 1) (omega (arith, e)))

field_from_short : (n v : ℕ) (bs after : List ℕ) → length bs < n → field_from pop n v (plain bs after) ≡ fault (why after)
field_from_short zero v bs after h = absurd (not-suc-le-zero h)
field_from_short (suc n) v [] after h = refl
field_from_short (suc n) v (b ∷ bs) after h = field_from_short n (2 * v + b) bs after (le_of_suc-le-suc h)

module _ (s : List ℕ) (w : Wide) (b : Bared s w.at) where
  bared_coming : to_come s w ≡ plain (bits_of w.left (w.acc / 2 ^ (64 - w.left))) (drop w.at s)
  bared_coming =
      ap (ahead (bits_of w.left (w.acc / 2 ^ (64 - w.left)))) b.none_left
      ∙ ap (λ l. plain l (drop w.at s)) (append-nil (bits_of w.left (w.acc / 2 ^ (64 - w.left))))

  pub none_left : w.left ≡ 0 → pop (to_come s w) ≡ fault (fault_at s w.at)
  none_left e = ap pop (bared_coming ∙ ap (λ k. plain (bits_of k (w.acc / 2 ^ (64 - w.left))) (drop w.at s)) e) ∙ ap fault (why_at s w.at)

  -- a field that is not all there
  pub field_short : (n : ℕ) → w.left < n → field pop n (to_come s w) ≡ fault (fault_at s w.at)
  unfolding field
  field_short n h =
      ap (field pop n) bared_coming
      ∙ field_from_short n 0 (bits_of w.left (w.acc / 2 ^ (64 - w.left))) (drop w.at s) (rw (length_bits_of w.left (w.acc / 2 ^ (64 - w.left))) h)
      ∙ ap fault (why_at s w.at)

  pub amplitude_short : (n : ℕ) → w.left < n → amplitude pop n (to_come s w) ≡ fault (fault_at s w.at)
  unfolding amplitude
  amplitude_short n h = rw (field_short n h)

-- ---- one bit

module _ (s : List ℕ) (w : Wide) where
  pub bit_none : w.left ≡ 0 → bit s w ≡ fault (fault_at s w.at)
  unfolding bit
  bit_none e = rw (eq-eqb _ _ e)

  pub bit_there : (w.left ≡ 0 → ⊥) → bit s w ≡ got (w.acc / 2 ^ 63) (taken 1 w)
  unfolding bit
  bit_there n = rw (ne_eqb _ _ n)

one_bit : (v : ℕ) → v < 2 → v / 1 % 2 ≡ v
one_bit v h = omega arith

pub pop_there : (s : List ℕ) (w : Wide) → Proper w → 0 < w.left → pop (to_come s w) ≡ got (w.acc / 2 ^ 63) (to_come s (taken 1 w))
pop_there s w p h = ap pop (taken_coming p 1 h s) ∙ ap (λ k. got k (to_come s (taken 1 w))) (one_bit (w.acc / 2 ^ 63) (top_below p 1 h))
