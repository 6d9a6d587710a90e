-- A look and the walk find the same symbol, for tables of any width k; and the value behind the code.
use Prim.Native.Nat.{ℕ, ◌+◌, ◌*◌, ◌-◌, ◌/◌, ◌%◌, ◌^◌, ◌<◌, ◌≤◌}
use mathlib.Core.Path.{◌≡◌, refl, sym, ap, ap₂, ◌∙◌, subst, subst⁻¹}
use mathlib.Core.Bool.{Bool, true, false, cond}
use mathlib.Core.Logic.{inr}
use mathlib.Core.List.{List, [], ◌++◌, append-nil}
use native.Mathlib.Omega.{arith}
use native.Mathlib.Nat.{mod-lt}
use lib.Dec.{ltb}
use lib.Pow.{pow_pos, shr_lt, shr-shr, split}
use lib.ListN.{length, take, length-append}
use lib.Seq.{drop-nil, take-append_seam, take_at}
use borrow.Author.Tests.{ltb-true}
use Rattle.reading.specs.Reader.{Read, got, fault}
use Rattle.reading.specs.Tests.{◌and◌}
use Rattle.reading.specs.Bits as bits
use Rattle.reading.specs.Huffman.{Table, bits_of, symbol}
use Rattle.reading.specs.Code.Coming.{Plain, plain, pop, ahead, unstuff}
use Rattle.reading.proofs.Unstuffed.{length_bits_of}
use Rattle.reading.proofs.Same.{Alike}
use Rattle.jpeg_bits_wide.specs.declared.Wide.{Wide}
use Rattle.jpeg_bits_wide.specs.Cursor.{Proper, to_come, bit, taken}
use Rattle.jpeg_bits_wide.proofs.Coming.{Bared, coming, acc_fits, bits_behind, taken_coming, taken_proper, amplitude_taken, taken_twice, top_behind}
use Rattle.jpeg_huffman_table.specs.Looks.{allowed, alone, entry_of, entry_at}
use Rattle.jpeg_huffman_table.proofs.Prefix.{Front, symbol_front}
use Rattle.jpeg_bits_wide.proofs.Meeting.{Stands}
use Rattle.jpeg_huffman_table.proofs.Agreeing.{symbol_stands}

-- ---- k bits alone

pub none_behind : Bared [] 0
none_behind = record { none_left = refl }

module _ (k : ℕ) (few : k ≤ 64) (w : ℕ) (below : w < 2 ^ k) where
  pub alone_proper : Proper (alone k w)
  alone_proper = record { high = w; few = few; below = below; is = refl }

  pub alone_coming : to_come [] (alone k w) ≡ plain (bits_of k w) []
  unfolding alone_proper
  alone_coming = coming alone_proper [] ∙ ap (λ l. plain l []) (append-nil (bits_of k w))

  pub alone_alike : (t : Table) → Alike (Stands []) (symbol (bit []) t (alone k w)) (symbol pop t (plain (bits_of k w) []))
  alone_alike t = subst (λ p. Alike (Stands []) (symbol (bit []) t (alone k w)) (symbol pop t p)) alone_coming (symbol_stands [] t (alone k w) alone_proper (inr none_behind))

-- the bits at a proper cursor where no byte comes
pub bits_left : (q : Wide) (u : Plain) → u ≡ to_come [] q → length u.bits ≡ q.left
bits_left q u e =
    ap (λ p. length p.bits) (e ∙ ap (λ l. ahead (bits_of q.left (q.acc / 2 ^ (64 - q.left))) (unstuff l)) (drop-nil q.at))
    ∙ length-append (bits_of q.left (q.acc / 2 ^ (64 - q.left))) []
    ∙ ap (λ n. n + 0) (length_bits_of q.left (q.acc / 2 ^ (64 - q.left)))
    ∙ done
  where
    done : q.left + 0 ≡ q.left
    done = omega arith

-- fronts of the same length
pub same_front : (a b c d : List ℕ) → length a ≡ length b → a ++ c ≡ b ++ d → a ≡ b
same_front a b c d h e = sym (take-append_seam a c) ∙ ap (take (length a)) e ∙ take_at b d (length a) (sym h)

-- ---- what an entry says

numbers : (m x : ℕ) → x < 256 → ((256 * m + x) % 256 ≡ x) × ((256 * m + x) / 256 ≡ m) × ((256 * m + x) % 16 ≡ x % 16)
numbers m x h = (omega arith, omega arith, omega arith)

pub record Entry (k : ℕ) (first : Bool) (t : Table) (w e : ℕ) : Type 0 where
  pub rest : List ℕ
  pub reads : symbol pop t (plain (bits_of k w) []) ≡ got (e % 256) (plain rest [])
  pub whole : e / 256 ≡ k - length rest + e % 16
  pub stands : allowed first (e % 256) ≡ true

pub entry_says : (k : ℕ) → k ≤ 64 → (w : ℕ) → w < 2 ^ k → (first : Bool) (t : Table) → (entry_at k first t w ≡ 0 → ⊥) → Entry k first t w (entry_at k first t w)
unfolding entry_at
entry_says k few w below first t n = go (symbol (bit []) t (alone k w)) refl (symbol pop t (plain (bits_of k w) [])) refl (alone_alike k few w below t) n
  where
    go :
        (a : Read Wide ℕ)
        → symbol (bit []) t (alone k w) ≡ a
        → (b : Read Plain ℕ)
        → symbol pop t (plain (bits_of k w) []) ≡ b
        → Alike (Stands []) a b
        → (entry_of k first a ≡ 0 → ⊥)
        → Entry k first t w (entry_of k first a)
    go (fault c) e b f h m = absurd (m refl)
    go (got x q) e (fault d) f h m = absurd h
    go (got x q) e (got y u) f h m = test (ltb x 256) refl (allowed first x) refl m
      where
        front : Front (symbol pop t) (bits_of k w) [] y u
        front = symbol_front t (bits_of k w) [] y u f

        there : got y u ≡ got x (plain u.bits [])
        there = ap₂ (λ i j. got i j) (sym h.0) (ap (λ l. plain u.bits l) front.behind)

        test :
            (i : Bool)
            → ltb x 256 ≡ i
            → (j : Bool)
            → allowed first x ≡ j
            → (cond (i and j) (256 * (k - q.left + x % 16) + x) 0 ≡ 0 → ⊥)
            → Entry k first t w (cond (i and j) (256 * (k - q.left + x % 16) + x) 0)
        test false i j l m = absurd (m refl)
        test true i false l m = absurd (m refl)
        test true i true l m =
            let r = numbers (k - q.left + x % 16) x (ltb-true x 256 i) in
            record {
              rest = u.bits;
              reads = f ∙ there ∙ ap (λ z. got z (plain u.bits [])) (sym r.0);
              whole = r.1 ∙ ap₂ (λ a b. k - a + b) (sym (bits_left q u h.1.0)) (sym r.2);
              stands = ap (allowed first) r.0 ∙ l;
            }

-- ---- a look

module _ (k : ℕ) (few : k ≤ 64) (s : List ℕ) (w : Wide) (p : Proper w) where
  -- the next k bits, those that are not there being 0
  abbrev index : ℕ
  index = w.acc / 2 ^ (64 - k)

  index_below : index < 2 ^ k
  index_below = shr_lt k (64 - k) (subst (λ j. w.acc < 2 ^ j) whole (acc_fits p))
    where
      whole : 64 ≡ k + (64 - k)
      whole = omega arith

  -- n of them, of those that are there
  index_front : (n : ℕ) → n ≤ k → bits_of k index ≡ bits_of n (w.acc / 2 ^ (64 - n)) ++ bits_of (k - n) (index % 2 ^ (k - n))
  index_front n h =
      ap₂ bits_of there (sym (split index (k - n)))
      ∙ bits_behind n (k - n) (index / 2 ^ (k - n)) (index % 2 ^ (k - n)) (mod-lt index (pow_pos (k - n)))
      ∙ ap (λ j. bits_of n j ++ bits_of (k - n) (index % 2 ^ (k - n))) (shr-shr w.acc (64 - k) (k - n) ∙ ap (λ j. w.acc / 2 ^ j) back)
    where
      there : k ≡ n + (k - n)
      there = omega arith

      back : 64 - k + (k - n) ≡ 64 - n
      back = omega arith

  -- a code of n bits that the next k bits begin with, n of which are there
  pub front_read :
      (t : Table) (x : ℕ) (rest : List ℕ)
      → symbol pop t (plain (bits_of k index) []) ≡ got x (plain rest [])
      → (n : ℕ)
      → n + length rest ≡ k
      → n ≤ w.left
      → symbol pop t (to_come s w) ≡ got x (to_come s (taken n w))
  front_read t x rest e n size there =
      ap (symbol pop t) (taken_coming p n there s ∙ ap (λ l. ahead l (to_come s (taken n w))) (sym code_is))
      ∙ front.again (to_come s (taken n w)).bits (to_come s (taken n w)).after
    where
      front : Front (symbol pop t) (bits_of k index) [] x (plain rest [])
      front = symbol_front t (bits_of k index) [] x (plain rest []) e

      lengths : length front.code + length rest ≡ k
      lengths = sym (length-append front.code rest) ∙ ap length (sym front.split) ∙ length_bits_of k index

      same_length : length front.code ≡ length (bits_of n (w.acc / 2 ^ (64 - n)))
      same_length = omega (arith, lengths, size, length_bits_of n (w.acc / 2 ^ (64 - n)))

      code_is : front.code ≡ bits_of n (w.acc / 2 ^ (64 - n))
      code_is = same_front front.code (bits_of n (w.acc / 2 ^ (64 - n))) rest _ same_length (sym front.split ∙ index_front n (omega arith))

  module _ (first : Bool) (t : Table) {e : ℕ} (is : e ≡ entry_at k first t index) (some : e ≡ 0 → ⊥) (there : e / 256 ≤ w.left) where
    said : Entry k first t index e
    said = subst⁻¹ (Entry k first t index) is (entry_says k few index index_below first t (λ z. some (is ∙ z)))

    -- the entry's symbol is that of the rules, and the code is as long as the entry says
    pub look_agrees : symbol pop t (to_come s w) ≡ got (e % 256) (to_come s (taken (e / 256 - e % 16) w))
    look_agrees = front_read t (e % 256) said.rest said.reads (e / 256 - e % 16) lengths (omega (arith, there))
      where
        front : Front (symbol pop t) (bits_of k index) [] (e % 256) (plain said.rest [])
        front = symbol_front t (bits_of k index) [] (e % 256) (plain said.rest []) said.reads

        within : length front.code + length said.rest ≡ k
        within = sym (length-append front.code said.rest) ∙ ap length (sym front.split) ∙ length_bits_of k index

        lengths : e / 256 - e % 16 + length said.rest ≡ k
        lengths = omega (arith, said.whole, within)

    pub look_allowed : allowed first (e % 256) ≡ true
    look_allowed = said.stands

    -- and the value behind it is what the entry's last bits mean
    pub value_agrees :
        bits.amplitude pop (e % 16) (to_come s (taken (e / 256 - e % 16) w))
        ≡ got (bits.meaning (e % 16) (w.acc / 2 ^ (64 - e / 256) % 2 ^ (e % 16))) (to_come s (taken (e / 256) w))
    value_agrees =
        amplitude_taken (taken_proper p (e / 256 - e % 16) (omega (arith, there))) (e % 16) (omega (arith, said.whole, there)) s
        ∙ ap₂ (λ v q. got (bits.meaning (e % 16) v) (to_come s q))
        (top_behind w.acc (e / 256 - e % 16) (e % 16) (omega (arith, said.whole, there, p.few)) ∙ ap (λ j. w.acc / 2 ^ (64 - j) % 2 ^ (e % 16)) joins)
        (taken_twice (e / 256 - e % 16) (e % 16) w ∙ ap (λ j. taken j w) joins)
      where
        joins : e / 256 - e % 16 + e % 16 ≡ e / 256
        joins = omega (arith, said.whole)
