-- The words of a table mean its codes, and a block is written by them as by the table: every symbol that a block asks for is
-- below 256.
use Prim.Native.Nat.{ℕ, zero, suc, ◌+◌, ◌*◌, ◌-◌, ◌/◌, ◌%◌, ◌^◌, ◌<◌, ◌≤◌}
use mathlib.Core.Path.{◌≡◌, refl, sym, ap, ap₂, ◌∙◌, subst}
use mathlib.Core.Bool.{Bool, true, false, cond}
use mathlib.Core.List.{List, [], ◌∷◌}
use mathlib.Core.Option.{Option, none, some}
use native.Mathlib.Omega.{arith}
use native.Mathlib.Nat.{not-suc-le-zero, mod-lt, zero-add}
use lib.Dec.{eqb, ltb}
use lib.IntN.{ℤ, nat_abs, ◌-ℤ◌}
use lib.ListN.{length, take, drop, length-take}
use lib.Pow.{pow_pos, pow_mono}
use borrow.Author.Tests.{le-leb, ltb-false}
use Rattle.whole.specs.Lists.{get_d_from}
use Rattle.reading.specs.Huffman.{bits_of, sum, table_at, code_at, code_at_place, code_of}
use Rattle.reading.specs.Settled.{Written, Coder, ◌then◌, size, value_bits, skips, level_bits, rest_bits, block_by}
use Rattle.reading.specs.Tests.{place_of}
use Rattle.reading.proofs.Written.{found}
use Rattle.jpeg_write_codes.specs.Words.{word_of, code_words, word_bits, coder_of}
use Rattle.jpeg_write_symbols.specs.Turns.{category_of}
use Rattle.reading.proofs.LowBits.{bits_mod}
use Rattle.jpeg_write_codes.proofs.Filled.{code_word, word_bits_lem}
use Rattle.jpeg_write_symbols.proofs.Turning.{category_few}

-- ---- a code of a table in a file has 1 to 16 bits

-- `len` to `most` bits of some number
record Bits (bs : List ℕ) (least most : ℕ) : Type 0 where
  count : ℕ
  number : ℕ
  is : bs ≡ bits_of count number
  above : least ≤ count
  below : count ≤ most

bits_at : (cs : List ℕ) (len f i : ℕ) → i < sum cs → Bits (code_at cs len f i) (suc len) (len + length cs)
bits_at [] len f i h = absurd (not-suc-le-zero h)
bits_at (c ∷ cs) len f i h = go (ltb i c) refl (λ g. bits_at cs (suc len) (2 * f + c) (i - c) g)
  where
    go : (t : Bool) → ltb i c ≡ t → (i - c < sum cs → Bits (code_at cs (suc len) (2 * f + c) (i - c)) (suc (suc len)) (suc len + length cs))
        → Bits (cond t (bits_of (suc len) (2 * f + i)) (code_at cs (suc len) (2 * f + c) (i - c))) (suc len) (len + suc (length cs))
    go true e ih = record { count = suc len; number = 2 * f + i; is = refl; above = omega arith; below = omega arith }
    go false e ih =
        let b = ih (omega (arith, ltb-false i c e, h)) in
        record { count = b.count; number = b.number; is = b.is; above = omega (arith, b.above); below = omega (arith, b.below) }

-- what a coder gives: no code, or 1 to 16 bits
pub data Code : Written → Type 0 where
  lacks : Code none
  is_code : (n v : ℕ) → 0 < n → n ≤ 16 → Code (some (bits_of n v))

pub code_of_table : (s : List ℕ) (base x : ℕ) → Code (code_of (table_at s base) x)
unfolding code_of
code_of_table s base x = go (place_of (table_at s base).symbols x) refl
  where
    few : length (take 16 (drop base s)) ≤ 16
    few = omega (arith, length-take 16 (drop base s))

    go : (o : Option ℕ) → place_of (table_at s base).symbols x ≡ o → Code (code_at_place (table_at s base) o)
    go none e = lacks
    go (some i) e =
        let f = found (table_at s base).symbols x i e in
        let b = bits_at (take 16 (drop base s)) 0 0 i (omega (arith, f.inside, length-take (sum (take 16 (drop base s))) (drop (base + 16) s))) in
        subst (λ (bs : List ℕ). Code (some bs)) (sym b.is) (is_code b.count b.number b.above (omega (arith, b.below, few)))

-- ---- a word means its code

code_means : (n v : ℕ) → 0 < n → n ≤ 16 → word_bits (code_word n v) ≡ some (bits_of n v)
unfolding word_bits code_word
code_means n v a b = rw (top, low, le-leb 1 n a, le-leb n 16 b) (ap some (bits_mod n n v (omega arith)))
  where
    most : 2 ^ n ≤ 2 ^ 16
    most = pow_mono {j = 16} b

    top : (65536 * n + v % 2 ^ n) / 65536 ≡ n
    top = omega (arith, most, mod-lt v (pow_pos n))

    low : (65536 * n + v % 2 ^ n) % 65536 ≡ v % 2 ^ n
    low = omega (arith, most, mod-lt v (pow_pos n))

word_means : (w : Written) → Code w → word_bits (word_of w) ≡ w
unfolding word_bits word_of
word_means none lacks = refl
word_means (some bs) (is_code n v a b) = ap word_bits (word_bits_lem n v) ∙ code_means n v a b

-- the words of the symbols below n mean their codes
pub coder_words : (s : List ℕ) (base n x : ℕ) → x < n → coder_of (code_words (table_at s base) n) x ≡ code_of (table_at s base) x
unfolding coder_of code_words
coder_words s base n x h =
    ap word_bits (get_d_from (λ y. word_of (code_of (table_at s base) y)) 0 n x 0 h ∙ ap (λ y. word_of (code_of (table_at s base) y)) (zero-add x))
    ∙ word_means (code_of (table_at s base) x) (code_of_table s base x)

-- ---- a block by two coders that agree below 256

pub record Alike (c d : Coder) : Type 0 where
  pub each : (x : ℕ) → x < 256 → c x ≡ d x

size_few : (v : ℤ) → size v ≤ 12
unfolding category_of
size_few v = category_few (nat_abs v)

module _ {c d : Coder} (a : Alike c d) where
  skips_alike : (n : ℕ) → skips c n ≡ skips d n
  skips_alike zero = refl
  skips_alike (suc n) = ap₂ (λ (v w : Written). v then w) (a.each 240 (omega arith)) (skips_alike n)

  rest_alike : (l : List ℤ) (run : ℕ) → rest_bits c l run ≡ rest_bits d l run
  rest_alike [] zero = refl
  rest_alike [] (suc run) = a.each 0 (omega arith)
  rest_alike (v ∷ l) run = go (eqb (nat_abs v) 0) (rest_alike l)
    where
      low : 16 * (run % 16) + size v < 256
      low = omega (arith, size_few v)

      go : (t : Bool) → ((run : ℕ) → rest_bits c l run ≡ rest_bits d l run) → level_bits c run v (rest_bits c l) t ≡ level_bits d run v (rest_bits d l) t
      go true ih = ih (suc run)
      go false ih =
          ap₂ (λ (v w : Written). v then w) (skips_alike (run / 16))
          (ap₂ (λ (w r : Written). w then some (value_bits v) then r) (a.each (16 * (run % 16) + size v) low) (ih 0))

pub block_alike : {c d c' d' : Coder} → Alike c d → Alike c' d' → (p : ℤ) (l : List ℤ) → block_by c c' p l ≡ block_by d d' p l
block_alike a b p [] = refl
block_alike a b p (v ∷ l) =
    ap₂ (λ (w r : Written). (w then some (value_bits (v -ℤ p))) then r) (a.each (size (v -ℤ p)) (omega (arith, size_few (v -ℤ p)))) (rest_alike b l 0)

pub words_alike : (s : List ℕ) (base n : ℕ) → 256 ≤ n → Alike (coder_of (code_words (table_at s base) n)) (code_of (table_at s base))
words_alike s base n h = record { each = λ x l. coder_words s base n x (omega arith) }
