-- A sheet: how long it is, where a table has its words in it, and that one table more adds its words behind.
use Prim.Native.Nat.{ℕ, zero, suc, ◌+◌, ◌*◌, ◌<◌}
use mathlib.Core.Path.{◌≡◌, refl, sym, ap, ap₂, ◌∙◌}
use mathlib.Core.List.{List, [], ◌∷◌, ◌++◌, append_assoc, append-nil}
use native.Mathlib.Nat.{not-suc-le-zero, le_of_suc-le-suc}
use native.Mathlib.Omega.{arith}
use lib.ListN.{length, get_or, take, drop, length-append, length-take, length-drop}
use lib.Seq.{length-take-le, take_at, drop-append-add, take-append-add}
use Rattle.whole.specs.Lists.{length_from}
use Rattle.reading.specs.Huffman.{Table, table_at, code_of}
use Rattle.jpeg_write_codes.specs.Words.{word_of, code_words}
use Rattle.jpeg_write_codes.specs.Sheets.{words_in, sheet}

words_length : (t : Table) (n : ℕ) → length (code_words t n) ≡ n
unfolding code_words
words_length t n = length_from (λ x. word_of (code_of t x)) 0 n

module _ (t : List ℕ) where
  pub sheet_length : (bases : List ℕ) → length (sheet t bases) ≡ 256 * length bases
  unfolding sheet
  sheet_length [] = refl
  sheet_length (b ∷ bs) =
      omega (arith, length-append (code_words (table_at t b) 256) (sheet t bs), words_length (table_at t b) 256, sheet_length bs)

  -- the words of the table that stands i-th
  pub sheet_part : (bases : List ℕ) (i : ℕ) → i < length bases → words_in (256 * i) (sheet t bases) ≡ code_words (table_at t (get_or bases i 0)) 256
  unfolding sheet
  sheet_part [] i h = absurd (not-suc-le-zero h)
  sheet_part (b ∷ bs) zero h = take_at (code_words (table_at t b) 256) (sheet t bs) 256 (words_length (table_at t b) 256)
  sheet_part (b ∷ bs) (suc i) h =
      let behind : 256 * suc i ≡ length (code_words (table_at t b) 256) + 256 * i = omega (arith, words_length (table_at t b) 256) in
      ap (λ (a : ℕ). words_in a (code_words (table_at t b) 256 ++ sheet t bs)) behind
      ∙ ap (take 256) (drop-append-add (code_words (table_at t b) 256) (sheet t bs) (256 * i))
      ∙ sheet_part bs i (le_of_suc-le-suc h)

  sheet_more : (bases : List ℕ) (i : ℕ) → i < length bases → sheet t (take (suc i) bases) ≡ sheet t (take i bases) ++ code_words (table_at t (get_or bases i 0)) 256
  unfolding sheet
  sheet_more [] i h = absurd (not-suc-le-zero h)
  sheet_more (b ∷ bs) zero h = append-nil (code_words (table_at t b) 256)
  sheet_more (b ∷ bs) (suc i) h =
      ap (λ (rest : List ℕ). code_words (table_at t b) 256 ++ rest) (sheet_more bs i (le_of_suc-le-suc h))
      ∙ sym (append_assoc (code_words (table_at t b) 256) (sheet t (take i bs)) (code_words (table_at t (get_or bs i 0)) 256))

-- a list as long as the sheet of all tables, in which the first i have their words
pub record FilledTo (t bases : List ℕ) (i : ℕ) (ws : List ℕ) : Type 0 where
  pub size : length ws ≡ 256 * length bases
  pub first : take (256 * i) ws ≡ sheet t (take i bases)

pub filled_none : (t bases ws : List ℕ) → length ws ≡ 256 * length bases → FilledTo t bases 0 ws
unfolding sheet
filled_none t bases ws h = record { size = h; first = refl }

module _ {t bases ws : List ℕ} {i : ℕ} (w : FilledTo t bases i ws) (l : i < length bases) {n : ℕ} (k : n ≡ 256) {y : List ℕ}
    (f : y ≡ code_words (table_at t (get_or bases i 0)) (length (take n (drop (256 * i) ws)))) where
  there : y ≡ code_words (table_at t (get_or bases i 0)) 256
  there =
      let size : length (take n (drop (256 * i) ws)) ≡ 256 = length-take n (drop (256 * i) ws) ∙ omega (arith, length-drop (256 * i) ws, w.size, l, k) in
      f ∙ ap (code_words (table_at t (get_or bases i 0))) size

  long : length y ≡ 256
  long = ap length there ∙ words_length (table_at t (get_or bases i 0)) 256

  before : length (take (256 * i) ws) ≡ 256 * i
  before = length-take-le (256 * i) ws (omega (arith, w.size, l))

  whole : length (take (256 * i) ws ++ (y ++ drop n (drop (256 * i) ws))) ≡ length ws
  whole =
      omega (
        arith,
        length-append (take (256 * i) ws) (y ++ drop n (drop (256 * i) ws)),
        length-append y (drop n (drop (256 * i) ws)),
        before,
        length-drop n (drop (256 * i) ws),
        length-drop (256 * i) ws,
        w.size,
        l,
        long,
        k,
      )

  -- the next table's words are put behind them
  pub filled_next : FilledTo t bases (i + 1) (take (256 * i) ws ++ (y ++ drop n (drop (256 * i) ws)))
  filled_next = record { size = whole ∙ w.size; first = behind }
    where
      rest : List ℕ
      rest = drop n (drop (256 * i) ws)

      place : 256 * (i + 1) ≡ length (take (256 * i) ws) + 256
      place = omega (arith, before)

      next : suc i ≡ i + 1
      next = omega arith

      behind : take (256 * (i + 1)) (take (256 * i) ws ++ (y ++ rest)) ≡ sheet t (take (i + 1) bases)
      behind =
          ap (λ (a : ℕ). take a (take (256 * i) ws ++ (y ++ rest))) place
          ∙ take-append-add (take (256 * i) ws) (y ++ rest) 256
          ∙ ap₂ (λ (a b : List ℕ). a ++ b) w.first (take_at y rest 256 long ∙ there)
          ∙ sym (sheet_more t bases i l)
          ∙ ap (λ (j : ℕ). sheet t (take j bases)) next
