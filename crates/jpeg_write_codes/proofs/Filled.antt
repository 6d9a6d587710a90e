-- One pass over a table's symbols gives each its code: what a symbol's word is, by the word it has so far and by the part of
-- the table that is to come.
use Prim.Native.Nat.{ℕ, zero, suc, ◌+◌, ◌*◌, ◌-◌, ◌%◌, ◌^◌, ◌<◌, ◌≤◌}
use mathlib.Core.Path.{◌≡◌, refl, sym, ap, ap₂, ◌∙◌, subst}
use mathlib.Core.Bool.{Bool, true, false, cond}
use mathlib.Core.List.{List, [], ◌∷◌}
use mathlib.Core.Option.{Option, none, some}
use native.Mathlib.Omega.{arith}
use native.Mathlib.Numerals.{add-one}
use native.Mathlib.Nat.{not-suc-le-zero, pow-suc, zero-add, add-zero, sub-zero}
use lib.Dec.{eqb, ltb}
use lib.ListN.{length, get_or, take, drop, set, replicate, length-set, length-replicate, get_or-replicate, drop_of_length-le, get_or-eq_default}
use lib.Seq.{drop-cons, take-nil, set_out, get_or-set_same, get_or-set_other}
use borrow.Author.Tests.{eq-eqb, ne_eqb, lt-ltb, le-ltb, ltb-true, ltb-false, eqb-true, eqb-false}
use Rattle.std.proofs.lemmas.List.{nil_from_length}
use Rattle.whole.specs.Lists.{is_list_of}
use Rattle.reading.specs.Huffman.{Table, bits_of, sum, table_at, code_at, code_at_place, code_of}
use Rattle.reading.specs.Settled.{Written}
use Rattle.reading.specs.Tests.{place_of, place_from}
use Rattle.reading.proofs.Unstuffed.{length_bits_of}
use Rattle.jpeg_write_codes.specs.Words.{word_of, code_words, kept}
use Rattle.jpeg_write_codes.proofs.Digits.{number_bits}

-- ---- a word is kept

module _ (ws : List ℕ) (x w : ℕ) where
  pub kept_new : get_or ws x 0 ≡ 0 → set ws x w ≡ kept ws x w
  unfolding kept
  kept_new e = rw (eq-eqb (get_or ws x 0) 0 e)

  pub kept_old : (get_or ws x 0 ≡ 0 → ⊥) → ws ≡ kept ws x w
  unfolding kept
  kept_old e = rw (ne_eqb (get_or ws x 0) 0 e)

  pub kept_past : length ws ≤ x → ws ≡ kept ws x w
  kept_past h = sym (set_out ws x w h) ∙ kept_new (get_or-eq_default ws 0 h)

  pub kept_length : length (kept ws x w) ≡ length ws
  unfolding kept
  kept_length = go (eqb (get_or ws x 0) 0)
    where
      go : (t : Bool) → length (cond t (set ws x w) ws) ≡ length ws
      go true = length-set ws x w
      go false = refl

-- ---- a table that is read in part

-- the code at place i, where c codes of `len` bits are to come, the next of them g, and then those of the counts `cs`
abbrev behind : ℕ → List ℕ → ℕ → ℕ → ℕ → List ℕ
behind c cs len g i = cond (ltb i c) (bits_of len (g + i)) (code_at cs len (g + c) (i - c))

abbrev behind_place : ℕ → List ℕ → ℕ → ℕ → Option ℕ → Written
behind_place c cs len g none = none
behind_place c cs len g (some i) = some (behind c cs len g i)

-- a symbol's word by what is to come: the symbols ys
unfoldable pub later : ℕ → List ℕ → ℕ → ℕ → List ℕ → ℕ → ℕ
later c cs len g ys x = word_of (behind_place c cs len g (place_of ys x))

-- the word that it has, or else one that is to come
unfoldable pub either : ℕ → ℕ → ℕ
either zero r = r
either (suc w) r = suc w

either_same : (w r s : ℕ) → (w ≡ 0 → ⊥) → either w r ≡ either w s
unfolding either
either_same zero r s e = absurd (e refl)
either_same (suc w) r s e = refl

either_is : (w r : ℕ) → (w ≡ 0 → ⊥) → either w r ≡ w
unfolding either
either_is zero r e = absurd (e refl)
either_is (suc w) r e = refl

either_none : (w : ℕ) → either w 0 ≡ w
unfolding either
either_none zero = refl
either_none (suc w) = refl

-- nothing is to come
later_none : (c : ℕ) (cs : List ℕ) (len g x : ℕ) → later c cs len g [] x ≡ 0
unfolding later word_of
later_none c cs len g x = refl

-- at the start all is to come
later_all : (t : Table) (x : ℕ) → word_of (code_of t x) ≡ later 0 t.counts 0 0 t.symbols x
unfolding code_of later
later_all t x = ap word_of (go (place_of t.symbols x))
  where
    go : (o : Option ℕ) → code_at_place t o ≡ behind_place 0 t.counts 0 0 o
    go none = refl
    go (some i) =
        ap some
        (ap (code_at t.counts 0 0) (sym (sub-zero i))
        ∙ sym (ap (λ b. cond b (bits_of 0 (0 + i)) (code_at t.counts 0 (0 + 0) (i - 0))) (le-ltb i 0 (omega arith))))

-- the next length
later_length : (c : ℕ) (cs : List ℕ) (len g : ℕ) (ys : List ℕ) (x : ℕ) → later 0 (c ∷ cs) len g ys x ≡ later c cs (suc len) (2 * g) ys x
unfolding later
later_length c cs len g ys x = ap word_of (go (place_of ys x))
  where
    go : (o : Option ℕ) → behind_place 0 (c ∷ cs) len g o ≡ behind_place c cs (suc len) (2 * g) o
    go none = refl
    go (some i) = ap some (ap (λ b. cond b (bits_of len (g + i)) (code_at (c ∷ cs) len (g + 0) (i - 0))) (le-ltb i 0 (omega arith)) ∙ ap₂ (code_at (c ∷ cs) len) (add-zero g) (sub-zero i))

-- a place more before the others
map_suc : Option ℕ → Option ℕ
map_suc none = none
map_suc (some i) = some (suc i)

place_next : (ys : List ℕ) (x i : ℕ) → place_from ys x (suc i) ≡ map_suc (place_from ys x i)
unfolding map_suc
place_next [] x i = refl
place_next (y ∷ ys) x i = go (eqb x y) (place_next ys x (suc i))
  where
    go : (b : Bool) → place_from ys x (suc (suc i)) ≡ map_suc (place_from ys x (suc i))
        → cond b (some (suc i)) (place_from ys x (suc (suc i))) ≡ map_suc (cond b (some i) (place_from ys x (suc i)))
    go true e = refl
    go false e = e

-- the word of a code of `len` bits
unfoldable pub code_word : ℕ → ℕ → ℕ
code_word len g = 65536 * len + g % 2 ^ len

pub word_bits_lem : (len g : ℕ) → word_of (some (bits_of len g)) ≡ code_word len g
unfolding word_of code_word
word_bits_lem len g = ap₂ (λ n v. 65536 * n + v) (length_bits_of len g) (number_bits len g 0 ∙ none)
  where
    none : 0 * 2 ^ len + g % 2 ^ len ≡ g % 2 ^ len
    none = omega arith

module _ (c : ℕ) (cs : List ℕ) (len g y : ℕ) (ys : List ℕ) where
  -- the symbol that stands here
  later_here : (x : ℕ) → x ≡ y → later (suc c) cs len g (y ∷ ys) x ≡ code_word len g
  unfolding later
  later_here x e =
      rw (eq-eqb x y e, lt-ltb 0 (suc c) (omega arith)) (ap (λ n. word_of (some (bits_of len n))) (add-zero g) ∙ word_bits_lem len g)

  -- another
  later_other : (x : ℕ) → (x ≡ y → ⊥) → later (suc c) cs len g (y ∷ ys) x ≡ later c cs len (g + 1) ys x
  unfolding later map_suc
  later_other x e = rw (ne_eqb x y e, place_next ys x 0) (ap word_of (go (place_from ys x 0)))
    where
      go : (o : Option ℕ) → behind_place (suc c) cs len g (map_suc o) ≡ behind_place c cs len (g + 1) o
      go none = refl
      go (some i) = ap some (at (ltb i c) refl)
        where
          up : g + suc i ≡ g + 1 + i
          up = omega arith

          past : g + suc c ≡ g + 1 + c
          past = omega arith

          at : (b : Bool) → ltb i c ≡ b
              → cond (ltb (suc i) (suc c)) (bits_of len (g + suc i)) (code_at cs len (g + suc c) (suc i - suc c))
              ≡ cond b (bits_of len (g + 1 + i)) (code_at cs len (g + 1 + c) (i - c))
          at true e = rw (lt-ltb (suc i) (suc c) (omega (arith, ltb-true i c e))) (ap (bits_of len) up)
          at false e = rw (le-ltb (suc i) (suc c) (omega (arith, ltb-false i c e))) (ap₂ (code_at cs len) past (omega arith))

-- a word is kept: what a symbol has, or is to get, stays
kept_step : (ws : List ℕ) (y w x r r' : ℕ) → x < length ws → (w ≡ 0 → ⊥) → (x ≡ y → r ≡ w) → ((x ≡ y → ⊥) → r ≡ r')
    → either (get_or ws x 0) r ≡ either (get_or (kept ws y w) x 0) r'
unfolding either
kept_step ws y w x r r' h full here other = go (eqb x y) refl (eqb (get_or ws y 0) 0) refl
  where
    go : (a : Bool) → eqb x y ≡ a → (b : Bool) → eqb (get_or ws y 0) 0 ≡ b → either (get_or ws x 0) r ≡ either (get_or (kept ws y w) x 0) r'
    go true p true q =
        let xy : x ≡ y = eqb-true x y p in
        let none : get_or ws y 0 ≡ 0 = eqb-true (get_or ws y 0) 0 q in
        ap (λ (v : ℕ). either v r) (ap (λ (k : ℕ). get_or ws k 0) xy ∙ none) ∙ here xy
        ∙ sym (ap (λ (v : ℕ). either v r')
        (ap (λ (l : List ℕ). get_or l x 0) (sym (kept_new ws y w none))
        ∙ ap (λ (k : ℕ). get_or (set ws y w) k 0) xy
        ∙ get_or-set_same ws y w 0 (subst (λ k. k < length ws) xy h))
        ∙ either_is w r' full)
    go true p false q =
        let xy : x ≡ y = eqb-true x y p in
        let old : get_or ws y 0 ≡ 0 → ⊥ = eqb-false (get_or ws y 0) 0 q in
        either_same (get_or ws x 0) r r' (λ e. old (ap (λ (k : ℕ). get_or ws k 0) (sym xy) ∙ e))
        ∙ ap (λ (l : List ℕ). either (get_or l x 0) r') (kept_old ws y w old)
    go false p true q =
        ap (either (get_or ws x 0)) (other (eqb-false x y p))
        ∙ ap (λ (v : ℕ). either v r')
        (sym (ap (λ (l : List ℕ). get_or l x 0) (sym (kept_new ws y w (eqb-true (get_or ws y 0) 0 q)))
        ∙ get_or-set_other ws y x w 0 (eqb-false x y p)))
    go false p false q =
        ap (either (get_or ws x 0)) (other (eqb-false x y p))
        ∙ ap (λ (l : List ℕ). either (get_or l x 0) r') (kept_old ws y w (eqb-false (get_or ws y 0) 0 q))

word_full : (len g : ℕ) {w : ℕ} → 0 < len → w ≡ code_word len g → w ≡ 0 → ⊥
unfolding code_word
word_full len g h e z = omega arith

-- ---- the same of a table in a file

part_cons : (k at : ℕ) (s : List ℕ) → 0 < k → at < length s → take k (drop at s) ≡ get_or s at 0 ∷ take (k - 1) (drop (at + 1) s)
part_cons zero at s h l = absurd (not-suc-le-zero h)
part_cons (suc k) at s h l = rw (add-one, drop-cons s at 0 l) (ap (λ n. get_or s at 0 ∷ take n (drop (suc at) s)) less)
  where
    less : k ≡ suc k - 1
    less = omega arith

part_past : (k at : ℕ) (s : List ℕ) → length s ≤ at → take k (drop at s) ≡ []
part_past k at s l = rw (drop_of_length-le s l) (take-nil k)

-- the counts behind the first `len`
unfoldable pub counts_from : List ℕ → ℕ → ℕ → List ℕ
counts_from t base len = take (16 - len) (drop (base + len) t)

-- a symbol's word by what is to come: `left` more codes of `len` bits, the next of them `code`, for the symbols ys in turn
unfoldable pub rest : List ℕ → ℕ → List ℕ → ℕ → ℕ → ℕ → ℕ → ℕ
rest t base ys len left code x =
    later left (counts_from t base len) len code (take (left + sum (counts_from t base len)) ys) x

-- the words so far, and what is to come, give each symbol below n its word
pub record Filling (t : List ℕ) (base n : ℕ) (words ys : List ℕ) (len left code : ℕ) : Type 0 where
  pub few : len ≤ 16
  pub some_bits : 0 < left → 0 < len
  pub low : code + left + 256 ≤ 256 * 2 ^ len
  pub long : length words ≡ n
  pub each : (x : ℕ) → x < n → word_of (code_of (table_at t base) x) ≡ either (get_or words x 0) (rest t base ys len left code x)

module _ (t : List ℕ) (base n : ℕ) (words : List ℕ) where
  pub filling_start : length words ≡ n → words ≡ replicate n 0 → Filling t base n words (drop (base + 16) t) 0 0 0
  unfolding either rest counts_from
  filling_start l e = record { few = omega arith; some_bits = λ h. absurd (not-suc-le-zero h); low = omega arith; long = l; each = each }
    where
      each : (x : ℕ) → x < n → word_of (code_of (table_at t base) x) ≡ either (get_or words x 0) (rest t base (drop (base + 16) t) 0 0 0 x)
      each x h =
          later_all (table_at t base) x
          ∙ ap (λ (k : ℕ). later 0 (take 16 (drop base t)) 0 0 (take k (drop (base + 16) t)) x) (sym (zero-add (sum (take 16 (drop base t)))))
          ∙ ap (λ (b : ℕ). later 0 (take 16 (drop b t)) 0 0 (take (0 + sum (take 16 (drop b t))) (drop (base + 16) t)) x) (sym (add-zero base))
          ∙ ap (λ (w : ℕ). either w (rest t base (drop (base + 16) t) 0 0 0 x)) (sym (ap (λ (l : List ℕ). get_or l x 0) e ∙ get_or-replicate n x 0 0 h))

  pub filling_same : (ys : List ℕ) (len left code len' left' : ℕ) → Filling t base n words ys len left code → len ≡ len' → left ≡ left' → Filling t base n words ys len' left' code
  filling_same ys len left code len' left' f e g =
      subst (λ (j : ℕ). Filling t base n words ys len' j code) g (subst (λ (i : ℕ). Filling t base n words ys i left code) e f)

  -- with nothing to come the words are those of the table
  filling_done : (ys : List ℕ) (len left code : ℕ) → Filling t base n words ys len left code → ((x : ℕ) → rest t base ys len left code x ≡ 0) → words ≡ code_words (table_at t base) n
  unfolding code_words
  filling_done ys len left code f e =
      is_list_of 0 words n (λ x. word_of (code_of (table_at t base) x)) f.long
      (λ x h. sym (f.each x h ∙ ap (either (get_or words x 0)) (e x) ∙ either_none (get_or words x 0)))

  pub filling_end : (ys : List ℕ) (len code : ℕ) → Filling t base n words ys len 0 code → len ≡ 16 → words ≡ code_words (table_at t base) n
  unfolding rest counts_from
  filling_end ys len code f e =
      filling_done ys len 0 code f
      (λ x. ap (λ (j : ℕ). later 0 (take (16 - j) (drop (base + j) t)) j code (take (0 + sum (take (16 - j) (drop (base + j) t))) ys) x) e ∙ later_none 0 [] 16 code x)

  -- no symbol is left
  pub filling_past : (ys : List ℕ) (len left code : ℕ) → Filling t base n words ys len left code → length ys ≡ 0 → words ≡ code_words (table_at t base) n
  unfolding rest
  filling_past ys len left code f e =
      filling_done ys len left code f
      (λ x. ap (λ (zs : List ℕ). later left (counts_from t base len) len code zs x)
      (ap (take (left + sum (counts_from t base len))) (nil_from_length ys e) ∙ take-nil (left + sum (counts_from t base len)))
      ∙ later_none left (counts_from t base len) len code x)

  -- the next length
  pub filling_length : (ys : List ℕ) (len code len' count : ℕ) → Filling t base n words ys len 0 code
      → len' ≡ len + 1 → len' ≤ 16 → base + 16 ≤ length t → count ≡ get_or t (base + len) 0 → count < 256
      → Filling t base n words ys len' count (2 * code)
  unfolding rest counts_from
  filling_length ys len code len' count f e l h g b =
      record {
        few = l;
        some_bits = λ k. omega arith;
        low = rw (e ∙ add-one len) (omega (arith, f.low, pow-suc 2 len));
        long = f.long;
        each = λ x k. f.each x k ∙ ap (either (get_or words x 0)) (step x ∙ sym (ap₂ (λ (i j : ℕ). rest t base ys i j (2 * code) x) e g));
      }
    where
      cut : take (16 - len) (drop (base + len) t) ≡ get_or t (base + len) 0 ∷ take (16 - (len + 1)) (drop (base + (len + 1)) t)
      cut =
          part_cons (16 - len) (base + len) t (omega arith) (omega arith)
          ∙ ap₂ (λ (i j : ℕ). get_or t (base + len) 0 ∷ take i (drop j t)) less more
        where
          less : 16 - len - 1 ≡ 16 - (len + 1)
          less = omega arith

          more : base + len + 1 ≡ base + (len + 1)
          more = omega arith

      step : (x : ℕ) → rest t base ys len 0 code x ≡ rest t base ys (len + 1) (get_or t (base + len) 0) (2 * code) x
      step x =
          ap (λ (cs : List ℕ). later 0 cs len code (take (0 + sum cs) ys) x) cut
          ∙ ap (λ (k : ℕ). later 0 (get_or t (base + len) 0 ∷ counts_from t base (len + 1)) len code (take k ys) x)
          (zero-add (get_or t (base + len) 0 + sum (counts_from t base (len + 1))))
          ∙ later_length (get_or t (base + len) 0) (counts_from t base (len + 1)) len code
          (take (get_or t (base + len) 0 + sum (counts_from t base (len + 1))) ys) x
          ∙ ap (λ (k : ℕ).
          later (get_or t (base + len) 0) (counts_from t base (len + 1)) k (2 * code)
          (take (get_or t (base + len) 0 + sum (counts_from t base (len + 1))) ys) x)
          (sym (add-one len))

  -- one symbol more
  pub filling_symbol : (y : ℕ) (ys zs ws : List ℕ) (len left left' code w : ℕ) → Filling t base n words ys len left code
      → ys ≡ y ∷ zs → left ≡ suc left' → w ≡ code_word len code → ws ≡ kept words y w
      → Filling t base n ws zs len left' (code + 1)
  unfolding rest
  filling_symbol y ys zs ws len left left' code w f e h g k =
      record {
        few = f.few;
        some_bits = λ _. f.some_bits (omega arith);
        low = omega (arith, f.low);
        long = ap length k ∙ kept_length words y w ∙ f.long;
        each = λ x l. f.each x l ∙ step x l ∙ sym (ap (λ (l : List ℕ). either (get_or l x 0) (rest t base zs len left' (code + 1) x)) k);
      }
    where
      cut : take (left + sum (counts_from t base len)) ys ≡ y ∷ take (left' + sum (counts_from t base len)) zs
      cut = ap₂ (λ (i : ℕ) (l : List ℕ). take i l) up e
        where
          up : left + sum (counts_from t base len) ≡ suc (left' + sum (counts_from t base len))
          up = omega arith

      now : (x : ℕ) → rest t base ys len left code x ≡ later (suc left') (counts_from t base len) len code (y ∷ take (left' + sum (counts_from t base len)) zs) x
      now x = ap₂ (λ (i : ℕ) (l : List ℕ). later i (counts_from t base len) len code l x) h cut

      step : (x : ℕ) → x < n → either (get_or words x 0) (rest t base ys len left code x) ≡ either (get_or (kept words y w) x 0) (rest t base zs len left' (code + 1) x)
      step x l =
          kept_step words y w x (rest t base ys len left code x) (rest t base zs len left' (code + 1) x)
          (subst (λ k. x < k) (sym f.long) l)
          (word_full len code (f.some_bits (omega arith)) g)
          (λ q. now x ∙ later_here left' (counts_from t base len) len code y (take (left' + sum (counts_from t base len)) zs) x q ∙ sym g)
          (λ q. now x ∙ later_other left' (counts_from t base len) len code y (take (left' + sum (counts_from t base len)) zs) x q)

-- a table that the end of the file cuts has no symbols
pub codes_cut : (t : List ℕ) (base n : ℕ) (words : List ℕ) → words ≡ replicate n 0 → length t < base + 16 → words ≡ code_words (table_at t base) n
unfolding code_words code_of word_of
codes_cut t base n words e h =
    is_list_of 0 words n (λ x. word_of (code_of (table_at t base) x)) (ap length e ∙ length-replicate n 0)
    (λ x l. ap (λ (ws : List ℕ). get_or ws x 0) e ∙ get_or-replicate n x 0 0 l
    ∙ sym (ap (λ (ys : List ℕ). word_of (code_at_place (table_at t base) (place_of ys x))) (part_past (sum (take 16 (drop base t))) (base + 16) t (omega arith))))

pub word_is : (len code : ℕ) {q : ℕ} → q ≡ 2 ^ len → 65536 * len + code % q ≡ code_word len code
unfolding code_word
word_is len code e = rw e
