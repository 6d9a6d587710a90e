-- Filling a table by the plain walk: an entry is what it finds in the k bits alone, and all numbers of k bits that begin with the code have it.
use Prim.Native.Nat.{ℕ, ◌+◌, ◌*◌, ◌-◌, ◌/◌, ◌%◌, ◌^◌, ◌<◌, ◌≤◌}
use mathlib.Core.Path.{◌≡◌, refl, sym, ap, ap₂, ◌∙◌, subst, subst⁻¹}
use mathlib.Core.Bool.{Bool, true, false, cond}
use mathlib.Core.List.{List, [], ◌++◌}
use native.Mathlib.Omega.{arith}
use native.Mathlib.Nat.{mod-lt, div-eq_of_lt-le, mul-le-mul_right, add-mul}
use lib.Dec.{leb, ltb, lit≤}
use Rattle.whole.specs.Powers.{power_is}
use lib.Pow.{shl_exact, pow_pos, pow-add, shr_lt, split}
use lib.ListN.{length, get_or, set, take, drop, replicate, length-set, length-append, length-replicate, length-take, length-drop, get_or-replicate, get_or-append}
use Rattle.std.proofs.lemmas.Slice.{put_mid-paste}
use borrow.Rule.Slice.PartMut.{put_mid}
use lib.Seq.{take_all, length-take-le, get_or-take, get_or-append-add, paste, length-paste}
use borrow.Author.Tests.{lt-ltb, leb-true, leb-false, ltb-true, ltb-false}
use Rattle.whole.specs.Lists.{stored, is_list_of}
use Rattle.std.proofs.Common.{Ok, Err, Fits, w8}
use Rattle.reading.specs.declared.Fault.{Fault}
use Rattle.reading.specs.Reader.{Read, got, fault}
use Rattle.reading.proofs.FileBytes.{AllBytes}
use Rattle.reading.specs.Block.{dc_taken, ac_taken}
use Rattle.reading.specs.Huffman.{table_at, Table, bits_of, symbol}
use Rattle.reading.specs.Code.Coming.{Plain, plain, pop}
use Rattle.reading.proofs.Unstuffed.{length_bits_of}
use Rattle.reading.proofs.Same.{Alike}
use Rattle.jpeg_bits_wide.specs.declared.Wide.{Wide}
use Rattle.jpeg_bits_wide.specs.Cursor.{bit, filled, byte_more}
use Rattle.jpeg_bits_wide.proofs.Coming.{bits_behind}
use Rattle.jpeg_bits_wide.proofs.Filling.{more_full, more_out, filling_begun, filling_over}
use Rattle.jpeg_huffman_table.specs.Symbols.{told, plainly}
use Rattle.jpeg_huffman_table.specs.Looks.{allowed, alone, entry_of, entry_at, entries}
use Rattle.jpeg_huffman_table.proofs.Agreeing.{symbol_byte, table_bytes}
use Rattle.jpeg_huffman_table.proofs.Prefix.{Front, symbol_front}
use Rattle.jpeg_bits_wide.proofs.Meeting.{Stands}
use Rattle.jpeg_huffman_table.proofs.Looking.{alone_alike, bits_left, same_front}

-- ---- a code shared

bits_split : (k r w : ℕ) → r ≤ k → bits_of k w ≡ bits_of (k - r) (w / 2 ^ r) ++ bits_of r (w % 2 ^ r)
bits_split k r w h = ap₂ bits_of there (sym (split w r)) ∙ bits_behind (k - r) r (w / 2 ^ r) (w % 2 ^ r) (mod-lt w (pow_pos r))
  where
    there : k ≡ k - r + r
    there = omega arith

module _ (k : ℕ) (t : Table) (x w : ℕ) (rest : List ℕ) (e : symbol pop t (plain (bits_of k w) []) ≡ got x (plain rest [])) where
  front : Front (symbol pop t) (bits_of k w) [] x (plain rest [])
  front = symbol_front t (bits_of k w) [] x (plain rest []) e

  lengths : length front.code + length rest ≡ k
  lengths = sym (length-append front.code rest) ∙ ap length (sym front.split) ∙ length_bits_of k w

  pub rest_few : length rest ≤ k
  rest_few = omega (arith, lengths)

  code_is : front.code ≡ bits_of (k - length rest) (w / 2 ^ length rest)
  code_is =
      same_front front.code (bits_of (k - length rest) (w / 2 ^ length rest)) rest _ (omega (arith, lengths, length_bits_of (k - length rest) (w / 2 ^ length rest)))
      (sym front.split ∙ bits_split k (length rest) w rest_few)

  -- another number that begins with the code
  pub code_shared :
      (j : ℕ)
      → j / 2 ^ length rest ≡ w / 2 ^ length rest
      → symbol pop t (plain (bits_of k j) []) ≡ got x (plain (bits_of (length rest) (j % 2 ^ length rest)) [])
  code_shared j g =
      ap (λ l. symbol pop t (plain l [])) (bits_split k (length rest) j rest_few ∙ ap (λ l. l ++ bits_of (length rest) (j % 2 ^ length rest)) (ap (bits_of (k - length rest)) g ∙ sym code_is))
      ∙ front.again (bits_of (length rest) (j % 2 ^ length rest)) []

-- the entry of a number in which a symbol that may stand is read
pub entry_of_lem :
    (k : ℕ)
    → k ≤ 64
    → (first : Bool) (t : Table) (j : ℕ)
    → j < 2 ^ k
    → (x : ℕ) (l : List ℕ)
    → symbol pop t (plain (bits_of k j) []) ≡ got x (plain l [])
    → x < 256
    → allowed first x ≡ true
    → entry_at k first t j ≡ 256 * (k - length l + x % 16) + x
unfolding entry_at
entry_of_lem k few first t j below x l e small ok =
    go (symbol (bit []) t (alone k j)) (subst (λ b. Alike (Stands []) (symbol (bit []) t (alone k j)) b) e (alone_alike k few j below t))
  where
    go : (a : Read Wide ℕ) → Alike (Stands []) a (got x (plain l [])) → entry_of k first a ≡ 256 * (k - length l + x % 16) + x
    go (fault c) h = absurd h
    go (got y q) h = rw (h.0, lt-ltb x 256 small, ok) (ap (λ n. 256 * (k - n + x % 16) + x) (sym (bits_left q (plain l []) h.1.0)))

-- ---- by the plain walk

pub filled_none : (w : Wide) → filled [] w ≡ w
filled_none w = sym (filling_over (filling_begun [] w) (go (leb w.left 56) refl))
  where
    go : (b : Bool) → leb w.left 56 ≡ b → byte_more [] w ≡ w
    go true e = more_out [] w (leb-true w.left 56 e) (omega arith)
    go false e = more_full [] w (leb-false w.left 56 e)

-- what the walk says of the k bits of w
module _ (k : ℕ) (few : k ≤ 64) (t : Table) (w : ℕ) (below : w < 2 ^ k) where
  answered : plainly t [] (alone k w) ≡ told (symbol (bit []) t (alone k w))
  unfolding plainly
  answered = ap (λ q. told (symbol (bit []) t q)) (filled_none (alone k w))

  -- no symbol
  pub none_there : {f : Fault} → Err f ≡ plainly t [] (alone k w) → (first : Bool) → 0 ≡ entry_at k first t w
  unfolding entry_at
  none_there {f} e first = go (symbol (bit []) t (alone k w)) (e ∙ answered)
    where
      go : (a : Read Wide ℕ) → Err f ≡ told a → 0 ≡ entry_of k first a
      go (fault c) g = refl
      go (got x q) g = cc

  module _ {x : ℕ} {q : Wide} (e : Ok (x, q) ≡ plainly t [] (alone k w)) where
    found : symbol (bit []) t (alone k w) ≡ got x q
    found = go (symbol (bit []) t (alone k w)) (e ∙ answered)
      where
        go : (a : Read Wide ℕ) → Ok (x, q) ≡ told a → a ≡ got x q
        go (fault c) g = cc
        go (got y r) g =
            let same : (y, r) ≡ (x, q) = cc in
            ap (λ (p : ℕ × Wide). got p.0 p.1) same

    pub found_byte : AllBytes t.symbols → x < 256
    found_byte bytes = symbol_byte (bit []) t bytes (alone k w) q x found

    -- a symbol that may stand: so much of the bits is left, and the numbers that begin with its code have the entry
    pub record Fills (first : Bool) : Type 0 where
      pub left_few : q.left ≤ k
      pub same_entry : (j : ℕ) → j < 2 ^ k → j / 2 ^ q.left ≡ w / 2 ^ q.left → entry_at k first t j ≡ 256 * (k - q.left + x % 16) + x

    pub fills : AllBytes t.symbols → (first : Bool) → allowed first x ≡ true → Fills first
    fills bytes first ok = go (symbol pop t (plain (bits_of k w) [])) refl (subst (λ a. Alike (Stands []) a (symbol pop t (plain (bits_of k w) []))) found (alone_alike k few w below t))
      where
        go : (b : Read Plain ℕ) → symbol pop t (plain (bits_of k w) []) ≡ b → Alike (Stands []) (got x q) b → Fills first
        go (fault d) f h = absurd h
        go (got z u) f h =
            record {
              left_few = subst (λ n. n ≤ k) lefts (rest_few k t x w u.bits reads);
              same_entry = λ j i p.
                  entry_of_lem k few first t j i x _ (code_shared k t x w u.bits reads j (subst⁻¹ (λ n. j / 2 ^ n ≡ w / 2 ^ n) lefts p)) (found_byte bytes) ok
                  ∙ ap (λ n. 256 * (k - n + x % 16) + x) (length_bits_of (length u.bits) (j % 2 ^ length u.bits) ∙ lefts);
            }
          where
            lefts : length u.bits ≡ q.left
            lefts = bits_left q u h.1.0

            reads : symbol pop t (plain (bits_of k w) []) ≡ got x (plain u.bits [])
            reads = f ∙ ap₂ (λ i p. got i p) (sym h.0) (ap (λ l. plain u.bits l) (symbol_front t (bits_of k w) [] z u f).behind)

    -- one that may not
    pub not_allowed : AllBytes t.symbols → (first : Bool) → allowed first x ≡ false → 0 ≡ entry_at k first t w
    unfolding entry_at
    not_allowed bytes first bad = rw (found, lt-ltb x 256 (found_byte bytes), bad) refl

-- ---- numbers that begin alike

-- the numbers from w on that have the same bits above the low r, n of them
module _ (w r n : ℕ) (e : n ≡ 2 ^ r - w % 2 ^ r) where
  base_is : w + n ≡ w / 2 ^ r * 2 ^ r + 2 ^ r
  base_is = omega (arith, split w r, mod-lt w (pow_pos r), e)

  pub part_same : (j : ℕ) → w ≤ j → j < w + n → j / 2 ^ r ≡ w / 2 ^ r
  part_same j h i = div-eq_of_lt-le (2 ^ r) (omega (arith, split w r, h)) high
    where
      high : j < (w / 2 ^ r + 1) * 2 ^ r
      high = rw (add-mul (w / 2 ^ r) 1 (2 ^ r)) (omega (arith, base_is, i))

  pub part_within : (k : ℕ) → r ≤ k → w < 2 ^ k → w + n ≤ 2 ^ k
  part_within k h i = rw base_is (subst (λ m. w / 2 ^ r * 2 ^ r + 2 ^ r ≤ m) whole (rise (mul-le-mul_right (2 ^ r) up)))
    where
      there : k ≡ k - r + r
      there = omega arith

      up : w / 2 ^ r + 1 ≤ 2 ^ (k - r)
      up = omega (arith, shr_lt (k - r) r (subst (λ m. w < 2 ^ m) there i))

      whole : 2 ^ (k - r) * 2 ^ r ≡ 2 ^ k
      whole = sym (pow-add 2 (k - r) r) ∙ ap (λ m. 2 ^ m) (sym there)

      rise : {m : ℕ} → (w / 2 ^ r + 1) * 2 ^ r ≤ m → w / 2 ^ r * 2 ^ r + 2 ^ r ≤ m
      rise g = omega (arith, g, add-mul (w / 2 ^ r) 1 (2 ^ r))

symbols_fit : (t : List ℕ) (base : ℕ) → ((i : ℕ) → Fits w8 (get_or t i 0)) → AllBytes (table_at t base).symbols
symbols_fit t base h = table_bytes t base (λ i. let fits = h i in omega arith)

-- no symbol of the nine bits of w
pub nothing :
    (t : Table) {w : ℕ} {f : Fault}
    → w < 512
    → Err f ≡ plainly t [] (record { at = 0; acc = w * 2 ^ 55 % 2 ^ 64; left = 9 })
    → (first : Bool)
    → 0 ≡ entry_at 9 first t w
nothing t {w} below e =
    none_there 9 (lit≤ tt) t w below
    (e ∙ ap (λ a. plainly t [] (record { at = 0; acc = a; left = 9 })) (shl_exact 9 55 64 below (lit≤ tt)))

-- a symbol of the nine bits of w that may stand: so many numbers from w on begin with its code, and have its entry
module _
    (t : Table) {w x : ℕ} {q : Wide} (below : w < 512)
    (e : Ok (x, q) ≡ plainly t [] (record { at = 0; acc = w * 2 ^ 55 % 2 ^ 64; left = 9 }))
  where
    alone_said : Ok (x, q) ≡ plainly t [] (alone 9 w)
    alone_said = e ∙ ap (λ a. plainly t [] (record { at = 0; acc = a; left = 9 })) (shl_exact 9 55 64 below (lit≤ tt))

    abbrev span : ℕ
    span = 1 * 2 ^ q.left % 2 ^ 64

    pub record Runs (first : Bool) : Type 0 where
      pub few : q.left ≤ 9
      pub byte : x < 256
      pub some : 0 < span
      pub rest : w % span < span
      pub inside : w + (span - w % span) ≤ 512
      pub same : (j : ℕ) → w ≤ j → j < w + (span - w % span) → 256 * (9 - q.left + x % 16) + x ≡ entry_at 9 first t j

    runs : AllBytes t.symbols → (first : Bool) → allowed first x ≡ true → Runs first
    runs bytes first ok =
        let f = fills 9 (lit≤ tt) t w below alone_said bytes first ok in
        let few : q.left ≤ 9 = f.left_few in
        let is : span ≡ 2 ^ q.left = power_is q.left (omega arith) in
        let many : span - w % span ≡ 2 ^ q.left - w % 2 ^ q.left = ap (λ k. k - w % k) is in
        let inside : w + (span - w % span) ≤ 512 = part_within w q.left _ many 9 few below in
        let some : 0 < span = rw is (pow_pos q.left) in
        record {
          few = few;
          byte = found_byte 9 (lit≤ tt) t w below alone_said bytes;
          some = some;
          rest = mod-lt w some;
          inside = inside;
          same = λ j p r. sym (f.same_entry j (omega arith) (part_same w q.left _ many j p r));
        }

    -- one that may not stand
    refused : AllBytes t.symbols → (first : Bool) → allowed first x ≡ false → 0 ≡ entry_at 9 first t w
    refused = not_allowed 9 (lit≤ tt) t w below alone_said

-- by what `fill` knows of a symbol that was found
module _
    (t : List ℕ) (base : ℕ) {w x : ℕ} {q : Wide} (below : w < 512)
    (e : Ok (x, q) ≡ plainly (table_at t base) [] (record { at = 0; acc = w * 2 ^ 55 % 2 ^ 64; left = 9 }))
    (numbers : (i : ℕ) → Fits w8 (get_or t i 0)) (first : Bool) {b : Bool} (asked : b ≡ cond first (dc_taken x) (ac_taken x))
  where
    pub runs_there : b ≡ true → Runs (table_at t base) below e first
    unfolding allowed
    runs_there h = runs (table_at t base) below e (symbols_fit t base numbers) first (sym asked ∙ h)

    pub refused_there : b ≡ false → 0 ≡ entry_at 9 first (table_at t base) w
    unfolding allowed
    refused_there h = refused (table_at t base) below e (symbols_fit t base numbers) first (sym asked ∙ h)

-- ---- the table on the way

pub record Done (f : ℕ → ℕ) (look : List ℕ) (w : ℕ) : Type 0 where
  pub long : length look ≡ 512
  pub within : w ≤ 512
  pub done : (j : ℕ) → j < w → get_or look j 0 ≡ f j

pub done_next : {f : ℕ → ℕ} {look : List ℕ} {w : ℕ} → Done f look w → w < 512 → {x : ℕ} → x ≡ f w → Done f (set look w x) (w + 1)
done_next {f} {look} {w} d h {x} e =
    record {
      long = length-set look w x ∙ d.long;
      within = omega arith;
      done = stored (λ j. j < w) (λ j. j < w + 1) (λ j v. v ≡ f j) look w x 0 (omega (arith, d.long)) (λ j p n. less p n) d.done e;
    }
  where
    less : {j : ℕ} → j < w + 1 → (j ≡ w → ⊥) → j < w
    less p n = omega arith

-- the same entry for n numbers more
module _ {f : ℕ → ℕ} {look : List ℕ} {w : ℕ} (d : Done f look w) (n x : ℕ) (room : w + n ≤ 512)
    (same : (j : ℕ) → w ≤ j → j < w + n → x ≡ f j) where
  done_spread : {r : List ℕ} → r ≡ paste look w (replicate n x) n → Done f r (w + n)
  done_spread {r} g =
      record {
        long = ap length g ∙ length-paste look w (replicate n x) n (omega (arith, d.long)) (omega (arith, length-replicate n x)) ∙ d.long;
        within = room;
        done = λ j h. ap (λ l. get_or l j 0) g ∙ at j h (ltb j w) refl;
      }
    where
      front : length (take w look) ≡ w
      front = length-take-le w look (omega (arith, d.long))

      part : take n (replicate n x) ≡ replicate n x
      part = take_all n (replicate n x) (omega (arith, length-replicate n x))

      head : length (take w look ++ take n (replicate n x)) ≡ w + n
      head = length-append (take w look) (take n (replicate n x)) ∙ omega (arith, front, ap length part, length-replicate n x)

      old : (j : ℕ) → j < w → get_or (take w look ++ take n (replicate n x)) j 0 ≡ f j
      old j h = get_or-append (take w look) (take n (replicate n x)) 0 j (omega (arith, front)) ∙ get_or-take w look j 0 h ∙ d.done j h

      new : (i : ℕ) → i < n → get_or (take w look ++ take n (replicate n x)) (w + i) 0 ≡ f (w + i)
      new i h =
          ap (λ k. get_or (take w look ++ take n (replicate n x)) (k + i) 0) (sym front)
          ∙ get_or-append-add (take w look) (take n (replicate n x)) i 0
          ∙ ap (λ l. get_or l i 0) part
          ∙ get_or-replicate n i x 0 h
          ∙ same (w + i) (omega arith) (omega arith)

      at : (j : ℕ) → j < w + n → (b : Bool) → ltb j w ≡ b → get_or (paste look w (replicate n x) n) j 0 ≡ f j
      at j h b e =
          get_or-append (take w look ++ take n (replicate n x)) (drop (w + n) look) 0 j (omega (arith, head))
          ∙ either b e
        where
          either : (b : Bool) → ltb j w ≡ b → get_or (take w look ++ take n (replicate n x)) j 0 ≡ f j
          either true e = old j (ltb-true j w e)
          either false e = subst (λ k. get_or (take w look ++ take n (replicate n x)) k 0 ≡ f k) back (new (j - w) (omega (arith, ltb-false j w e)))
            where
              back : w + (j - w) ≡ j
              back = omega (arith, ltb-false j w e)

  -- by a fill of the part for them
  pub done_filled : {r : List ℕ} → r ≡ replicate (length (take (w + n - w) (drop w look))) x → Done f (put_mid w (w + n - w) look r) (w + n)
  done_filled g =
      let many : n ≡ w + n - w = omega arith in
      let long : length (take (w + n - w) (drop w look)) ≡ n = omega (arith, length-take (w + n - w) (drop w look), length-drop w look, d.long) in
      done_spread
      (put_mid-paste w (w + n - w) look _ (replicate n x) n (g ∙ ap (λ k. replicate k x) long) many (sym (length-replicate n x)))

pub all_done : (first : Bool) (t : Table) {look : List ℕ} {w : ℕ} → Done (entry_at 9 first t) look w → 512 ≤ w → look ≡ entries 9 first t
unfolding entries
all_done first t {look} {w} d h = is_list_of 0 look 512 (entry_at 9 first t) d.long (λ j p. d.done j (omega arith))
