-- In a table that was read every symbol has at most one code, and it is the one that settling writes. The one idea: the bits that are
-- read as a symbol are the code at one of its places, and a list with no symbol twice has one place at most for each.
use Prim.Native.Nat.{ℕ, zero, suc, ◌+◌, ◌*◌, ◌-◌, ◌/◌, ◌<◌, ◌≤◌}
use mathlib.Core.Path.{◌≡◌, refl, sym, ap, ◌∙◌, subst, subst⁻¹}
use mathlib.Core.Bool.{Bool, true, false, cond}
use mathlib.Core.List.{List, [], ◌∷◌, ◌++◌, append_assoc, append-nil}
use mathlib.Core.Logic.{◌↔◌}
use mathlib.Core.Option.{Option, none, some}
use native.Mathlib.Omega.{arith}
use native.Mathlib.Nat.{not-suc-le-zero, le_of_suc-le-suc}
use lib.Dec.{T, ltb}
use lib.ListN.{length, take, drop, get_or, length-take, length-drop}
use borrow.Author.Tests.{lt-ltb, le-ltb, ltb-true, ltb-false}
use Rattle.reading.specs.Tests.{is_none, place_of, apart, all}
use Rattle.reading.specs.Reader.{Read, got, fault, onward, give}
use Rattle.reading.specs.Huffman.{Table, table_at, sum, bits_of, code_from, symbol, code_at, code_of}
use Rattle.reading.specs.declared.Record.{Record}
use Rattle.reading.specs.Block.{dc_taken, ac_taken}
use Rattle.reading.specs.Layout.{channel_of}
use Rattle.reading.specs.Tables.{shape_of}
use Rattle.reading.specs.Header.{done, byte, counts_of, symbols_of, listable, table_fits, header}
use Rattle.reading.specs.Scan.{plan_of}
use Rattle.reading.specs.Words.{AllBits, next_in, IsCode, Careful}
use Rattle.reading.proofs.Plain.{and_left, and_right, Plain, pop, bits_of_last, Good, Found}
use Rattle.reading.proofs.Readings.{Two, two, no_fault, got_val}
use Rattle.reading.proofs.Written.{plain, found, some_list, absurd_some, symbol_written}
use Rattle.reading.proofs.ScanWritten.{Bits?, code_of_bits}
use Rattle.reading.proofs.Fits.{table_known}
use Rattle.reading.proofs.HeaderEnds.{header_within}
use Rattle.reading.proofs.HeaderPrefix.{take_drop_take}
use Rattle.reading.proofs.WantOfCode.{there}
use Rattle.reading.proofs.GoodTables.{TableOk, good_table, tables_stand}

-- ---- a list with no number twice

-- what stands in a list has a place in it
has_place : (l : List ℕ) (x i : ℕ) → i < length l → get_or l i 0 ≡ x → is_none (place_of l x) ≡ false
has_place l x i h e = subst (λ y. is_none (place_of l y) ≡ false) e (ap is_none (there l i 0 h).1)

-- so it has one place at most
one_place : (l : List ℕ) → T (apart l) → (i j : ℕ) → i < length l → j < length l → get_or l i 0 ≡ get_or l j 0 → i ≡ j
one_place [] t i j h k e = absurd (not-suc-le-zero h)
one_place (y ∷ l) t zero zero h k e = refl
one_place (y ∷ l) t zero (suc j) h k e =
    absurd (subst T (has_place l y j (le_of_suc-le-suc k) (sym e)) (and_left (is_none (place_of l y)) (apart l) t))
one_place (y ∷ l) t (suc i) zero h k e =
    absurd (subst T (has_place l y i (le_of_suc-le-suc h) e) (and_left (is_none (place_of l y)) (apart l) t))
one_place (y ∷ l) t (suc i) (suc j) h k e =
    ap suc (one_place l (and_right (is_none (place_of l y)) (apart l) t) i j (le_of_suc-le-suc h) (le_of_suc-le-suc k) e)

the_place : (l : List ℕ) (x i : ℕ) → T (apart l) → i < length l → get_or l i 0 ≡ x → place_of l x ≡ some i
the_place l x i t h e = go (place_of l x) refl (has_place l x i h e)
  where
    go : (o : Option ℕ) → place_of l x ≡ o → is_none o ≡ false → o ≡ some i
    go none p n = absurd (subst T n tt)
    go (some j) p n = let f : Found l x j = found l x j p in ap some (one_place l t j i f.inside h (f.there ∙ sym e))

-- ---- bits that are read as a place are its code

got_at : {S A : Type 0} {a b : A} {s t : S} → got a s ≡ got b t → s ≡ t
got_at {S} {A} {a} {b} {s} q = ap at_of q
  where
    at_of : Read S A → S
    at_of (got a u) = u
    at_of (fault f) = s

-- a code that was read: its place, and its bits behind those that make v
record Back (cs : List ℕ) (m v f index : ℕ) (bits : List ℕ) (i : ℕ) : Type 0 where
  pub behind : index ≤ i
  pub inside : i < index + sum cs
  pub code : bits_of m v ++ bits ≡ code_at cs m f (i - index)

code_back :
    (cs : List ℕ) (m v f index : ℕ) (bits : List ℕ) (i : ℕ) → AllBits bits → f ≤ v
    → code_from next_in cs v f index bits ≡ got i [] → Back cs m v f index bits i
code_back [] m v f index bits i ab h e = absurd (no_fault _ i [] e)
code_back (c ∷ cs) m v f index [] i ab h e = absurd (no_fault _ i [] e)
code_back (c ∷ cs) m v f index (b ∷ bits) i ab h e =
    go (ltb (2 * v + b) (2 * f + c)) refl e
    (λ k q. code_back cs (suc m) (2 * v + b) (2 * f + c) (index + c) bits i ab.1 k q)
  where
    w : ℕ
    w = 2 * v + b

    last : bits_of (suc m) w ≡ bits_of m v ++ b ∷ []
    last = bits_of_last m v b ab.0

    here : w < 2 * f + c → bits ≡ [] → index + (w - 2 * f) ≡ i → Back (c ∷ cs) m v f index (b ∷ bits) i
    here k q p =
        let own : i - index ≡ w - 2 * f = omega arith in
        let up : 2 * f + (w - 2 * f) ≡ w = omega arith in
        record {
          behind = omega arith;
          inside = omega arith;
          code = rw (own, lt-ltb (w - 2 * f) c (omega arith), up, q) (sym last);
        }

    there : 2 * f + c ≤ w → Back cs (suc m) w (2 * f + c) (index + c) bits i → Back (c ∷ cs) m v f index (b ∷ bits) i
    there k r =
        let far : i - index - c ≡ i - (index + c) = omega arith in
        record {
          behind = omega (arith, r.behind);
          inside = omega (arith, r.inside);
          code =
              rw (le-ltb (i - index) c (omega (arith, r.behind)), far)
              (sym (append_assoc (bits_of m v) (b ∷ []) bits) ∙ ap (λ l. l ++ bits) (sym last) ∙ r.code);
        }

    go :
        (t : Bool) → ltb w (2 * f + c) ≡ t
        → cond t (give (index + (w - 2 * f))) (code_from next_in cs w (2 * f + c) (index + c)) bits ≡ got i []
        → (2 * f + c ≤ w → code_from next_in cs w (2 * f + c) (index + c) bits ≡ got i [] → Back cs (suc m) w (2 * f + c) (index + c) bits i)
        → Back (c ∷ cs) m v f index (b ∷ bits) i
    go true p q ih = here (ltb-true w (2 * f + c) p) (got_at q) (got_val q)
    go false p q ih = there (ltb-false w (2 * f + c) p) (ih (ltb-false w (2 * f + c) p) q)

-- ---- a plain list of bits, and one with bytes behind it, are read alike

abbrev bare : {A : Type 0} → Read Plain A → Read (List ℕ) A
bare (got a s) = got a s.bits
bare (fault f) = fault f

bare_code : (cs : List ℕ) (v f index : ℕ) (bits : List ℕ) → code_from next_in cs v f index bits ≡ bare (code_from pop cs v f index (plain bits []))
bare_code [] v f index bits = refl
bare_code (c ∷ cs) v f index [] = refl
bare_code (c ∷ cs) v f index (b ∷ bits) = go (ltb (2 * v + b) (2 * f + c)) (bare_code cs (2 * v + b) (2 * f + c) (index + c) bits)
  where
    go :
        (t : Bool)
        → code_from next_in cs (2 * v + b) (2 * f + c) (index + c) bits ≡ bare (code_from pop cs (2 * v + b) (2 * f + c) (index + c) (plain bits []))
        → cond t (give (index + (2 * v + b - 2 * f))) (code_from next_in cs (2 * v + b) (2 * f + c) (index + c)) bits
        ≡ bare (cond t (give (index + (2 * v + b - 2 * f))) (code_from pop cs (2 * v + b) (2 * f + c) (index + c)) (plain bits []))
    go true later = refl
    go false later = later

bare_symbol : (t : Table) (bits : List ℕ) → symbol next_in t bits ≡ bare (symbol pop t (plain bits []))
unfolding symbol
bare_symbol t bits = rw (bare_code t.counts 0 0 0 bits) (go (code_from pop t.counts 0 0 0 (plain bits [])))
  where
    go : (o : Read Plain ℕ) → onward (bare o) (λ i. give (get_or t.symbols i 0)) ≡ bare (onward o (λ i. give (get_or t.symbols i 0)))
    go (got i s) = refl
    go (fault f) = refl

-- ---- the code

module _ (t : Table) (g : Good t) (alone : T (apart t.symbols)) (x : ℕ) (w : List ℕ) where
  code_so : IsCode t x w → code_of t x ≡ some w
  unfolding symbol code_of
  code_so k = go (two (code_from next_in t.counts 0 0 0 w) _ x [] k.reads)
    where
      go : Two (code_from next_in t.counts 0 0 0 w) (λ i. give (get_or t.symbols i 0)) x [] → code_of t x ≡ some w
      go r =
          let back = code_back t.counts 0 0 0 0 w r.val k.bitwise (omega arith) (r.fst ∙ ap (got r.val) (got_at r.snd)) in
          let own : r.val - 0 ≡ r.val = omega arith in
          let inside : r.val < length t.symbols = omega (arith, g.full, back.inside) in
          rw (the_place t.symbols x r.val alone inside (got_val r.snd))
          (ap some (sym (back.code ∙ ap (code_at t.counts 0 0) own)))

  code_reads : code_of t x ≡ some w → IsCode t x w
  code_reads e =
      record {
        bitwise = subst Bits? e (code_of_bits t x);
        reads = bare_symbol t w ∙ ap bare (ap (λ l. symbol pop t (plain l [])) (sym (append-nil w)) ∙ symbol_written t g x w [] [] e);
      }

  the_code : IsCode t x w ↔ code_of t x ≡ some w
  the_code = (code_so, code_reads)

-- ---- a table that was read

-- an element of a list that passes
all_in : (p : ℕ → Bool) (l : List ℕ) (i : ℕ) → T (all p l) → i < length l → T (p (get_or l i 0))
all_in p [] i t h = absurd (not-suc-le-zero h)
all_in p (x ∷ l) zero t h = and_left (p x) (all p l) t
all_in p (x ∷ l) (suc i) t h = all_in p l i (and_right (p x) (all p l) t) (le_of_suc-le-suc h)

careful : (p : ℕ → Bool) (t : Table) → Good t → T (apart t.symbols) → T (all p t.symbols) → Careful p t
unfolding code_of
careful p t g alone every =
    record {
      one_code = λ x v w i j. some_list (sym (code_so t g alone x v i) ∙ code_so t g alone x w j);
      the_code = λ x w. the_code t g alone x w;
      taken = λ x w i. listed x (place_of t.symbols x) refl (code_so t g alone x w i);
    }
  where
    listed : (x : ℕ) {w : List ℕ} (o : Option ℕ) → place_of t.symbols x ≡ o → code_of t x ≡ some w → T (p x)
    listed x {w} none q e = absurd (absurd_some w (rw q at e))
    listed x (some i) q e = let f = found t.symbols x i q in subst (λ y. T (p y)) f.there (all_in p t.symbols i every f.inside)

-- whatever becomes of it: `b` is what is left of a segment, with the table in front
pub read_careful : (b : List ℕ) → T (table_fits b) → Careful (listable (byte b 0 / 16)) (table_at b 1)
read_careful b t =
    let k = table_known b t in
    let full : length (symbols_of b) ≡ sum (counts_of b) = rw (length-take (sum (counts_of b)) (drop 17 b), length-drop 17 b) (omega (arith, k.whole)) in
    careful (listable (byte b 0 / 16)) (table_at b 1) (record { fitting = k.codes; full = full }) k.alone k.taken

-- those of an accepted record
module _ {class : ℕ} (s : List ℕ) (m x : ℕ) (h : m ≤ length s) (t : TableOk class s m x) where
  counts_alike : take 16 (drop x (take m s)) ≡ take 16 (drop x s)
  counts_alike = take_drop_take x 16 m s (omega (arith, t.by))

  alike : (table_at (take m s) x).symbols ≡ (table_at s x).symbols
  alike =
      rw counts_alike
      (take_drop_take (x + 16) (sum (take 16 (drop x s))) m s t.by)

  stands_careful : Careful (listable class) (table_at (take m s) x)
  stands_careful =
      careful (listable class) (table_at (take m s) x) (good_table s m x h t)
      (subst⁻¹ (λ l. T (apart l)) alike t.alone)
      (subst⁻¹ (λ l. T (all (listable class) l)) alike t.taken)

pub careful_channel :
    (s : List ℕ) (colour : Bool) (r : Record) → header s colour ≡ done r
    → (k : ℕ) → (let ch = (plan_of s r).channels (channel_of (shape_of r.frame) k) in Careful dc_taken ch.dc × Careful ac_taken ch.ac)
careful_channel s colour r e k =
    let in-file = header_within s colour r e in
    let stands = tables_stand s colour r e k in
    (stands_careful s r.start _ in-file stands.dc, stands_careful s r.start _ in-file stands.ac)
