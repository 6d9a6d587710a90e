-- A prefix of an accepted file. A reading of the whole file is followed in the prefix: up to its end both answer alike, and the first byte
-- that is wanted behind it is missing. What wants it decides what is said: the bits of a block have run out, a restart or the final marker
-- is broken.
use Prim.Native.Nat.{ℕ, zero, suc, ◌+◌, ◌-◌, ◌/◌, ◌%◌, ◌<◌, ◌≤◌, min}
use mathlib.Core.Path.{◌≡◌, refl, sym, ap, ◌∙◌, subst⁻¹}
use mathlib.Core.Bool.{Bool, true, false, cond}
use mathlib.Core.List.{List, [], ◌∷◌}
use mathlib.Core.Option.{Option, none, some}
use native.Mathlib.Nat.{not-suc-le-zero, le_of_suc-le-suc}
use native.Mathlib.Omega.{arith}
use lib.Dec.{eqb, ltb}
use lib.IntN.{ℤ, pos}
use lib.ListN.{length, get_or, set, get_elem?, take, drop, length-take}
use borrow.Author.Tests.{eqb-true, lt-ltb, le-ltb, ltb-true, ltb-false}
use Rattle.reading.specs.declared.Bits.{Bits}
use Rattle.reading.specs.declared.Break.{Break}
use Rattle.reading.specs.declared.Fault.{Fault}
use Rattle.reading.specs.declared.Fault.TheVariants.{RanOut, Bare, Broken}
use Rattle.reading.specs.declared.Record.{Record}
use Rattle.reading.specs.declared.Refusal.TheVariants.{Scan}
use Rattle.reading.specs.Tests.{◌and◌, is_at}
use Rattle.reading.specs.Reader.{Read, got, fault, Reader, onward, ◌>>=◌, ◌>>◌, give, fail, rule}
use Rattle.reading.specs.Bits.{first_of, after_full, fresh_from, one_at, one, fulls, padded, first_bit, mark, file}
use Rattle.reading.specs.Block.{block}
use Rattle.reading.specs.Huffman.{Table}
use Rattle.reading.specs.Header.{done, header}
use Rattle.reading.specs.Layout.{channel_of, mcu_of, opens_mcu, due_before, restart_before}
use Rattle.reading.specs.Tables.{shape_of}
use Rattle.reading.specs.Scan.{Plan, plan_of, channel_at, no_predictors, restart, ahead, closed, Turn, Cursor, Scanned, whole, broke, here, onwards, read_on, started, ended, levels}
use Rattle.reading.specs.Reading.{accepted, refused, reading}
use Rattle.reading.specs.Words.{broken_at, cut_turn, cut_from, cut_at}
use Rattle.reading.proofs.Readings.{no_fault}
use Rattle.reading.proofs.Reasons.{no_break, whole_at}
use Rattle.reading.proofs.Related.{block_related}
use Rattle.reading.proofs.HeaderEnds.{header_within}
use Rattle.reading.proofs.HeaderPrefix.{header_prefix}
use Rattle.reading.proofs.Demand3.{Taken, taken_apart}

abbrev nothing : Unit {0}
nothing = tt

-- ---- the bytes of a prefix

there : {A : Type 0} (c : ℕ) (l : List A) (i : ℕ) → i < c → get_elem? (take c l) i ≡ get_elem? l i
there zero l i h = absurd (not-suc-le-zero h)
there (suc c) [] i h = refl
there (suc c) (x ∷ l) zero h = refl
there (suc c) (x ∷ l) (suc i) h = there c l i (le_of_suc-le-suc h)

gone : {A : Type 0} (c : ℕ) (l : List A) (i : ℕ) → c ≤ i → get_elem? (take c l) i ≡ none
gone zero l i h = refl
gone (suc c) [] i h = refl
gone (suc c) (x ∷ l) zero h = absurd (not-suc-le-zero h)
gone (suc c) (x ∷ l) (suc i) h = gone c l i (le_of_suc-le-suc h)

drop_take : {A : Type 0} (i c : ℕ) (l : List A) → drop i (take c l) ≡ take (c - i) (drop i l)
drop_take zero c l = let z : c - 0 ≡ c = omega arith in ap (λ (k : ℕ). take k l) (sym z)
drop_take {A} (suc i) zero l = let z : 0 - suc i ≡ 0 = omega arith in ap (λ (k : ℕ). take k (drop (suc i) l)) (sym z)
drop_take {A} (suc i) (suc c) [] = none_left (suc c - suc i)
  where
    none_left : (k : ℕ) → ◌≡◌ {A = List A} [] (take k [])
    none_left zero = refl
    none_left (suc k) = refl
drop_take (suc i) (suc c) (x ∷ l) = let z : suc c - suc i ≡ c - i = omega arith in drop_take i c l ∙ ap (λ (k : ℕ). take k (drop i l)) (sym z)

take_take : {A : Type 0} (i c : ℕ) (l : List A) → i ≤ c → take i (take c l) ≡ take i l
take_take zero c l h = refl
take_take (suc i) zero l h = absurd (not-suc-le-zero h)
take_take (suc i) (suc c) [] h = refl
take_take (suc i) (suc c) (x ∷ l) h = ap (λ z. x ∷ z) (take_take i c l (le_of_suc-le-suc h))

fulls_take : (k : ℕ) (l : List ℕ) → fulls (take k l) ≡ min k (fulls l)
fulls_take zero l = omega arith
fulls_take (suc k) [] = omega arith
fulls_take (suc k) (x ∷ l) = go (eqb x 255) (fulls_take k l)
  where
    go : (t : Bool) → fulls (take k l) ≡ min k (fulls l) → cond t (suc (fulls (take k l))) 0 ≡ min (suc k) (cond t (suc (fulls l)) 0)
    go true h = omega (arith, h)
    go false h = omega arith

-- ---- what a reading of the whole file comes to in the prefix

-- the same where it ends before c; the fault f where it took a byte at or behind c
pub data Cut {A : Type 0} (c : ℕ) (f : Fault) : Read Bits A → Read Bits A → Type 0 where
  kept : (a : A) (b : Bits) → b.at ≤ c → Cut c f (got a b) (got a b)
  missing : (a : A) (b : Bits) → c < b.at → Cut c f (got a b) (fault f)
  broken : (e : Fault) (o : Read Bits A) → Cut c f (fault e) o

-- reading goes on and never back
abbrev Forth : {A : Type 0} → Bits → Read Bits A → Type 0
Forth b (got a e) = b.at ≤ e.at
Forth b (fault f) = Unit {0}

pub record Cuts (c : ℕ) (A : Type 0) (m m' : Reader Bits A) : Type 0 where
  forth : (b : Bits) → Forth b (m b)
  cut : (b : Bits) → b.at ≤ c → Cut c RanOut (m b) (m' b)

cuts_give : (c : ℕ) (A : Type 0) (a : A) → Cuts c A (give a) (give a)
cuts_give c A a = record { forth = λ b. omega arith; cut = λ b h. kept a b h }

cuts_fail : (c : ℕ) (A : Type 0) (e : Fault) → Cuts c A (fail e) (fail e)
cuts_fail c A e = record { forth = λ b. tt; cut = λ b h. broken e (fault e) }

cuts_then : (c : ℕ) (A B : Type 0) (m m' : Reader Bits A) (k k' : A → Reader Bits B) → Cuts c A m m' → ((a : A) → Cuts c B (k a) (k' a)) → Cuts c B (m >>= k) (m' >>= k')
cuts_then c A B m m' k k' h g = record { forth = λ b. on b (m b) (h.forth b); cut = λ b i. by (m b) (m' b) (h.cut b i) }
  where
    further : (b e : Bits) (o : Read Bits B) → b.at ≤ e.at → Forth e o → Forth b o
    further b e (got a t) i j = omega (arith, i, j)
    further b e (fault f) i j = tt

    on : (b : Bits) (o : Read Bits A) → Forth b o → Forth b (onward o k)
    on b (got a e) i = further b e (k a e) i ((g a).forth e)
    on b (fault f) i = tt

    late : (e : Bits) (o : Read Bits B) → c < e.at → Forth e o → Cut c RanOut o (fault RanOut)
    late e (got a t) i j = missing a t (omega (arith, i, j))
    late e (fault f) i j = broken f (fault RanOut)

    by : (o o' : Read Bits A) → Cut c RanOut o o' → Cut c RanOut (onward o k) (onward o' k')
    by _ _ (kept a b i) = (g a).cut b i
    by _ _ (missing a b i) = late b (k a b) i ((g a).forth b)
    by _ _ (broken e o) = broken e (onward o k')

-- ---- a bit

module _ (s : List ℕ) (c : ℕ) where
  first_kept : (x at : ℕ) → at ≤ c → Cut c RanOut (first_of x at) (first_of x at)
  first_kept x at h = kept (x / 128 % 2) (record { at = at; byte = x; left = 7 }) h

  first_gone : (x at : ℕ) → c < at → Cut c RanOut (first_of x at) (fault RanOut)
  first_gone x at h = missing (x / 128 % 2) (record { at = at; byte = x; left = 7 }) h

  fresh_cut : (at : ℕ) → at ≤ c → Cut c RanOut (fresh_from s at (get_elem? s at)) (fresh_from (take c s) at (get_elem? (take c s) at))
  fresh_cut at h = by (get_elem? s at) refl
    where
      -- behind a 255
      zero_byte : (o : Option ℕ) → get_elem? s (at + 1) ≡ o → at < c → Cut c RanOut (after_full at o) (after_full at (get_elem? (take c s) (at + 1)))
      zero_byte none e i = broken RanOut _
      zero_byte (some y) e i = test (eqb y 0) refl
        where
          test : (t : Bool) → eqb y 0 ≡ t → Cut c RanOut (cond t (first_of 255 (at + 2)) (fault Bare)) (after_full at (get_elem? (take c s) (at + 1)))
          test false p = broken Bare _
          test true p = place (ltb (at + 1) c) refl
            where
              place : (t : Bool) → ltb (at + 1) c ≡ t → Cut c RanOut (first_of 255 (at + 2)) (after_full at (get_elem? (take c s) (at + 1)))
              place true q = rw (there c s (at + 1) (ltb-true (at + 1) c q) ∙ e, p) (first_kept 255 (at + 2) (omega (arith, ltb-true (at + 1) c q)))
              place false q = rw (gone c s (at + 1) (ltb-false (at + 1) c q)) (first_gone 255 (at + 2) (omega (arith, ltb-false (at + 1) c q)))

      -- the byte x, where the prefix has it
      inside : (x : ℕ) → at < c → (t : Bool) → Cut c RanOut
          (cond t (after_full at (get_elem? s (at + 1))) (first_of x (at + 1)))
          (cond t (after_full at (get_elem? (take c s) (at + 1))) (first_of x (at + 1)))
      inside x i true = zero_byte (get_elem? s (at + 1)) refl i
      inside x i false = first_kept x (at + 1) (omega arith)

      -- and where it has not
      outside : (x : ℕ) → c ≤ at → (t : Bool) → Cut c RanOut (cond t (after_full at (get_elem? s (at + 1))) (first_of x (at + 1))) (fault RanOut)
      outside x i false = first_gone x (at + 1) (omega arith)
      outside x i true = full (get_elem? s (at + 1))
        where
          full : (o : Option ℕ) → Cut c RanOut (after_full at o) (fault RanOut)
          full none = broken RanOut _
          full (some y) = test (eqb y 0)
            where
              test : (t : Bool) → Cut c RanOut (cond t (first_of 255 (at + 2)) (fault Bare)) (fault RanOut)
              test true = first_gone 255 (at + 2) (omega arith)
              test false = broken Bare _

      by : (o : Option ℕ) → get_elem? s at ≡ o → Cut c RanOut (fresh_from s at o) (fresh_from (take c s) at (get_elem? (take c s) at))
      by none e = broken RanOut _
      by (some x) e = place (ltb at c) refl
        where
          place : (t : Bool) → ltb at c ≡ t → Cut c RanOut (fresh_from s at (some x)) (fresh_from (take c s) at (get_elem? (take c s) at))
          place true q = rw (there c s at (ltb-true at c q) ∙ e) (inside x (ltb-true at c q) (eqb x 255))
          place false q = rw (gone c s at (ltb-false at c q)) (outside x (ltb-false at c q) (eqb x 255))

  one_cuts : Cuts c ℕ (one s) (one (take c s))
  unfolding one
  one_cuts = record { forth = λ b. goes b.at b.byte b.left; cut = λ b h. by b.at b.byte b.left h }
    where
      forth_full : (at byte left : ℕ) (o : Option ℕ) → Forth (record { at = at; byte = byte; left = left }) (after_full at o)
      forth_full at byte left none = tt
      forth_full at byte left (some y) = test (eqb y 0)
        where
          test : (t : Bool) → Forth (record { at = at; byte = byte; left = left }) (cond t (first_of 255 (at + 2)) (fault Bare))
          test true = omega arith
          test false = tt

      forth_fresh : (at byte left : ℕ) (o : Option ℕ) → Forth (record { at = at; byte = byte; left = left }) (fresh_from s at o)
      forth_fresh at byte left none = tt
      forth_fresh at byte left (some x) = test (eqb x 255)
        where
          test : (t : Bool) → Forth (record { at = at; byte = byte; left = left }) (cond t (after_full at (get_elem? s (at + 1))) (first_of x (at + 1)))
          test true = forth_full at byte left (get_elem? s (at + 1))
          test false = omega arith

      goes : (at byte left : ℕ) → Forth (record { at = at; byte = byte; left = left }) (one_at s at byte left)
      goes at byte zero = forth_fresh at byte 0 (get_elem? s at)
      goes at byte (suc n) = omega arith

      by : (at byte left : ℕ) → at ≤ c → Cut c RanOut (one_at s at byte left) (one_at (take c s) at byte left)
      by at byte zero h = fresh_cut at h
      by at byte (suc n) h = kept _ _ h

  block_cuts : (dc ac : Table) (p : ℤ) → Cuts c (List ℤ) (block (one s) dc ac p) (block (one (take c s)) dc ac p)
  block_cuts = block_related (Cuts c) (cuts_give c) (cuts_fail c) (cuts_then c) (one s) (one (take c s)) one_cuts

  -- ---- a marker

  -- one that takes a byte at or behind c is not there, whatever is tested of it before
  mark_cut : (code : ℕ) (b : Bits) → b.at ≤ c → Cut c Broken (mark s code b) (mark (take c s) code b)
  unfolding mark
  mark_cut code b h = place (ltb (b.at + fulls (drop b.at s)) c) refl
    where
      n_least : fulls (drop b.at (take c s)) ≡ min (c - b.at) (fulls (drop b.at s))
      n_least = ap fulls (drop_take b.at c s) ∙ fulls_take (c - b.at) (drop b.at s)

      tested : (t : Bool) (k : ℕ) → k ≤ c → Cut c Broken (cond t (got nothing (first_bit k)) (fault Broken)) (cond t (got nothing (first_bit k)) (fault Broken))
      tested true k i = kept nothing (first_bit k) i
      tested false k i = broken Broken (fault Broken)

      lost : (t : Bool) (k : ℕ) → c < k → Cut c Broken (cond t (got nothing (first_bit k)) (fault Broken)) (fault Broken)
      lost true k i = missing nothing (first_bit k) i
      lost false k i = broken Broken (fault Broken)

      never : (x y : Bool) → (x and y and false) ≡ false
      never true true = refl
      never true false = refl
      never false y = refl

      place : (t : Bool) → ltb (b.at + fulls (drop b.at s)) c ≡ t → Cut c Broken
          (cond (padded b and ltb 0 (fulls (drop b.at s)) and is_at s (b.at + fulls (drop b.at s)) code)
          (got nothing (first_bit (b.at + fulls (drop b.at s) + 1)))
          (fault Broken))
          (cond (padded b and ltb 0 (fulls (drop b.at (take c s))) and is_at (take c s) (b.at + fulls (drop b.at (take c s))) code)
          (got nothing (first_bit (b.at + fulls (drop b.at (take c s)) + 1)))
          (fault Broken))
      place true q =
          let less : b.at + fulls (drop b.at s) < c = ltb-true (b.at + fulls (drop b.at s)) c q in
          let same : fulls (drop b.at (take c s)) ≡ fulls (drop b.at s) = omega (arith, n_least, less) in
          rw (same, there c s (b.at + fulls (drop b.at s)) less)
          (tested (padded b and ltb 0 (fulls (drop b.at s)) and is_at s (b.at + fulls (drop b.at s)) code) (b.at + fulls (drop b.at s) + 1) (omega (arith, less)))
      place false q =
          let more : c ≤ b.at + fulls (drop b.at s) = ltb-false (b.at + fulls (drop b.at s)) c q in
          let out : c ≤ b.at + fulls (drop b.at (take c s)) = omega (arith, n_least, more, h) in
          rw (gone c s (b.at + fulls (drop b.at (take c s))) out, never (padded b) (ltb 0 (fulls (drop b.at (take c s)))))
          (lost (padded b and ltb 0 (fulls (drop b.at s)) and is_at s (b.at + fulls (drop b.at s)) code) (b.at + fulls (drop b.at s) + 1) (omega (arith, more)))

  ahead_cut : (p : Plan) (k : ℕ) (ps : List ℤ) (b : Bits) → b.at ≤ c → Cut c Broken (ahead (file s) p k ps b) (ahead (file (take c s)) p k ps b)
  unfolding file
  ahead_cut p k ps b h = opens (opens_mcu p.shape k)
    where
      behind : (o o' : Read Bits (Unit {0})) → Cut c Broken o o' → Cut c Broken (onward o (λ _. give no_predictors)) (onward o' (λ _. give no_predictors))
      behind _ _ (kept a e i) = kept no_predictors e i
      behind _ _ (missing a e i) = missing no_predictors e i
      behind _ _ (broken f o) = broken f (onward o (λ _. give no_predictors))

      m : ℕ
      m = mcu_of p.shape k

      code : ℕ
      code = restart_before p.interval m

      go : (t : Bool) → Cut c Broken (cond t (mark s code >> give no_predictors) (give ps) b) (cond t (mark (take c s) code >> give no_predictors) (give ps) b)
      go true = behind (mark s code b) (mark (take c s) code b) (mark_cut code b h)
      go false = kept ps b h

      opens : (t : Bool) → Cut c Broken (cond t (restart (file s) p.interval m ps) (give ps) b) (cond t (restart (file (take c s)) p.interval m ps) (give ps) b)
      opens true = go (due_before p.interval m)
      opens false = kept ps b h

  -- the end of the whole file is not in the prefix
  closed_cut : (b e : Bits) (u : Unit {0}) → b.at ≤ c → c < length s → closed (file s) b ≡ got u e → closed (file (take c s)) b ≡ fault Broken
  unfolding file
  closed_cut b e u h i k = go (mark s 217 b) (mark (take c s) 217 b) (mark_cut 217 b h) k
    where
      go : (o o' : Read Bits (Unit {0})) → Cut c Broken o o' → onward o (λ _ t. rule (eqb t.at (length s)) t) ≡ got u e
          → onward o' (λ _ t. rule (eqb t.at (length (take c s))) t) ≡ fault Broken
      go _ _ (kept a t j) q = absurd (short (eqb t.at (length s)) refl q)
        where
          short : (x : Bool) → eqb t.at (length s) ≡ x → rule x t ≡ got u e → ⊥
          short true y z = omega (arith, eqb-true t.at (length s) y, i, j)
          short false y z = no_fault Broken u e z
      go _ _ (missing a t j) q = refl
      go _ _ (broken f o) q = absurd (no_fault f u e q)

  -- ---- the blocks

  module _ (p : Plan) (less : c < length s) where
    -- reading on in the whole file, to its end
    pub record ReadOut (n : ℕ) (q : Cursor Bits) : Type 0 where
      levels_read : List (List ℤ)
      last : Cursor Bits
      read : read_on (file s) p n q ≡ whole levels_read last
      behind : Bits
      end : closed (file s) last.bits ≡ got nothing behind

    -- a level list more or less changes nothing of where it breaks
    one_more :
        (l : List ℤ) (o : Scanned (Cursor Bits) (List (List ℤ))) (w : Break)
        → onwards o (ended (file (take c s))) ≡ broke w
        → onwards (onwards o (λ ls e. whole (l ∷ ls) e)) (ended (file (take c s))) ≡ broke w
    one_more l (broke x) w e = e
    one_more l (whole ls q) w e = go q (closed (file (take c s)) q.bits) e
      where
        go :
            (x : Cursor Bits) (o : Read Bits (Unit {0}))
            → here (file (take c s)) x (onward o (λ _. give ls)) ≡ broke w
            → here (file (take c s)) x (onward o (λ _. give (l ∷ ls))) ≡ broke w
        go x (got a b) k = absurd (no_break w ls b (sym k))
        go x (fault f) k = k

    abbrev Breaks : ℕ → Cursor Bits → Type 0
    Breaks n q = onwards (read_on (file (take c s)) p n q) (ended (file (take c s))) ≡ broke (cut_from s p c n q)

    -- one turn, then n more
    module _ (n : ℕ) (q : Cursor Bits) (ih : (x : Cursor Bits) → x.bits.at ≤ c → ReadOut n x → Breaks n x) where
      -- what a turn makes of its block, and of its restart
      abbrev by_block : List ℤ → Read Bits (List ℤ) → Read Bits Turn
      by_block qs o = onward o (λ l. give (record { levels = l; predictors = set qs (channel_of p.shape q.done) (get_or l 0 (pos 0)) }))

      abbrev block_at : List ℕ → List ℤ → Bits → Read Bits (List ℤ)
      block_at l qs b =
          block (one l) (p.channels (channel_of p.shape q.done)).dc (p.channels (channel_of p.shape q.done)).ac (get_or qs (channel_of p.shape q.done) (pos 0)) b

      abbrev by_restart : List ℕ → Read Bits (List ℤ) → Read Bits Turn
      by_restart l o = onward o (λ qs b. by_block qs (block_at l qs b))

      abbrev after : Turn → Bits → Cursor Bits
      after t e = record { bits = e; predictors = t.predictors; done = suc q.done }

      abbrev later : List ℕ → Turn → Bits → Scanned (Cursor Bits) (List (List ℤ))
      later l t e = onwards (read_on (file l) p n (after t e)) (λ ls e. whole (t.levels ∷ ls) e)

      abbrev next : Turn → Bits → Break
      next t e = cut_from s p c n (after t e)

      module _ (ls : List (List ℤ)) (last : Cursor Bits) (e₀ : Bits) (end : closed (file s) last.bits ≡ got nothing e₀) where
        -- the blocks behind a turn are read to the end too
        rest_read : (t : Turn) (e : Bits) → later s t e ≡ whole ls last → ReadOut n (after t e)
        rest_read t e k = go (read_on (file s) p n (after t e)) refl k
          where
            go :
                (o : Scanned (Cursor Bits) (List (List ℤ)))
                → read_on (file s) p n (after t e) ≡ o
                → onwards o (λ ls e. whole (t.levels ∷ ls) e) ≡ whole ls last
                → ReadOut n (after t e)
            go (whole ms x) w v =
                let there_too = subst⁻¹ (λ (y : Cursor Bits). closed (file s) y.bits ≡ got nothing e₀) (whole_at v) end in
                record { levels_read = ms; last = x; read = w; behind = e₀; end = there_too }
            go (broke x) w v = absurd (no_break x ls last v)

        by_block_lem : (qs : List ℤ) (b : Bits) → b.at ≤ c → (o o' : Read Bits (List ℤ)) → Cut c RanOut o o'
            → onwards (here (file s) q (by_block qs o)) (later s) ≡ whole ls last
            → onwards (onwards (here (file (take c s)) q (by_block qs o')) (later (take c s))) (ended (file (take c s))) ≡ broke (cut_turn c q (got qs b) (by_block qs o) next)
        unfolding file
        by_block_lem qs b h _ _ (broken f o) k = absurd (no_break _ ls last k)
        by_block_lem qs b h _ _ (missing l e i) k = rw (le-ltb c b.at h, lt-ltb c e.at i) refl
        by_block_lem qs b h _ _ (kept l e i) k =
            let t : Turn = record { levels = l; predictors = set qs (channel_of p.shape q.done) (get_or l 0 (pos 0)) } in
            rw (le-ltb c b.at h, le-ltb c e.at i)
            (one_more l (read_on (file (take c s)) p n (after t e)) (next t e) (ih (after t e) i (rest_read t e k)))

        by_ahead : (o o' : Read Bits (List ℤ)) → Cut c Broken o o'
            → onwards (here (file s) q (by_restart s o)) (later s) ≡ whole ls last
            → onwards (onwards (here (file (take c s)) q (by_restart (take c s) o')) (later (take c s))) (ended (file (take c s))) ≡ broke (cut_turn c q o (by_restart s o) next)
        unfolding file
        by_ahead _ _ (broken f o) k = absurd (no_break _ ls last k)
        by_ahead _ _ (missing qs b i) k = go (block_at s qs b) k
          where
            go : (o : Read Bits (List ℤ)) → onwards (here (file s) q (by_block qs o)) (later s) ≡ whole ls last
                → ◌≡◌ {A = Scanned Bits (List (List ℤ))} (broke (broken_at Broken q)) (broke (cut_turn c q (got qs b) (by_block qs o) next))
            go (got l e) j = rw (lt-ltb c b.at i) refl
            go (fault f) j = absurd (no_break _ ls last j)
        by_ahead _ _ (kept qs b i) k =
            by_block_lem qs b i (block_at s qs b) (block_at (take c s) qs b)
            ((block_cuts (p.channels (channel_of p.shape q.done)).dc (p.channels (channel_of p.shape q.done)).ac (get_or qs (channel_of p.shape q.done) (pos 0))).cut b i) k

      pub turn_cut : q.bits.at ≤ c → ReadOut (suc n) q → Breaks (suc n) q
      unfolding file cut_from
      turn_cut h r =
          by_ahead r.levels_read r.last r.behind r.end (ahead (file s) p q.done q.predictors q.bits) (ahead (file (take c s)) p q.done q.predictors q.bits)
          (ahead_cut p q.done q.predictors q.bits h) r.read

    pub blocks_cut : (n : ℕ) (q : Cursor Bits) → q.bits.at ≤ c → ReadOut n q → Breaks n q
    unfolding file cut_from
    blocks_cut zero q h r =
        let here_end : closed (file s) q.bits ≡ got nothing r.behind = subst⁻¹ (λ (y : Cursor Bits). closed (file s) y.bits ≡ got nothing r.behind) (whole_at r.read) r.end in
        rw (closed_cut q.bits r.behind nothing h less here_end) refl
    blocks_cut (suc n) q h r = turn_cut n q (blocks_cut n) h r

  -- ---- the file

  -- a scan that was read to its end, taken apart
  read_out : (less : c < length s) (r : Record) (ls : List (List ℤ)) (b : Bits) → levels s r ≡ whole ls b → ReadOut (plan_of s r) less r.blocks (started (first_bit r.start))
  unfolding levels
  read_out less r ls b e = go (read_on (file s) (plan_of s r) r.blocks (started (first_bit r.start))) refl e
    where
      go : (o : Scanned (Cursor Bits) (List (List ℤ))) → read_on (file s) (plan_of s r) r.blocks (started (first_bit r.start)) ≡ o
          → onwards o (ended (file s)) ≡ whole ls b → ReadOut (plan_of s r) less r.blocks (started (first_bit r.start))
      go (broke w) k j = absurd (no_break w ls b j)
      go (whole ms x) k j = ends x (closed (file s) x.bits) refl j
        where
          ends :
              (q : Cursor Bits) (o : Read Bits (Unit {0}))
              → closed (file s) x.bits ≡ o
              → here (file s) q (onward o (λ _. give ms)) ≡ whole ls b
              → ReadOut (plan_of s r) less r.blocks (started (first_bit r.start))
          ends q (got u t) y z = record { levels_read = ms; last = x; read = k; behind = t; end = y }
          ends q (fault f) y z = absurd (no_break _ ls b z)

  module _ (colour : Bool) (r : Record) (ls : List (List ℤ)) (e : reading s colour ≡ accepted r ls) (from : r.start ≤ c) (less : c < length s) where
    apart : Taken s colour r ls
    apart = taken_apart s colour r ls e

    same_head : take r.start s ≡ take r.start (take c s)
    same_head = sym (take_take r.start c s from)

    pub cut_header : header (take c s) colour ≡ done r
    cut_header = header_prefix s (take c s) colour r same_head (header_within s colour r apart.head) (omega (arith, length-take c s, from, less)) apart.head

    same_plan : plan_of (take c s) r ≡ plan_of s r
    same_plan = ap (λ (l : List ℕ). record { shape = shape_of r.frame; interval = r.interval; channels = channel_at l r }) (sym same_head)

    pub cut_levels : levels (take c s) r ≡ broke (cut_at s r c)
    unfolding levels cut_at
    cut_levels =
        ap (λ (p : Plan). onwards (read_on (file (take c s)) p r.blocks (started (first_bit r.start))) (ended (file (take c s)))) same_plan
        ∙ blocks_cut (plan_of s r) less r.blocks (started (first_bit r.start)) from (read_out less r ls apart.place apart.body)

    pub cut_file : reading (take c s) colour ≡ refused (Scan (cut_at s r c))
    cut_file = rw (cut_header, cut_levels) refl
