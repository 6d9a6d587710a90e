-- A scan without its places: the levels of its blocks, or the reason of a fault alone. The laws on levels and bits go by this reading;
-- `blocks_forget` and `scan_forget` tie it to the rules' own, which says where a scan broke.
use Prim.Native.Nat.{ℕ, zero, suc}
use mathlib.Core.Path.{◌≡◌, refl, sym, ◌∙◌, ap, ap₂}
use mathlib.Core.List.{List, [], ◌∷◌}
use lib.IntN.{ℤ, pos}
use lib.ListN.{get_or, set}
use Rattle.reading.specs.declared.Bits.{Bits}
use Rattle.reading.specs.declared.Break.{Break}
use Rattle.reading.specs.declared.Record.{Record}
use Rattle.reading.specs.Reader.{Read, got, fault, Reader, onward, ◌>>=◌, ◌>>◌, give}
use Rattle.reading.specs.Bits.{Source, file, first_bit}
use Rattle.reading.specs.Block.{block}
use Rattle.reading.specs.Layout.{channel_of}
use Rattle.reading.specs.Scan as rules
use Rattle.reading.specs.Scan.{Plan, plan_of, ahead, closed, no_predictors, Turn, Cursor, Scanned, whole, broke, here, onwards, read_on, started, ended, levels}
use Rattle.reading.proofs.Readings.{got_val, got_at, no_fault}

-- n more blocks from block k on, in the order of the scan
abbrev pub blocks : {S : Type 0} → Source S → Plan → ℕ → ℕ → List ℤ → Reader S (List (List ℤ))
blocks src p zero k ps = give []
blocks src p (suc n) k ps =
    ahead src p k ps >>= λ qs. let c = channel_of p.shape k in
    let ch = p.channels c in
    block src.next ch.dc ch.ac (get_or qs c (pos 0)) >>= λ l. blocks src p n (suc k) (set qs c (get_or l 0 (pos 0))) >>= λ ls. give (l ∷ ls)

abbrev pub scan : {S : Type 0} → Source S → Plan → ℕ → Reader S (List (List ℤ))
scan src p n = blocks src p n 0 no_predictors >>= λ ls. closed src >> give ls

-- ---- the rules' own reading, its places left out

abbrev pub forget : {S A : Type 0} → Scanned S A → Read S A
forget (whole a s) = got a s
forget (broke w) = fault w.fault

-- of reading on, the bit place is kept of the cursor behind it
abbrev pub forget_on : {S A : Type 0} → Scanned (Cursor S) A → Read S A
forget_on (whole a q) = got a q.bits
forget_on (broke w) = fault w.fault

pub forget_here : {S A : Type 0} (src : Source S) (q : Cursor S) (r : Read S A) → forget (here src q r) ≡ r
forget_here src q (got a s) = refl
forget_here src q (fault f) = refl

module _ {S : Type 0} (src : Source S) (p : Plan) where
  pub blocks_forget : (n : ℕ) (q : Cursor S) → forget_on (read_on src p n q) ≡ blocks src p n q.done q.predictors q.bits
  blocks_forget zero q = refl
  blocks_forget (suc n) q = by_ahead (ahead src p q.done q.predictors q.bits) (blocks_forget n)
    where
      c : ℕ
      c = channel_of p.shape q.done

      -- what comes behind a turn
      later : Turn → S → Scanned (Cursor S) (List (List ℤ))
      later t s = onwards (read_on src p n (record { bits = s; predictors = t.predictors; done = suc q.done })) (λ ls e. whole (t.levels ∷ ls) e)

      by_rest :
          (l : List ℤ) (o : Scanned (Cursor S) (List (List ℤ))) (r : Read S (List (List ℤ)))
          → forget_on o ≡ r
          → forget_on (onwards o (λ ls e. whole (l ∷ ls) e)) ≡ onward r (λ ls. give (l ∷ ls))
      by_rest l (whole ls e) r h = ap (λ (x : Read S (List (List ℤ))). onward x (λ ls. give (l ∷ ls))) h
      by_rest l (broke w) r h = ap (λ (x : Read S (List (List ℤ))). onward x (λ ls. give (l ∷ ls))) h

      by_block_lem : (qs : List ℤ) (r : Read S (List ℤ)) → ((x : Cursor S) → forget_on (read_on src p n x) ≡ blocks src p n x.done x.predictors x.bits)
          → forget_on (onwards (here src q (onward r (λ l. give (record { levels = l; predictors = set qs c (get_or l 0 (pos 0)) })))) later)
          ≡ onward r (λ l. blocks src p n (suc q.done) (set qs c (get_or l 0 (pos 0))) >>= λ ls. give (l ∷ ls))
      by_block_lem qs (fault f) ih = refl
      by_block_lem qs (got l s) ih =
          by_rest l (read_on src p n (record { bits = s; predictors = set qs c (get_or l 0 (pos 0)); done = suc q.done })) (blocks src p n (suc q.done) (set qs c (get_or l 0 (pos 0))) s)
          (ih (record { bits = s; predictors = set qs c (get_or l 0 (pos 0)); done = suc q.done }))

      by_ahead : (r : Read S (List ℤ)) → ((x : Cursor S) → forget_on (read_on src p n x) ≡ blocks src p n x.done x.predictors x.bits)
          → forget_on (onwards (here src q (onward r (λ qs.
          block src.next (p.channels c).dc (p.channels c).ac (get_or qs c (pos 0)) >>= λ l. give (record { levels = l; predictors = set qs c (get_or l 0 (pos 0)) })))) later)
          ≡ onward r (λ qs.
          block src.next (p.channels c).dc (p.channels c).ac (get_or qs c (pos 0)) >>= λ l. blocks src p n (suc q.done) (set qs c (get_or l 0 (pos 0))) >>= λ ls. give (l ∷ ls))
      by_ahead (fault f) ih = refl
      by_ahead (got qs s) ih = by_block_lem qs (block src.next (p.channels c).dc (p.channels c).ac (get_or qs c (pos 0)) s) ih

  pub scan_forget : (n : ℕ) (s : S) → forget (rules.scan src p n s) ≡ scan src p n s
  scan_forget n s = go (read_on src p n (started s)) (blocks_forget n (started s))
    where
      go : (o : Scanned (Cursor S) (List (List ℤ))) → forget_on o ≡ blocks src p n 0 no_predictors s
          → forget (onwards o (ended src)) ≡ onward (blocks src p n 0 no_predictors s) (λ ls. closed src >> give ls)
      go (whole ls q) h = forget_here src q ((closed src >> give ls) q.bits) ∙ ap (λ (x : Read S (List (List ℤ))). onward x (λ ls. closed src >> give ls)) h
      go (broke w) h = ap (λ (x : Read S (List (List ℤ))). onward x (λ ls. closed src >> give ls)) h

-- ---- a scan that was read

pub no_break : {S A : Type 0} (w : Break) (a : A) (s : S) → broke w ≡ whole a s → ⊥
no_break w a s e = no_fault w.fault a s (ap forget e)

pub whole_val : {S A : Type 0} {a b : A} {s t : S} → whole a s ≡ whole b t → a ≡ b
whole_val e = got_val (ap forget e)

pub whole_at : {S A : Type 0} {a b : A} {s t : S} → whole a s ≡ whole b t → s ≡ t
whole_at e = got_at (ap forget e)

pub forget_whole : {S A : Type 0} (o : Scanned S A) {a : A} {s : S} → forget o ≡ got a s → o ≡ whole a s
forget_whole (whole b t) e = ap₂ whole (got_val e) (got_at e)
forget_whole (broke w) {a} {s} e = absurd (no_fault w.fault a s e)

module _ (s : List ℕ) (r : Record) (ls : List (List ℤ)) (b : Bits) where
  pub plainly : levels s r ≡ whole ls b → scan (file s) (plan_of s r) r.blocks (first_bit r.start) ≡ got ls b
  unfolding levels
  plainly e = sym (scan_forget (file s) (plan_of s r) r.blocks (first_bit r.start)) ∙ ap forget e

  pub wholly : scan (file s) (plan_of s r) r.blocks (first_bit r.start) ≡ got ls b → levels s r ≡ whole ls b
  unfolding levels
  wholly e = forget_whole (levels s r) (scan_forget (file s) (plan_of s r) r.blocks (first_bit r.start) ∙ e)
