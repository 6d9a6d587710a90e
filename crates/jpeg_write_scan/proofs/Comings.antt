-- Reading and writing on: what is still to come is the same before and behind a restart, and before and behind a block.
use Prim.Native.Nat.{ℕ, suc, ◌+◌, ◌*◌, ◌≤◌, ◌<◌}
use mathlib.Core.Path.{◌≡◌, refl, sym, ap, ap₂, ◌∙◌}
use mathlib.Core.Bool.{Bool, true, false, cond}
use mathlib.Core.List.{List, [], ◌∷◌}
use mathlib.Core.Option as math
use mathlib.Core.Option.{none, some}
use native.Mathlib.Numerals.{add-one}
use native.Mathlib.Nat.{suc-ne-zero}
use native.Mathlib.Omega.{arith}
use lib.IntN.{ℤ, pos}
use lib.ListN.{get_or, set}
use Rattle.std.specs.Prelude.{Option, Result, Ok, Err}
use Rattle.reading.specs.declared.Bits.{Bits}
use Rattle.reading.specs.declared.Break.{Break}
use Rattle.reading.specs.declared.Fault.{Fault}
use Rattle.reading.specs.declared.ScanCursor.{ScanCursor}
use Rattle.reading.specs.Reader.{Read, got, fault}
use Rattle.reading.specs.Bits.{one, mark, file}
use Rattle.reading.specs.Block.{block}
use Rattle.reading.specs.Layout.{channel_of, due_before, restart_before, restart_due, restart_code}
use Rattle.reading.specs.Code.Answers.{said, levels_of, levels_or}
use Rattle.reading.specs.Scan as scan
use Rattle.reading.specs.Scan.{Cursor, Scanned, whole, broke, here, onwards}
use Rattle.reading.specs.Code.Scans.{cursor_of, broke_at}
use Rattle.reading.specs.Settled.{Written, Coded, onto, cut, block_bits, predictors, written}
use Rattle.jpeg_scan_plan.specs.declared.Plan.{Plan}
use Rattle.jpeg_scan_plan.specs.Plans.{chan, Stands}
use Rattle.jpeg_scan_plan.specs.Marks.{behind_marker, restarted}
use Rattle.jpeg_scan.specs.Steps.{ahead, resumed, before}
use Rattle.jpeg_scan_plan.proofs.Marks.{restart_done}
use Rattle.jpeg_scan.proofs.Onward.{ahead_none, resumed_none, went, block_at, past, resumed_block, channel_here, not_due, inside, block_stop, block_next, due_is, code_is, restart_next}
use Rattle.jpeg_write_bits.specs.declared.Pen.{Pen}
use Rattle.jpeg_write_bits.specs.Page.{Spot}
use Rattle.jpeg_write_scan.specs.Pass.{final_by, Moves, last_part, settling, written_on, coming, resuming}

abbrev Blocks : Type 0
Blocks = List (List ℤ)

-- ---- what is made of blocks

settling_broke : (f : Blocks → math.Option Spot) {o : Scanned (Cursor Bits) Blocks} {w : Break} → o ≡ broke w → settling f o ≡ broke w
unfolding settling
settling_broke f g = ap (settling f) g

settling_same : (f g : Blocks → math.Option Spot) (o : Scanned (Cursor Bits) Blocks) → ((ls : Blocks) → f ls ≡ g ls) → settling f o ≡ settling g o
unfolding settling
settling_same f g (whole ls q) h = ap (λ (x : math.Option Spot). whole x q) (h ls)
settling_same f g (broke w) h = refl

settling_before : (f : Blocks → math.Option Spot) (l : List ℤ) (o : Scanned (Cursor Bits) Blocks) → settling f (before (l ∷ []) o) ≡ settling (λ ls. f (l ∷ ls)) o
unfolding settling before
settling_before f l (whole ls q) = refl
settling_before f l (broke w) = refl

settling_some :
    (f g : Blocks → math.Option Spot) (o : Scanned Bits (List ℤ)) (more : List ℤ → Bits → Scanned (Cursor Bits) Blocks)
    → ((l : List ℤ) (ls : Blocks) → f (l ∷ ls) ≡ g (l ∷ ls))
    → settling f (onwards o (λ l b. before (l ∷ []) (more l b))) ≡ settling g (onwards o (λ l b. before (l ∷ []) (more l b)))
unfolding settling
settling_some f g (whole l b) more h =
    settling_before f l (more l b) ∙ settling_same (λ ls. f (l ∷ ls)) (λ ls. g (l ∷ ls)) (more l b) (h l) ∙ sym (settling_before g l (more l b))
settling_some f g (broke w) more h = refl

-- ---- a restart that is not due

cut_not : {due : Bool} (code : ℕ) (r : math.Option Coded) → due ≡ false → cut due code r ≡ r
cut_not code r e = ap (λ (d : Bool). cut d code r) e ∙ go r
  where
    go : (r : math.Option Coded) → cut false code r ≡ r
    go none = refl
    go (some c) = refl

written_on_lem : (p : scan.Plan) (k : ℕ) (ps : List ℤ) → restart_due p.shape p.interval k ≡ false → (ls : Blocks) → written p k ps ls ≡ written_on p k ps ls
written_on_lem p k ps e [] = refl
written_on_lem p k ps e (l ∷ ls) =
    cut_not (restart_code p.shape p.interval k) _ e
    ∙ ap (λ (qs : List ℤ). written_on p k qs (l ∷ ls)) (ap (λ (d : Bool). predictors d ps) e)

-- ---- behind the last block

module _ (s : List ℕ) (p : scan.Plan) (N : ℕ) (q : ScanCursor Bits) (ink : Option Pen) (out : List ℕ) (h : N ≤ q.done) where
  pub coming_none : coming s p N q ink out ≡ whole (final_by ink out (some last_part)) (cursor_of q)
  unfolding coming settling
  coming_none = ap (settling (λ ls. final_by ink out (written p q.done q.predictors ls))) (ahead_none s p N q h)

  pub resuming_none : (turn : ScanCursor Bits) → resuming s p N turn q ink out ≡ coming s p N q ink out
  unfolding coming resuming settling
  resuming_none turn =
      ap (settling (λ ls. final_by ink out (written_on p q.done q.predictors ls))) (resumed_none s p N turn q h)
      ∙ sym (ap (settling (λ ls. final_by ink out (written p q.done q.predictors ls))) (ahead_none s p N q h))

module _ {t : List ℕ} {n : Plan} {p : scan.Plan} (st : Stands t n p) (s : List ℕ) where
  -- ---- inside an MCU

  pub coming_inside : (m j N : ℕ) (q : ScanCursor Bits) (ink : Option Pen) (out : List ℕ) → q.done ≡ m * n.per + j → 0 < j → j < n.per → coming s p N q ink out ≡ resuming s p N q q ink out
  unfolding coming resuming
  coming_inside m j N q ink out e i h =
      ap (settling (λ ls. final_by ink out (written p q.done q.predictors ls))) (inside st s m j N q e i h)
      ∙ settling_same (λ ls. final_by ink out (written p q.done q.predictors ls)) (λ ls. final_by ink out (written_on p q.done q.predictors ls)) (resumed s p N q q)
      (λ ls. ap (final_by ink out) (written_on_lem p q.done q.predictors (not_due st s m j q.done e h i) ls))

  -- ---- a block

  module _ (m j N : ℕ) (turn q : ScanCursor Bits) (ink : Option Pen) (out : List ℕ)
      (e : q.done ≡ m * n.per + j) (h : j < n.per) (i : q.done < N) (c : ℕ) (u : c ≡ chan n.order j) (few : c < 4) where
    pub resuming_stop : {f : Fault} → block_at t n s c q ≡ fault f → resuming s p N turn q ink out ≡ broke (broke_at turn f)
    unfolding resuming said
    resuming_stop g = settling_broke (λ ls. final_by ink out (written_on p q.done q.predictors ls)) (block_stop st s m j N turn q e h i c u few refl (ap said g))

    module _ {b : Bits} {l : List ℤ} (g : block_at t n s c q ≡ got l b) {w : Written} (is : block_bits (p.channels c) (get_or q.predictors c (pos 0)) l ≡ w)
        {r : Option Pen} {new : List ℕ} (a : Moves (onto w) ink out r new) where
      abbrev z : ℤ
      z = get_or l 0 (pos 0)

      block_on : (ls : Blocks) → final_by ink out (written_on p q.done q.predictors (l ∷ ls)) ≡ final_by r new (written p (q.done + 1) (set q.predictors c z) ls)
      block_on ls =
          ap (λ (d : ℕ). final_by ink out (onto (block_bits (p.channels d) (get_or q.predictors d (pos 0)) l) (written p (suc q.done) (set q.predictors d z) ls)))
          (channel_here st s m j q.done e h ∙ sym u)
          ∙ ap (λ (o : Written). final_by ink out (onto o (written p (suc q.done) (set q.predictors c z) ls))) is
          ∙ a.same (written p (suc q.done) (set q.predictors c z) ls)
          ∙ ap (λ (d : ℕ). final_by r new (written p d (set q.predictors c z) ls)) (sym (add-one q.done))

      pub resuming_next : resuming s p N turn q ink out ≡ coming s p N (past q c z b) r new
      unfolding resuming coming said levels_of levels_or
      resuming_next =
          ap (settling (λ ls. final_by ink out (written_on p q.done q.predictors ls)))
          (block_next st s m j N turn q e h i c u few refl (ap said g) ∙ ap (λ (o : List ℤ). before (o ∷ []) (ahead s p N (past q c z b))) (ap levels_of g))
          ∙ settling_before (λ ls. final_by ink out (written_on p q.done q.predictors ls)) l (ahead s p N (past q c z b))
          ∙ settling_same (λ ls. final_by ink out (written_on p q.done q.predictors (l ∷ ls)))
          (λ ls. final_by r new (written p (q.done + 1) (set q.predictors c z) ls)) (ahead s p N (past q c z b)) block_on

  -- ---- the restart before MCU m

  module _ (m N : ℕ) (q : ScanCursor Bits) (e : q.done ≡ m * n.per) (i : q.done < N) where
    went_on : {a : Result (ScanCursor Bits) Fault} → a ≡ restarted s n.interval m q → ahead s p N q ≡ went q a (resumed s p N q)
    went_on u = restart_next st s m N q e i ∙ ap (λ (z : Result (ScanCursor Bits) Fault). went q z (resumed s p N q)) (sym u)

    pub coming_stop : (ink : Option Pen) (out : List ℕ) {f : Fault} → Err f ≡ restarted s n.interval m q → coming s p N q ink out ≡ broke (broke_at q f)
    unfolding coming
    coming_stop ink out u = settling_broke (λ ls. final_by ink out (written p q.done q.predictors ls)) (went_on u)

    module _ {a : ScanCursor Bits} (u : Ok a ≡ restarted s n.interval m q) where
      predicted : a.predictors ≡ predictors (due_before n.interval m) q.predictors
      unfolding restarted
      predicted = go (due_before n.interval m) (mark s (restart_before n.interval m) q.bits) u
        where
          go : (d : Bool) (r : Read Bits (Unit {0})) → Ok a ≡ cond d (behind_marker q r) (Ok q) → a.predictors ≡ predictors d q.predictors
          go true (got _ b) k = let same : a ≡ record { bits = b; predictors = scan.no_predictors; done = q.done } = cc in ap (λ (x : ScanCursor Bits). x.predictors) same
          go true (fault f) k = absurd (suc-ne-zero 0 cc)
          go false r k = let same : a ≡ q = cc in ap (λ (x : ScanCursor Bits). x.predictors) same

      module _ (ink : Option Pen) (out : List ℕ) {r : Option Pen} {new : List ℕ} (o : Moves (cut (due_before n.interval m) (restart_before n.interval m)) ink out r new) where
        restart_on : (l : List ℤ) (ls : Blocks) → final_by ink out (written p q.done q.predictors (l ∷ ls)) ≡ final_by r new (written_on p a.done a.predictors (l ∷ ls))
        restart_on l ls =
            ap₂ (λ (d : Bool) (k : ℕ). final_by ink out (cut d k (written_on p q.done (predictors d q.predictors) (l ∷ ls)))) (due_is st s m N q e i) (code_is st s m N q e i)
            ∙ o.same (written_on p q.done (predictors (due_before n.interval m) q.predictors) (l ∷ ls))
            ∙ sym (ap₂ (λ (k : ℕ) (ps : List ℤ). final_by r new (written_on p k ps (l ∷ ls))) (restart_done s n.interval m q u) predicted)

        pub coming_restart : coming s p N q ink out ≡ resuming s p N q a r new
        unfolding coming resuming
        coming_restart =
            let less : a.done < N = omega (arith, restart_done s n.interval m q u) in
            let c : ℕ = channel_of p.shape a.done in
            let blocks = resumed_block s p N q a less c refl in
            ap (settling (λ ls. final_by ink out (written p q.done q.predictors ls))) (went_on u ∙ blocks)
            ∙ settling_some (λ ls. final_by ink out (written p q.done q.predictors ls)) (λ ls. final_by r new (written_on p a.done a.predictors ls))
            (here (file s) (cursor_of q) (block (one s) (p.channels c).dc (p.channels c).ac (get_or a.predictors c (pos 0)) a.bits))
            (λ l b. ahead s p N (past a c (get_or l 0 (pos 0)) b)) restart_on
            ∙ ap (settling (λ ls. final_by r new (written_on p a.done a.predictors ls))) (sym blocks)
