-- Reading on: the blocks from a cursor on are the restart before its MCU, one block, and the blocks behind it. A fault names the cursor
-- before the restart, which is `turn`.
use mathlib.Core.List.{List, [], ◌∷◌, ◌++◌, append_assoc, append-nil}
use mathlib.Core.Path.{◌≡◌, refl, sym, ◌∙◌, ap, ap₂}
use mathlib.Core.Bool.{Bool, true, false, cond}
use Prim.Native.Nat.{ℕ, zero, suc, ◌+◌, ◌-◌, ◌*◌, ◌/◌, ◌%◌, ◌<◌, ◌≤◌}
use native.Mathlib.Nat.{mod-eq_of_lt, mul-mod_left, mul-div_cancel, mul-add-mod_self_right}
use native.Mathlib.Numerals.{add-one}
use native.Mathlib.Omega.{arith}
use lib.Dec.{eqb}
use lib.ListN.{get_or, set}
use lib.IntN.{ℤ, pos}
use borrow.Author.Tests.{ne_eqb}
use Rattle.std.specs.Prelude.{Result, Ok, Err}
use Rattle.reading.specs.declared.Bits.{Bits}
use Rattle.reading.specs.declared.Break.{Break}
use Rattle.reading.specs.declared.BlockRead.{BlockRead}
use Rattle.reading.specs.declared.Fault.{Fault}
use Rattle.reading.specs.declared.ScanCursor.{ScanCursor}
use Rattle.reading.specs.Tests.{◌and◌}
use Rattle.reading.specs.Reader.{Read, got, fault, Reader, onward, ◌>>◌, give}
use Rattle.reading.specs.Bits.{Source, one, file, mark}
use Rattle.reading.specs.Huffman.{Table, table_at}
use Rattle.reading.specs.Block.{block}
use Rattle.reading.specs.Code.Places.{places}
use Rattle.reading.specs.Layout.{channel_in, channel_of, per_mcu, mcu_of, opens_mcu, due_before, restart_due, restart_before, restart_code}
use Rattle.reading.specs.Code.Answers.{said, levels_of}
use Rattle.reading.specs.Scan as scan
use Rattle.reading.specs.Scan.{Cursor, Scanned, whole, broke, here, onwards}
use Rattle.reading.specs.Code.Scans.{cursor_of, broke_at}
use Rattle.reading.proofs.BlockAnswers.{Taken, told}
use Rattle.jpeg_scan_plan.specs.declared.Plan.{Plan}
use Rattle.reading.proofs.Restarts.{ahead_is}
use Rattle.jpeg_scan_plan.specs.Plans.{chan, Stands}
use Rattle.jpeg_scan_plan.specs.Marks.{behind_marker, restarted}
use Rattle.jpeg_scan.specs.Steps.{begun, ahead, resumed, before}

-- ---- blocks put before a reading

pub before_none : (o : Scanned (Cursor Bits) (List (List ℤ))) → before [] o ≡ o
unfolding before
before_none (whole ls e) = refl
before_none (broke w) = refl

pub before_before : (ls ms : List (List ℤ)) (o : Scanned (Cursor Bits) (List (List ℤ))) → before ls (before ms o) ≡ before (ls ++ ms) o
unfolding before
before_before ls ms (whole ns e) = ap (λ (l : List (List ℤ)). whole l e) (sym (append_assoc ls ms ns))
before_before ls ms (broke w) = refl

pub before_broke : (ls : List (List ℤ)) (w : Break) → before ls (broke w) ≡ broke w
unfolding before
before_broke ls w = refl

pub before_whole : (ls : List (List ℤ)) (e : Cursor Bits) → before ls (whole [] e) ≡ whole ls e
unfolding before
before_whole ls e = ap (λ (l : List (List ℤ)). whole l e) (append-nil ls)

before_one : (l : List ℤ) (o : Scanned (Cursor Bits) (List (List ℤ))) → onwards o (λ ls e. whole (l ∷ ls) e) ≡ before (l ∷ []) o
unfolding before
before_one l (whole ls e) = refl
before_one l (broke w) = refl

-- ---- no blocks are left

pub ahead_none : (s : List ℕ) (p : scan.Plan) (n : ℕ) (q : ScanCursor Bits) → n ≤ q.done → ahead s p n q ≡ whole [] (cursor_of q)
unfolding ahead
ahead_none s p n q h = let z : n - q.done ≡ 0 = omega arith in rw z

pub resumed_none : (s : List ℕ) (p : scan.Plan) (n : ℕ) (turn q : ScanCursor Bits) → n ≤ q.done → resumed s p n turn q ≡ whole [] (cursor_of q)
unfolding resumed
resumed_none s p n turn q h = let z : n - q.done ≡ 0 = omega arith in rw z

-- ---- behind a restart

-- on from where a restart has led, with the cursor before it
abbrev pub went :
    ScanCursor Bits
    → Result (ScanCursor Bits) Fault
    → (ScanCursor Bits → Scanned (Cursor Bits) (List (List ℤ)))
    → Scanned (Cursor Bits) (List (List ℤ))
went turn (Ok q) f = f q
went turn (Err e) f = broke (broke_at turn e)

-- ---- one block

-- a block of channel c behind the prediction z; the tables stand in t
abbrev pub block_by : List ℕ → Plan → List ℕ → ℕ → ℤ → Bits → Read Bits (List ℤ)
block_by t n s c z b = block (one s) (table_at t (get_or n.dcs c 0)) (table_at t (get_or n.acs c 0)) z b

-- the block at a cursor, where it is one of channel c
abbrev pub block_at : List ℕ → Plan → List ℕ → ℕ → ScanCursor Bits → Read Bits (List ℤ)
block_at t n s c q = block_by t n s c (get_or q.predictors c (pos 0)) q.bits

-- the cursor behind a block of channel c: its first level predicts the channel's next one
abbrev pub past : ScanCursor Bits → ℕ → ℤ → Bits → ScanCursor Bits
past q c z b = record { bits = b; predictors = set q.predictors c z; done = q.done + 1 }

-- what was read at a turn, then what comes behind it
onwards_same : {A : Type 0} (turn : Cursor Bits) (src : Source Bits) (o : Read Bits A) (f g : A → Bits → Scanned (Cursor Bits) (List (List ℤ))) → ((a : A) (b : Bits) → f a b ≡ g a b)
    → onwards (here src turn o) f ≡ onwards (here src turn o) g
onwards_same turn src (got a b) f g h = h a b
onwards_same turn src (fault e) f g h = refl

pub resumed_block : (s : List ℕ) (p : scan.Plan) (N : ℕ) (turn q : ScanCursor Bits) → q.done < N → (c : ℕ) → channel_of p.shape q.done ≡ c
    → resumed s p N turn q
    ≡ onwards (here (file s) (cursor_of turn) (block (one s) (p.channels c).dc (p.channels c).ac (get_or q.predictors c (pos 0)) q.bits))
    (λ l b. before (l ∷ []) (ahead s p N (past q c (get_or l 0 (pos 0)) b)))
unfolding resumed ahead file
resumed_block s p N turn q i c u =
    let more : N - q.done ≡ suc (N - (q.done + 1)) = omega arith in
    rw (more, u)
    (onwards_same (cursor_of turn) (file s) (block (one s) (p.channels c).dc (p.channels c).ac (get_or q.predictors c (pos 0)) q.bits) _ _
    (λ l b. before_one l _
    ∙ ap (λ (k : ℕ). before (l ∷ []) (scan.read_on (file s) p (N - (q.done + 1)) (record { bits = b; predictors = set q.predictors c (get_or l 0 (pos 0)); done = k })))
    (sym (add-one q.done))))

-- a turn is its restart and its block
module _ (src : Source Bits) (p : scan.Plan) (k : ℕ) (q : Cursor Bits) where
  abbrev later : List ℤ → List ℤ → Bits → Scanned (Cursor Bits) (List (List ℤ))
  later ps l b = onwards (scan.read_on src p k (record { bits = b; predictors = ps; done = suc q.done })) (λ ls e. whole (l ∷ ls) e)

  abbrev behind_turn : scan.Turn → Bits → Scanned (Cursor Bits) (List (List ℤ))
  behind_turn t b = later t.predictors t.levels b

  turn_block : (qs : List ℤ) (c : ℕ) (o : Read Bits (List ℤ))
      → onwards (here src q (onward o (λ l. give (record { levels = l; predictors = set qs c (get_or l 0 (pos 0)) })))) behind_turn
      ≡ onwards (here src q o) (λ l b. later (set qs c (get_or l 0 (pos 0))) l b)
  turn_block qs c (got l b) = refl
  turn_block qs c (fault f) = refl

  turn_restart : (o : Read Bits (List ℤ)) (f : List ℤ → Reader Bits scan.Turn) (g : List ℤ → Bits → Scanned (Cursor Bits) (List (List ℤ)))
      → ((qs : List ℤ) (b : Bits) → onwards (here src q (f qs b)) behind_turn ≡ g qs b)
      → onwards (here src q (onward o f)) behind_turn ≡ onwards (here src q o) g
  turn_restart (got qs b) f g h = h qs b
  turn_restart (fault e) f g h = refl

ahead_restart : (s : List ℕ) (p : scan.Plan) (N : ℕ) (q : ScanCursor Bits) → q.done < N
    → ahead s p N q
    ≡ onwards (here (file s) (cursor_of q) (scan.ahead (file s) p q.done q.predictors q.bits)) (λ qs b. resumed s p N q (record { bits = b; predictors = qs; done = q.done }))
unfolding ahead resumed file
ahead_restart s p N q i =
    let c : ℕ = channel_of p.shape q.done in
    let more : N - q.done ≡ suc (N - (q.done + 1)) = omega arith in
    rw more
    (turn_restart (file s) p (N - (q.done + 1)) (cursor_of q) (scan.ahead (file s) p q.done q.predictors q.bits) _ _
    (λ qs b. turn_block (file s) p (N - (q.done + 1)) (cursor_of q) qs c (block (one s) (p.channels c).dc (p.channels c).ac (get_or qs c (pos 0)) b)))

module _ {t : List ℕ} {n : Plan} {p : scan.Plan} (st : Stands t n p) (s : List ℕ) where
  -- block j of MCU m
  module _ (m j k : ℕ) (e : k ≡ m * n.per + j) (h : j < n.per) where
    place_in : k % per_mcu p.shape ≡ j
    place_in = ap₂ (λ (a b : ℕ). a % b) e st.per_is ∙ mul-add-mod_self_right m n.per j ∙ mod-eq_of_lt h

    pub channel_here : channel_of p.shape k ≡ chan n.order j
    unfolding channel_of
    channel_here = ap (λ (i : ℕ). channel_in p.shape.factors i) place_in ∙ st.channel_is j h

    -- inside an MCU no restart is due
    pub not_open : 0 < j → opens_mcu p.shape k ≡ false
    unfolding opens_mcu
    not_open i = ap (λ (x : ℕ). eqb x 0) place_in ∙ ne_eqb j 0 (λ (z : j ≡ 0). omega arith)

    pub not_due : 0 < j → restart_due p.shape p.interval k ≡ false
    unfolding restart_due
    not_due i = ap (λ (x : Bool). x and due_before p.interval (mcu_of p.shape k)) (not_open i)

  pub inside : (m j : ℕ) (N : ℕ) (q : ScanCursor Bits) → q.done ≡ m * n.per + j → 0 < j → j < n.per → ahead s p N q ≡ resumed s p N q q
  unfolding ahead resumed
  inside m j N q e i h = go (N - q.done)
    where
      go : (k : ℕ) → scan.read_on (file s) p k (cursor_of q) ≡ begun (file s) p k (cursor_of q) (cursor_of q)
      go zero = refl
      go (suc k) =
          let c : ℕ = channel_of p.shape q.done in
          rw (not_open m j q.done e h i)
          (turn_block (file s) p k (cursor_of q) q.predictors c (block (file s).next (p.channels c).dc (p.channels c).ac (get_or q.predictors c (pos 0)) q.bits))

  -- the block at a cursor
  module _
      (m j N : ℕ) (turn q : ScanCursor Bits) (e : q.done ≡ m * n.per + j) (h : j < n.per) (i : q.done < N)
      (c : ℕ) (u : c ≡ chan n.order j) (few : c < 4)
    where
      abbrev B : Read Bits (List ℤ)
      B = block_at t n s c q

      first : resumed s p N turn q ≡ onwards (here (file s) (cursor_of turn) B) (λ l b. before (l ∷ []) (ahead s p N (past q c (get_or l 0 (pos 0)) b)))
      first = resumed_block s p N turn q i c (channel_here m j q.done e h ∙ sym u) ∙ ap₂ (λ (dc ac : Table). after dc ac) (st.dc_is c few) (st.ac_is c few)
        where
          after : Table → Table → Scanned (Cursor Bits) (List (List ℤ))
          after dc ac = onwards (here (file s) (cursor_of turn) (block (one s) dc ac (get_or q.predictors c (pos 0)) q.bits)) (λ l b. before (l ∷ []) (ahead s p N (past q c (get_or l 0 (pos 0)) b)))

      module _ {x : Result (BlockRead Bits) Fault} (said-so : x ≡ said B) where
        behind : Read Bits (List ℤ) → Scanned (Cursor Bits) (List (List ℤ))
        behind o = onwards (here (file s) (cursor_of turn) o) (λ l b. before (l ∷ []) (ahead s p N (past q c (get_or l 0 (pos 0)) b)))

        pub block_stop : {f : Fault} → x ≡ Err f → resumed s p N turn q ≡ broke (broke_at turn f)
        unfolding behind file
        block_stop {f} g = first ∙ ap behind (told B said-so g).read

        pub block_next : {b : BlockRead Bits} → x ≡ Ok b → resumed s p N turn q ≡ before (levels_of B ∷ []) (ahead s p N (past q c b.first b.after))
        unfolding behind
        block_next {b} g =
            let y : Taken B b.after b.first b.reach = told B said-so g in
            first ∙ ap behind y.read
            ∙ ap₂ (λ (l : List ℤ) (w : ℤ). before (l ∷ []) (ahead s p N (past q c w b.after))) (sym y.left) (sym y.first)

        pub block_reach : {b : BlockRead Bits} → x ≡ Ok b → b.reach ≡ places (levels_of B)
        block_reach {b} g = let y : Taken B b.after b.first b.reach = told B said-so g in y.reach ∙ ap places (sym y.left)

  -- the restart before MCU m
  module _ (m N : ℕ) (q : ScanCursor Bits) (e : q.done ≡ m * n.per) (i : q.done < N) where
    mcu_is : mcu_of p.shape q.done ≡ m
    mcu_is = ap₂ (λ (a b : ℕ). a / b) e st.per_is ∙ mul-div_cancel m st.some

    opens : opens_mcu p.shape q.done ≡ true
    unfolding opens_mcu
    opens = ap (λ (x : ℕ). eqb x 0) (ap₂ (λ (a b : ℕ). a % b) e st.per_is ∙ mul-mod_left m n.per)

    pub due_is : restart_due p.shape p.interval q.done ≡ due_before n.interval m
    unfolding restart_due
    due_is =
        ap (λ (x : Bool). x and due_before p.interval (mcu_of p.shape q.done)) opens ∙ ap₂ due_before st.interval_is mcu_is

    pub code_is : restart_code p.shape p.interval q.done ≡ restart_before n.interval m
    code_is = ap₂ restart_before st.interval_is mcu_is

    pub restart_next : ahead s p N q ≡ went q (restarted s n.interval m q) (resumed s p N q)
    unfolding restarted file
    restart_next =
        ahead_restart s p N q i ∙ ap (λ (x : Reader Bits (List ℤ)). onwards (here (file s) (cursor_of q) (x q.bits)) after) (ahead_is (file s) p q.done q.predictors)
        ∙ rw (due_is, code_is) (go (due_before n.interval m))
      where
        code : ℕ
        code = restart_before n.interval m

        after : List ℤ → Bits → Scanned (Cursor Bits) (List (List ℤ))
        after qs b = resumed s p N q (record { bits = b; predictors = qs; done = q.done })

        looked : (r : Read Bits (Unit {0})) → onwards (here (file s) (cursor_of q) (onward r (λ _. give scan.no_predictors))) after ≡ went q (behind_marker q r) (resumed s p N q)
        looked (got _ b) = refl
        looked (fault f) = refl

        go : (t : Bool)
            → onwards (here (file s) (cursor_of q) (cond t (mark s code >> give scan.no_predictors) (give q.predictors) q.bits)) after
            ≡ went q (cond t (behind_marker q (mark s code q.bits)) (Ok q)) (resumed s p N q)
        go true = looked (mark s code q.bits)
        go false = refl
