-- One MCU. Before its block j the levels of j blocks are read: put before what is still to be read they are what was to be read at the
-- start, and each block's samples stand at its own part of the scratch. One block more keeps this (`further`). A fault, of the restart or
-- of a block, is the scan's fault (`halted`, `broken`), and behind the last block it is what the contract says (`whole`).
use mathlib.Core.Path.{◌≡◌, refl, sym, ◌∙◌, ap, ap₂}
use mathlib.Core.Bool.{Bool, true, false, cond}
use mathlib.Core.List.{List, [], ◌∷◌, ◌++◌}
use Prim.Native.Nat.{ℕ, ◌+◌, ◌*◌, ◌-◌, ◌/◌, ◌<◌, ◌≤◌, min}
use native.Mathlib.Omega.{arith}
use lib.Dec.{ltb}
use lib.ListN.{length, get_or, take, drop, length-append}
use lib.IntN.{ℤ}
use borrow.Author.Tests.{lt-ltb, ltb-true, ltb-false}
use Rattle.std.specs.Prelude.{Result, Ok, Err, MatchResult}
use Rattle.reading.specs.declared.Bits.{Bits}
use Rattle.reading.specs.declared.BlockRead.{BlockRead}
use Rattle.reading.specs.declared.Fault.{Fault}
use Rattle.reading.specs.declared.ScanCursor.{ScanCursor}
use Rattle.reading.specs.Tests.{◌and◌}
use Rattle.reading.specs.Code.Places.{places}
use Rattle.reading.specs.Code.Answers.{said, levels_of}
use Rattle.reading.specs.Code.Painted.{samples_to}
use Rattle.reading.specs.Scan as scan
use Rattle.reading.specs.Scan.{broke}
use Rattle.reading.specs.Code.Scans.{broke_at}
use Rattle.jpeg_scan_plan.specs.declared.Plan.{Plan}
use Rattle.jpeg_scan_plan.specs.Plans.{chan, Stands, Quantizes}
use Rattle.jpeg_scan_plan.specs.Marks.{restarted, broke_in}
use Rattle.jpeg_scan.specs.Steps.{ahead, resumed, before, placed, inked, Passed, Went}
use Rattle.jpeg_scan_plan.proofs.Marks.{restart_done, broke_first, broke_later}
use Rattle.jpeg_scan.proofs.Onward.{before_none, before_before, before_broke, inside, channel_here, block_at, past, block_stop, block_next, block_reach, went, restart_next}
use Rattle.jpeg_scan.proofs.Samples.{inked_not, inked_none, inked_more, inked_one, painted_room, painted_length}

-- the bytes that have the tables
abbrev pub head : Plan → List ℕ → List ℕ
head n s = take n.start s

-- the scratch behind block i, which is of channel c and has the levels l, of which the first k are not 0; with its samples where `write`
abbrev pub painted_if : Bool → Plan → List ℕ → ℕ → ℕ → List ℤ → ℕ → List ℕ → List ℕ
painted_if write n s c i l k old =
    cond write (placed (64 * i) (samples_to (take 64 (drop (get_or n.quants c 0) (head n s))) l k) old) old

-- as the code paints it
abbrev pub painted_at : Plan → List ℕ → ℕ → ℕ → Bool → List ℤ → ℕ → List ℕ → List ℕ
painted_at n s c i write l k old = painted_if (write and ltb i (length old / 64)) n s c i l k old

-- ---- the place in an MCU

-- the cursor q stands before block j of the MCU that begins at `from`
pub record Along (n : Plan) (from q : ScanCursor Bits) (j : ℕ) : Type 0 where
  pub place : q.done ≡ from.done + j
  pub few : j ≤ n.per
  pub left : j ≤ n.blocks - from.done

pub along_none : (n : Plan) (q : ScanCursor Bits) → Along n q q 0
along_none n q = record { place = omega arith; few = omega arith; left = omega arith }

pub below : (order j : ℕ) {c : ℕ} → c ≡ chan order j → c < 4
below order j {c} u = omega (arith, u)

module _ {n : Plan} {from q : ScanCursor Bits} {j : ℕ} (a : Along n from q j) where
  pub along_at : (m : ℕ) → from.done ≡ m * n.per → q.done ≡ m * n.per + j
  along_at m e = a.place ∙ ap (λ (k : ℕ). k + j) e

  pub along_more : j < n.per → q.done < n.blocks → (c : ℕ) (z : ℤ) (b : Bits) → Along n from (past q c z b) (j + 1)
  along_more h i c z b = record { place = omega (arith, a.place); few = omega arith; left = omega (arith, a.left, a.place) }

  -- behind the last block of the MCU, or of the scan
  pub along_whole : n.per ≤ j → j ≡ min n.per (n.blocks - from.done)
  along_whole h = omega (arith, a.few, a.left)

  pub along_out : n.blocks ≤ q.done → j ≡ min n.per (n.blocks - from.done)
  along_out h = omega (arith, a.few, a.left, a.place)

-- what is to come from block j of an MCU on: x, and before its first block y, where the restart is done
abbrev pub entered : {A : Type 0} → ℕ → A → A → A
entered j x y = cond (ltb 0 j) x y

module _ {A : Type 0} (j : ℕ) (x y : A) where
  pub entered_later : 0 < j → entered j x y ≡ x
  entered_later h = rw (lt-ltb 0 j h) refl

  pub entered_out : y ≡ x → entered j x y ≡ x
  entered_out e = go (ltb 0 j)
    where
      go : (t : Bool) → cond t x y ≡ x
      go true = refl
      go false = e

-- the cursor before the turn of block j: where the block is to be read, and before the first block `turn`, which is before the restart
abbrev pub turn_of : ℕ → ScanCursor Bits → ScanCursor Bits → ScanCursor Bits
turn_of j turn q = entered j q turn

module _ {A : Type 0} (j : ℕ) (x : A) (y : ScanCursor Bits → A) (turn q : ScanCursor Bits) where
  pub entered_here : (0 < j → x ≡ y q) → entered j x (y turn) ≡ y (turn_of j turn q)
  entered_here f = go (ltb 0 j) refl
    where
      go : (t : Bool) → ltb 0 j ≡ t → cond t x (y turn) ≡ y (cond t q turn)
      go true l = f (ltb-true 0 j l)
      go false l = refl

-- what a fault in block j names
pub turn_names :
    {n : Plan} {from q : ScanCursor Bits} {j : ℕ}
    → Along n from q j
    → (turn : ScanCursor Bits)
    → turn.done ≡ from.done
    → (f : Fault)
    → broke_at (turn_of j turn q) f ≡ broke_in turn q f
turn_names {n} {from} {q} {j} a turn d f = go (ltb 0 j) refl
  where
    go : (t : Bool) → ltb 0 j ≡ t → broke_at (cond t q turn) f ≡ broke_in turn q f
    go true l = sym (broke_later turn q f (λ (z : q.done ≡ turn.done). omega (arith, z, d, a.place, ltb-true 0 j l)))
    go false l = sym (broke_first turn q f (omega (arith, d, a.place, ltb-false 0 j l)))

-- ---- the blocks and their samples

-- what was read of the MCU before its block j, for a plan of the rules
pub record On
    (s : List ℕ) (p : scan.Plan) (n : Plan) (write : Bool) (old : List ℕ) (from : ScanCursor Bits)
    (new : List ℕ) (q : ScanCursor Bits) (j : ℕ) : Type 0 where
  pub levels : List (List ℤ)
  pub count : length levels ≡ j
  pub same :
      (turn : ScanCursor Bits)
      → turn.done ≡ from.done
      → resumed s p n.blocks turn from ≡ before levels (entered j (ahead s p n.blocks q) (resumed s p n.blocks turn q))
  pub here : (quant : ℕ → List ℕ) → Quantizes (head n s) n quant → new ≡ inked write p.shape quant from.done levels old

-- before block j: `from` is the cursor and `old` the scratch at the start of the MCU, q and `new` are those now
pub record Walk
    (s : List ℕ) (n : Plan) (write : Bool) (old : List ℕ) (from : ScanCursor Bits)
    (new : List ℕ) (q : ScanCursor Bits) (j : ℕ) : Type 0 where
  pub size : length new ≡ length old
  pub along : Along n from q j
  pub on : (p : scan.Plan) (m : ℕ) → Stands (head n s) n p → from.done ≡ m * n.per → On s p n write old from new q j

pub begin : (s : List ℕ) (n : Plan) (write : Bool) (old : List ℕ) (q : ScanCursor Bits) → Walk s n write old q old q 0
begin s n write old q =
    record {
      size = refl;
      along = along_none n q;
      on = λ p m st e.
          record {
            levels = [];
            count = refl;
            same = λ turn d. sym (before_none (resumed s p n.blocks turn q));
            here = λ quant h. sym (inked_none p.shape quant write q.done old);
          };
    }

module _
    {s : List ℕ} {n : Plan} {write : Bool} {old : List ℕ} {from : ScanCursor Bits} {new : List ℕ} {q : ScanCursor Bits} {j : ℕ}
    (w : Walk s n write old from new q j)
  where
    module _ (p : scan.Plan) (m : ℕ) (st : Stands (head n s) n p) (e : from.done ≡ m * n.per) where
      o : On s p n write old from new q j
      o = w.on p m st e

      at : q.done ≡ m * n.per + j
      at = along_at w.along m e

      -- ---- block j is read

      behind :
          (turn : ScanCursor Bits)
          → j < n.per
          → entered j (ahead s p n.blocks q) (resumed s p n.blocks turn q) ≡ resumed s p n.blocks (turn_of j turn q) q
      behind turn h = entered_here j _ (λ (c : ScanCursor Bits). resumed s p n.blocks c q) turn q (λ (l : 0 < j). inside st s m j n.blocks q at l h)

      module _
          (h : j < n.per) (i : q.done < n.blocks) {c : ℕ} (u : c ≡ chan n.order j)
          {x : Result (BlockRead Bits) Fault} (v : x ≡ said (block_at (head n s) n s c q))
        where
          few_c : c < 4
          few_c = below n.order j u

          abbrev own : ℕ → List ℕ
          own c = take 64 (drop (get_or n.quants c 0) (head n s))

          stops :
              {f : Fault}
              → x ≡ Err f
              → (turn : ScanCursor Bits)
              → turn.done ≡ from.done
              → resumed s p n.blocks turn from ≡ broke (broke_in turn q f)
          stops {f} g turn d =
              o.same turn d
              ∙ ap (before o.levels) (behind turn h
              ∙ block_stop st s m j n.blocks (turn_of j turn q) q at h i c u few_c v g
              ∙ ap broke (turn_names w.along turn d f))
              ∙ before_broke o.levels (broke_in turn q f)

          unwritten : write ≡ false → new ≡ old
          unwritten t =
              o.here own (λ c h. refl)
              ∙ ap (λ (b : Bool). inked b p.shape own from.done o.levels old) t
              ∙ inked_not p.shape own from.done o.levels old

          more :
              {b : BlockRead Bits}
              → x ≡ Ok b
              → {l : List ℤ}
              → l ≡ levels_of (block_at (head n s) n s c q)
              → {new' : List ℕ}
              → new' ≡ painted_if write n s c q.done l b.reach new
              → (write ≡ true → 64 * n.blocks ≤ length old)
              → On s p n write old from new' (past q c b.first b.after) (j + 1)
          more {b} g {l} y {new'} d room =
              let q' : ScanCursor Bits = past q c b.first b.after in
              let next : (turn : ScanCursor Bits) → resumed s p n.blocks turn q ≡ before (l ∷ []) (ahead s p n.blocks q') =
              λ turn. block_next st s m j n.blocks turn q at h i c u few_c v g ∙ ap (λ (r : List ℤ). before (r ∷ []) (ahead s p n.blocks q')) (sym y) in
              let reach : b.reach ≡ places l = block_reach st s m j n.blocks q q at h i c u few_c v g ∙ ap places (sym y) in
              let place : q.done ≡ from.done + length o.levels = w.along.place ∙ ap (λ (a : ℕ). from.done + a) (sym o.count) in
              record {
                levels = o.levels ++ (l ∷ []);
                count = length-append o.levels (l ∷ []) ∙ ap (λ (a : ℕ). a + 1) o.count;
                same =
                    λ turn d. o.same turn d
                    ∙ ap (before o.levels) (behind turn h ∙ next (turn_of j turn q))
                    ∙ before_before o.levels (l ∷ []) (ahead s p n.blocks q')
                    ∙ ap (before (o.levels ++ (l ∷ []))) (sym (entered_later (j + 1) _ _ (omega arith)));
                here = λ quant qs.
                    d ∙ inked_one p.shape quant write q.done c (own c) l b.reach new (channel_here st s m j q.done at h ∙ sym u) (qs c few_c) reach
                    ∙ ap₂ (λ (a : ℕ) (x : List ℕ). inked write p.shape quant a (l ∷ []) x) place (o.here quant qs)
                    ∙ inked_more p.shape quant write from.done o.levels (l ∷ []) old (λ (t : write ≡ true). omega (arith, room t, w.along.place));
              }

    -- ---- the MCU to whose blocks its restart led from `turn`

    module _ (m : ℕ) (turn : ScanCursor Bits) (i : turn.done < n.blocks) (r : Ok from ≡ restarted s n.interval m turn) where
      same_done : turn.done ≡ from.done
      same_done = sym (restart_done s n.interval m turn r)

      module _ (p : scan.Plan) (st : Stands (head n s) n p) (e : turn.done ≡ m * n.per) where
        to_blocks : ahead s p n.blocks turn ≡ resumed s p n.blocks turn from
        to_blocks = restart_next st s m n.blocks turn e i ∙ ap (λ (z : Result (ScanCursor Bits) Fault). went turn z (resumed s p n.blocks turn)) (sym r)

        at_from : from.done ≡ m * n.per
        at_from = sym same_done ∙ e

        passed : j ≡ min n.per (n.blocks - from.done) → Passed s p n turn q write old new
        passed c =
            let x : On s p n write old from new q j = w.on p m st at_from in
            record {
              levels = x.levels;
              count = x.count ∙ c ∙ ap (λ (k : ℕ). min n.per (n.blocks - k)) (sym same_done);
              place = omega (arith, w.along.place, x.count, same_done);
              same = to_blocks ∙ x.same turn same_done ∙ ap (before x.levels) (entered_later j _ _ (omega (arith, c, st.some, i, same_done)));
              here = λ quant qs. x.here quant qs ∙ ap (λ (k : ℕ). inked write p.shape quant k x.levels old) (sym same_done);
            }

      -- its last block, or the scan's, is read
      pub whole : j ≡ min n.per (n.blocks - from.done) → Went s n m turn write old (Ok q) new
      whole c = record { size = w.size; each = λ p st e. passed p st e c }

    -- ---- block j

    module _
        (h : j < n.per) (i : q.done < n.blocks) {c : ℕ} (u : c ≡ chan n.order j)
        {x : Result (BlockRead Bits) Fault} (v : x ≡ said (block_at (head n s) n s c q))
      where
        -- it is read
        pub further :
            {b : BlockRead Bits}
            → x ≡ Ok b
            → {l : List ℤ}
            → l ≡ levels_of (block_at (head n s) n s c q)
            → {new' : List ℕ}
            → new' ≡ painted_at n s c q.done write l b.reach new
            → (write ≡ true → 64 * n.blocks ≤ length old)
            → Walk s n write old from new' (past q c b.first b.after) (j + 1)
        further {b} g {l} y {new'} d room =
            let fits : write ≡ true → 64 * q.done + 64 ≤ length new = λ t. omega (arith, room t, w.size) in
            let there : new' ≡ painted_if write n s c q.done l b.reach new = d ∙ painted_room write q.done (length new) _ _ fits in
            record {
              size = ap length there ∙ painted_length write q.done (take 64 (drop (get_or n.quants c 0) (head n s))) l b.reach new fits ∙ w.size;
              along = along_more w.along h i c _ _;
              on = λ p m st e. more p m st e h i u v g y there room;
            }

        -- it breaks
        pub broken :
            (m : ℕ) (turn : ScanCursor Bits)
            → turn.done < n.blocks
            → Ok from ≡ restarted s n.interval m turn
            → {f : Fault}
            → x ≡ Err f
            → Went s n m turn write old (Err (broke_in turn q f)) new
        broken m turn l r g =
            record {
              size = w.size;
              each = λ p st e. (
                to_blocks m turn l r p st e ∙ stops p m st (at_from m turn l r p st e) h i u v g turn (same_done m turn l r),
                unwritten p m st (at_from m turn l r p st e) h i u v,
              );
            }

-- no block is left
pub over :
    (s : List ℕ) (n : Plan) (m : ℕ) (turn : ScanCursor Bits) (write : Bool) (old : List ℕ)
    → n.blocks ≤ turn.done
    → Went s n m turn write old (Ok turn) old
over s n m turn write old h =
    record {
      size = refl;
      each = λ p st e.
          record {
            levels = [];
            count = omega arith;
            place = omega arith;
            same = sym (before_none (ahead s p n.blocks turn));
            here = λ quant qs. sym (inked_none p.shape quant write turn.done old);
          };
    }

-- the restart of an MCU breaks
pub halted :
    (s : List ℕ) (n : Plan) (m : ℕ) (turn : ScanCursor Bits) (write : Bool) (old : List ℕ) {f : Fault}
    → turn.done < n.blocks
    → Err f ≡ restarted s n.interval m turn
    → Went s n m turn write old (Err (broke_at turn f)) old
halted s n m turn write old i r =
    record {
      size = refl;
      each = λ p st e. (
        restart_next st s m n.blocks turn e i ∙ ap (λ (z : Result (ScanCursor Bits) Fault). went turn z (resumed s p n.blocks turn)) (sym r),
        λ t. refl,
      );
    }

-- ---- a fault that was told in other words

pub err_from_match :
    {A E : Type 0} {P : A → Type 0} {Q : E → Type 0} (r : Result A E)
    → MatchResult r P Q
    → ((x : A) → P x → ⊥)
    → (f : E) × (r ≡ Err f) × Q f
err_from_match (Ok x) h n = absurd (n x h)
err_from_match (Err f) h n = (f, refl, h)
