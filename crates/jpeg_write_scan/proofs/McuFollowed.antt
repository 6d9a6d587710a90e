-- One MCU by an engine. Its cursor follows a cursor of the scan, and there all is as the rules have it (McuPassed).
use Prim.Native.Nat.{ℕ, ◌+◌, ◌<◌, ◌≤◌}
use mathlib.Core.Path.{◌≡◌, refl, sym, ◌∙◌, ap, subst}
use mathlib.Core.List.{List}
use native.Mathlib.Omega.{arith}
use lib.IntN.{ℤ, pos}
use lib.ListN.{length, get_or, set}
use Rattle.std.specs.Prelude.{Option, Result, Ok, Err}
use Rattle.reading.specs.declared.Bits.{Bits}
use Rattle.reading.specs.declared.BlockRead.{BlockRead}
use Rattle.reading.specs.declared.Break.{Break}
use Rattle.reading.specs.declared.Fault.{Fault}
use Rattle.reading.specs.declared.ScanCursor.{ScanCursor}
use Rattle.reading.specs.Layout.{due_before, restart_before}
use Rattle.reading.specs.Reader.{Read, got, fault}
use Rattle.reading.specs.Code.Scans.{broke_at}
use Rattle.reading.specs.Settled.{onto, cut}
use Rattle.jpeg_scan_plan.specs.declared.Plan.{Plan}
use Rattle.jpeg_scan_plan.specs.Plans.{chan}
use Rattle.jpeg_scan_plan.specs.Marks.{restarted, broke_in}
use Rattle.jpeg_scan_plan.proofs.Marks.{broke_first}
use Rattle.jpeg_engine.proofs.Following.{led_on, led_off}
use Rattle.jpeg_scan.proofs.Onward.{past}
use Rattle.jpeg_write_bits.specs.declared.Pen.{Pen}
use Rattle.jpeg_write_scan.specs.declared.Moved.{Moved}
use Rattle.jpeg_write_scan.specs.Steps.{Quiet}
use Rattle.jpeg_write_scan.specs.Pass.{blocks_at, Fit, Moves}
use Rattle.jpeg_engine.specs.Engines.{Follows, Led, block_here, Alike}
use Rattle.jpeg_write_scan.specs.Engines.{Worded, Passed}
use Rattle.jpeg_write_scan.proofs.Quiets.{quiet_levels}
use Rattle.jpeg_write_scan.proofs.McuPassed as plain
use Rattle.jpeg_write_scan.proofs.McuPassed.{block_in}

module _ {P : Type 0} (meets : Bits → P → Type 0) where
  -- ---- what an engine answers, by what the rules answer

  -- a block that was read
  pub record Got (o : Read Bits (List ℤ)) (r : BlockRead P) (levels : List ℤ) : Type 0 where
    pub behind : Bits
    pub is : o ≡ got levels behind
    pub first : get_or levels 0 (pos 0) ≡ r.first
    pub quiet : Quiet r.reach levels
    pub met : meets behind r.after

  pub got_block : (o : Read Bits (List ℤ)) {r : BlockRead P} {levels : List ℤ} → Alike meets o (Ok r) levels → Got o r levels
  got_block (got l b) h =
      record {
        behind = b;
        is = ap (λ (k : List ℤ). got k b) (sym h.0);
        first = ap (λ (k : List ℤ). get_or k 0 (pos 0)) h.0 ∙ sym h.1;
        quiet = quiet_levels h.0 h.2;
        met = h.3;
      }
  got_block (fault f) h = absurd h

  pub no_block : (o : Read Bits (List ℤ)) {f : Fault} (levels : List ℤ) → Alike {P = P} meets o (Err f) levels → o ≡ fault f
  no_block (got l b) levels h = absurd h
  no_block (fault g) levels e = ap fault e

  -- ---- the walk over the blocks

  -- before block j the cursor w follows `here`, where the rules stand; the restart led to a cursor that w₀ follows
  pub record Walk
      (s : List ℕ) (n : Plan) (m : ℕ) (from : Moved Bits) (old : List ℕ) (w₀ : ScanCursor P) (pen : Option Pen) (mid new : List ℕ)
      (w : ScanCursor P) (ink : Option Pen) (j : ℕ) : Type 0 where
    pub start : ScanCursor Bits
    pub here : ScanCursor Bits
    pub begun : Follows meets start w₀
    pub follows : Follows meets here w
    pub walk : plain.Walk s n m from old start pen mid new here ink j

  -- the same at every cursor that was followed before the restart
  abbrev pub Walks : List ℕ → Plan → ℕ → Moved P → List ℕ → ScanCursor P → Option Pen → List ℕ → List ℕ → ScanCursor P → Option Pen → ℕ → Type 0
  Walks s n m before old w₀ pen mid new w ink j =
      (q : ScanCursor Bits) → Follows meets q before.cursor → Walk s n m (record { cursor = q; ink = before.ink }) old w₀ pen mid new w ink j

  pub begin :
      {s : List ℕ} {n : Plan} {m : ℕ} {from : Moved Bits} {old : List ℕ} {r : Result (ScanCursor P) Fault} {w : ScanCursor P} {pen : Option Pen} {mid : List ℕ} {i : ℕ}
      → length mid ≡ length old
      → Led meets (restarted s n.interval m from.cursor) r
      → r ≡ Ok w
      → i ≡ n.interval
      → Moves (cut (due_before i m) (restart_before i m)) from.ink old pen mid
      → Walk s n m from old w pen mid mid w pen 0
  begin {s} {n} {m} {from} {old} {r} {w} {pen} {mid} l a g e o =
      let x = led_on meets (restarted s n.interval m from.cursor) (subst (Led meets (restarted s n.interval m from.cursor)) g a) in
      let put = subst (λ (i : ℕ). Moves (cut (due_before i m) (restart_before i m)) from.ink old pen mid) e o in
      record { start = x.start; here = x.start; begun = x.follows; follows = x.follows; walk = plain.begin l x.is put }

  -- no block is left
  pub over :
      (says : Break → Break) (s : List ℕ) (m : ℕ) (q : ScanCursor Bits) (old : List ℕ) {n n' : Plan} {at : Moved P}
      → n' ≡ n
      → Follows meets q at.cursor
      → Fit at.ink
      → n'.blocks ≤ at.cursor.done
      → Passed meets says s n m (record { cursor = q; ink = at.ink }) old (Ok at) old
  over says s m q old {n} {at = at} e f i h =
      let from : Moved Bits = record { cursor = q; ink = at.ink } in
      record {
        told = Ok from;
        went = plain.over s n m from old i (omega (arith, f.place, ap (λ (n : Plan). n.blocks) e));
        along = (f, refl);
      }

  -- the restart is not read
  pub stopped :
      (says : Break → Break) (s : List ℕ) (n : Plan) (m : ℕ) (from : Moved Bits) (old : List ℕ) {r : Result (ScanCursor P) Fault} {f : Fault} {w : Break}
      → from.cursor.done < n.blocks
      → Led meets (restarted s n.interval m from.cursor) r
      → r ≡ Err f
      → w ≡ says (broke_in from.cursor from.cursor f)
      → Passed {P = P} meets says s n m from old (Err w) old
  stopped says s n m from old {r} {f} i a g e =
      let off = led_off meets (restarted s n.interval m from.cursor) (subst (Led meets (restarted s n.interval m from.cursor)) g a) in
      record { told = Err (broke_at from.cursor f); went = plain.stopped s n m from old i off; along = e ∙ ap says (broke_first from.cursor from.cursor f refl) }

  module _
      (says : Break → Break) {s : List ℕ} {n : Plan} {m : ℕ} {from : Moved Bits} {old : List ℕ} {w₀ : ScanCursor P} {pen : Option Pen}
      {mid new : List ℕ} {w : ScanCursor P} {ink : Option Pen} {j : ℕ} (x : Walk s n m from old w₀ pen mid new w ink j)
    where
      -- how many blocks were done
      pub done_is : w.done ≡ w₀.done + j
      done_is = x.follows.place ∙ x.walk.along.place ∙ ap (λ (k : ℕ). k + j) (sym x.begun.place)

      -- the last block is written
      pub whole : from.cursor.done < n.blocks → j ≡ blocks_at n w₀.done → Passed meets says s n m from old (Ok (record { cursor = w; ink = ink })) new
      whole i h =
          record {
            told = Ok (record { cursor = x.here; ink = ink });
            went = plain.whole x.walk i (h ∙ ap (λ (d : ℕ). blocks_at n d) x.begun.place);
            along = (x.follows, refl);
          }

      -- ---- block j

      module _ (h : j < blocks_at n w₀.done) {c : ℕ} (u : c ≡ chan n.order j) where
        inside : j < blocks_at n x.start.done
        inside = subst (λ (d : ℕ). j < blocks_at n d) x.begun.place h

        -- what was read there, behind the prediction as it is held
        module _ {y : ℤ} (same : y ≡ get_or w.predictors c (pos 0)) where
          behind : y ≡ get_or x.here.predictors c (pos 0)
          behind = same ∙ ap (λ (ps : List ℤ). get_or ps c (pos 0)) x.follows.predicts

          module _ {a : Result (BlockRead P) Fault} (levels : List ℤ) (t : Alike meets (block_here s n c y x.here.bits) a levels) where
            there : {b : Result (BlockRead P) Fault} → a ≡ b → Alike meets (block_here s n c (get_or x.here.predictors c (pos 0)) x.here.bits) b levels
            there {b} g =
                subst (λ (z : ℤ). Alike meets (block_here s n c z x.here.bits) b levels) behind
                (subst (λ (b : Result (BlockRead P) Fault). Alike meets (block_here s n c y x.here.bits) b levels) g t)

            pub broken :
                from.cursor.done < n.blocks
                → {f : Fault}
                → a ≡ Err f
                → {v : Break}
                → v ≡ says (broke_in from.cursor x.here f)
                → Passed {P = P} meets says s n m from old (Err v) new
            broken i {f} g e =
                record { told = Err (broke_in from.cursor x.here f); went = plain.broken x.walk inside u i (no_block _ levels (there g)); along = e }

            module _ {r : BlockRead P} (g : a ≡ Ok r) where
              read : Got (block_here s n c (get_or x.here.predictors c (pos 0)) x.here.bits) r levels
              read = got_block _ (there g)

              -- its levels are zero from the place on that it is said to reach
              pub quiet : Quiet r.reach levels
              quiet = read.quiet

              pub further :
                  {ws : List ℕ}
                  → Worded s n ws
                  → {first : ℤ}
                  → first ≡ r.first
                  → {o : Option Pen} {new' : List ℕ}
                  → length new' ≡ length new
                  → Moves (onto (block_in ws c y levels)) ink new o new'
                  → Walk s n m from old w₀ pen mid new' (record { bits = r.after; predictors = set w.predictors c first; done = w.done + 1 }) o (j + 1)
              further {ws} filled {first} e {o} {new'} long put =
                  record {
                    start = x.start;
                    here = past x.here c (get_or levels 0 (pos 0)) read.behind;
                    begun = x.begun;
                    follows = record {
                      met = read.met;
                      predicts = ap (λ (ps : List ℤ). set ps c first) x.follows.predicts ∙ ap (set x.here.predictors c) (e ∙ sym read.first);
                      place = ap (λ (d : ℕ). d + 1) x.follows.place;
                    };
                    walk = plain.further x.walk inside u read.is filled long (subst (λ (z : ℤ). Moves (onto (block_in ws c z levels)) ink new o new') behind put);
                  }
