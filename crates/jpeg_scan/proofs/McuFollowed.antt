-- One MCU by an engine. Its cursor follows a cursor of the scan, and for that one the walk over the blocks stands as it is (OneMcu).
use Prim.Native.Nat.{ℕ, ◌+◌, ◌*◌, ◌-◌, ◌<◌, ◌≤◌, min}
use mathlib.Core.Path.{◌≡◌, refl, sym, ◌∙◌, ap, ap₂, subst}
use mathlib.Core.Bool.{Bool, true}
use mathlib.Core.List.{List}
use native.Mathlib.Omega.{arith}
use lib.IntN.{ℤ, pos}
use lib.ListN.{length, get_or, set}
use Rattle.std.specs.Prelude.{Result, Ok, Err}
use Rattle.reading.specs.declared.Bits.{Bits}
use Rattle.reading.specs.declared.BlockRead.{BlockRead}
use Rattle.reading.specs.declared.Break.{Break}
use Rattle.reading.specs.declared.Fault.{Fault}
use Rattle.reading.specs.declared.ScanCursor.{ScanCursor}
use Rattle.reading.specs.Reader.{Read, got, fault}
use Rattle.reading.specs.Code.Answers.{said, levels_of, levels_or}
use Rattle.jpeg_scan_plan.specs.declared.Plan.{Plan}
use Rattle.jpeg_scan_plan.specs.Plans.{chan}
use Rattle.jpeg_scan_plan.specs.Marks.{restarted, broke_in}
use Rattle.jpeg_scan_plan.proofs.Marks.{broke_first}
use Rattle.jpeg_engine.specs.Engines.{Follows, Led, block_here, Alike}
use Rattle.jpeg_engine.proofs.Following.{led_on, led_off}
use Rattle.jpeg_scan.specs.Steps.{Told}
use Rattle.jpeg_scan.proofs.Onward.{block_at, past}
use Rattle.jpeg_scan.proofs.OneMcu as plain
use Rattle.jpeg_scan.proofs.OneMcu.{head, painted_at}

module _ {P : Type 0} (meets : Bits → P → Type 0) where
  -- ---- a block

  -- one that was read, as it was read at a bit place
  pub record Taken (o : Read Bits (List ℤ)) (x : BlockRead P) (levels : List ℤ) : Type 0 where
    pub behind : Bits
    pub is : Ok (record { after = behind; first = x.first; reach = x.reach }) ≡ said o
    pub left : levels ≡ levels_of o
    pub met : meets behind x.after

  taken : (o : Read Bits (List ℤ)) {x : BlockRead P} {levels : List ℤ} → Alike meets o (Ok x) levels → Taken o x levels
  unfolding said levels_of levels_or
  taken (got l b) h =
      record { behind = b; is = ap₂ (λ (z : ℤ) (k : ℕ). Ok (record { after = b; first = z; reach = k })) h.1 h.2; left = h.0; met = h.3 }
  taken (fault f) h = absurd h

  refused : (o : Read Bits (List ℤ)) {f : Fault} (levels : List ℤ) → Alike {P = P} meets o (Err f) levels → Err f ≡ said o
  unfolding said
  refused (got l b) levels h = absurd h
  refused (fault g) levels h = ap Err (sym h)

  -- ---- the walk over the blocks

  -- before block j the cursor w follows `here`, where the walk stands; the restart led from `turn` to a cursor that w₀ follows
  pub record Walk
      (s : List ℕ) (n : Plan) (m : ℕ) (turn : ScanCursor Bits) (write : Bool) (old : List ℕ) (w₀ : ScanCursor P) (new : List ℕ)
      (w : ScanCursor P) (j : ℕ) : Type 0 where
    pub start : ScanCursor Bits
    pub here : ScanCursor Bits
    pub led : Ok start ≡ restarted s n.interval m turn
    pub begun : Follows meets start w₀
    pub follows : Follows meets here w
    pub walk : plain.Walk s n write old start new here j

  -- the same at every cursor that was followed before the restart
  abbrev pub Walks : List ℕ → Plan → ℕ → ScanCursor P → Bool → List ℕ → ScanCursor P → List ℕ → ScanCursor P → ℕ → Type 0
  Walks s n m before write old w₀ new w j = (q : ScanCursor Bits) → Follows meets q before → Walk s n m q write old w₀ new w j

  pub begin :
      (s : List ℕ) (n : Plan) (m : ℕ) (turn : ScanCursor Bits) (write : Bool) (old : List ℕ) {r : Result (ScanCursor P) Fault}
      {w : ScanCursor P}
      → Led meets (restarted s n.interval m turn) r
      → r ≡ Ok w
      → Walk s n m turn write old w old w 0
  begin s n m turn write old a g =
      let x = led_on meets (restarted s n.interval m turn) (subst (Led meets (restarted s n.interval m turn)) g a) in
      record { start = x.start; here = x.start; led = x.is; begun = x.follows; follows = x.follows; walk = plain.begin s n write old x.start }

  -- blocks are left at a cursor that is followed
  pub left : {n n' : Plan} {q : ScanCursor Bits} {w : ScanCursor P} → n' ≡ n → Follows meets q w → w.done < n'.blocks → q.done < n.blocks
  left e f h = omega (arith, f.place, ap (λ (n : Plan). n.blocks) e)

  -- no block is left
  pub over :
      (says : Break → Break) (s : List ℕ) (m : ℕ) (turn : ScanCursor Bits) (write : Bool) (old : List ℕ) {n n' : Plan} {w : ScanCursor P}
      → n' ≡ n
      → Follows meets turn w
      → n'.blocks ≤ w.done
      → Told meets says s n m turn write old (Ok w) old
  over says s m turn write old {n} e f h =
      record {
        told = Ok turn;
        went = plain.over s n m turn write old (omega (arith, f.place, ap (λ (n : Plan). n.blocks) e));
        along = f;
      }

  -- the restart breaks
  pub halted :
      (says : Break → Break) (s : List ℕ) (n : Plan) (m : ℕ) (turn : ScanCursor Bits) (write : Bool) (old : List ℕ)
      {r : Result (ScanCursor P) Fault} {f : Fault} {v : Break}
      → turn.done < n.blocks
      → Led meets (restarted s n.interval m turn) r
      → r ≡ Err f
      → v ≡ says (broke_in turn turn f)
      → Told {P = P} meets says s n m turn write old (Err v) old
  halted says s n m turn write old {r} {f} i a g e =
      let off = led_off meets (restarted s n.interval m turn) (subst (Led meets (restarted s n.interval m turn)) g a) in
      record { told = _; went = plain.halted s n m turn write old i off; along = e ∙ ap says (broke_first turn turn f refl) }

  module _
      (says : Break → Break) {s : List ℕ} {n : Plan} {m : ℕ} {turn : ScanCursor Bits} {write : Bool} {old : List ℕ} {w₀ : ScanCursor P}
      {new : List ℕ} {w : ScanCursor P} {j : ℕ} (x : Walk s n m turn write old w₀ new w j)
    where
      -- the last block of the MCU is read, or of the scan
      pub whole : turn.done < n.blocks → j ≡ min n.per (n.blocks - w₀.done) → Told meets says s n m turn write old (Ok w) new
      whole i h =
          record {
            told = Ok x.here;
            went = plain.whole x.walk m turn i x.led (h ∙ ap (λ (k : ℕ). min n.per (n.blocks - k)) x.begun.place);
            along = x.follows;
          }

      -- block j
      module _ (h : j < min n.per (n.blocks - w₀.done)) {c : ℕ} (u : c ≡ chan n.order j) where
        within : j < n.per
        within = omega arith

        inside : x.here.done < n.blocks
        inside = omega (arith, x.walk.along.place, x.begun.place)

        -- what was read there, behind the prediction as it is held
        module _
            {y : ℤ} (same : y ≡ get_or w.predictors c (pos 0)) {a : Result (BlockRead P) Fault} (levels : List ℤ)
            (t : c < 4 → (b : Bits) → meets b w.bits → Alike meets (block_here s n c y b) a levels)
          where
            there : {b : Result (BlockRead P) Fault} → a ≡ b → Alike meets (block_at (head n s) n s c x.here) b levels
            there {b} g =
                subst (λ (z : ℤ). Alike meets (block_here s n c z x.here.bits) b levels)
                (same ∙ ap (λ (ps : List ℤ). get_or ps c (pos 0)) x.follows.predicts)
                (subst (λ (b : Result (BlockRead P) Fault). Alike meets (block_here s n c y x.here.bits) b levels) g
                (t (plain.below n.order j u) x.here.bits x.follows.met))

            pub broken :
                turn.done < n.blocks
                → {f : Fault}
                → a ≡ Err f
                → {v : Break}
                → v ≡ says (broke_in turn x.here f)
                → Told {P = P} meets says s n m turn write old (Err v) new
            broken i g e =
                record {
                  told = _;
                  went = plain.broken x.walk within inside u (refused _ levels (there g)) m turn i x.led refl;
                  along = e;
                }

            pub further :
                {b : BlockRead P}
                → a ≡ Ok b
                → {first : ℤ}
                → first ≡ b.first
                → {new' : List ℕ}
                → new' ≡ painted_at n s c w.done write levels b.reach new
                → (write ≡ true → 64 * n.blocks ≤ length old)
                → Walk s n m turn write old w₀ new' (record { bits = b.after; predictors = set w.predictors c first; done = w.done + 1 }) (j + 1)
            further {b} g {first} e {new'} d room =
                let k : Taken (block_at (head n s) n s c x.here) b levels = taken _ (there g) in
                record {
                  start = x.start;
                  here = past x.here c b.first k.behind;
                  led = x.led;
                  begun = x.begun;
                  follows = record {
                    met = k.met;
                    predicts = ap₂ (λ (ps : List ℤ) (z : ℤ). set ps c z) x.follows.predicts e;
                    place = ap (λ (d : ℕ). d + 1) x.follows.place;
                  };
                  walk =
                      plain.further x.walk within inside u k.is refl k.left
                      (d ∙ ap (λ (a : ℕ). painted_at n s c a write levels b.reach new) x.follows.place) room;
                }
