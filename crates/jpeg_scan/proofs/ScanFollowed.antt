-- A whole scan by an engine. Its cursor follows a cursor of the scan, and for that one the walk over the MCUs stands as it is (AllMcus); what
-- is answered is what the rules answer, with a break told as the engine tells it (Ends).
use Prim.Native.Nat.{ℕ, ◌+◌, ◌≤◌, ◌<◌}
use mathlib.Core.Path.{◌≡◌, refl, ◌∙◌, ap}
use mathlib.Core.Bool.{Bool, true, false}
use mathlib.Core.List.{List}
use Rattle.std.specs.Int.{div_ceil}
use Rattle.std.specs.Prelude.{Result, Ok, Err}
use Rattle.reading.specs.declared.Bits.{Bits}
use Rattle.reading.specs.declared.Break.{Break}
use Rattle.reading.specs.declared.Fault.TheVariants.{Broken}
use Rattle.reading.specs.declared.Record.{Record}
use Rattle.reading.specs.declared.ScanCursor.{ScanCursor}
use Rattle.reading.specs.Code.Answers.{scan_read}
use Rattle.reading.specs.Code.Scans.{at_start, scan_of}
use Rattle.jpeg_scan_plan.specs.declared.Plan.{Plan}
use Rattle.jpeg_scan_plan.specs.Marks.{closes, broke_in}
use Rattle.jpeg_scan_plan.proofs.Standing.{Ready}
use Rattle.jpeg_scan_plan.proofs.Marks.{broke_first}
use Rattle.jpeg_engine.specs.Engines.{Follows}
use Rattle.jpeg_scan.specs.Steps.{Left, Went, WentBy, Told, Along, said_by}
use Rattle.jpeg_scan.proofs.AllMcus as mcus
use Rattle.jpeg_scan.proofs.Ends as ends

module _ {P : Type 0} (meets : Bits → P → Type 0) where
  -- before MCU m, or behind the last block: the cursor follows the scan's
  pub record Walk (s : List ℕ) (n : Plan) (write : Bool) (old new : List ℕ) (w : ScanCursor P) (m : ℕ) : Type 0 where
    pub here : ScanCursor Bits
    pub follows : Follows meets here w
    pub walk : mcus.Walk s n write old (at_start n.start) new here m

  pub begin :
      (s : List ℕ) (n : Plan) (write : Bool) (old : List ℕ) {w : ScanCursor P}
      → Follows meets (at_start n.start) w
      → Walk s n write old old w 0
  begin s n write old f = record { here = at_start n.start; follows = f; walk = mcus.begin s n write old (at_start n.start) refl }

  module _
      (says : Break → Break) {s : List ℕ} {n : Plan} {write : Bool} {old new : List ℕ} {w : ScanCursor P} {m : ℕ}
      (x : Walk s n write old new w m)
    where
      module _ {r : Record} (u : Ready s r n) where
        -- what is said of the scan, and what it leaves in the scratch
        abbrev Answered : Result (Unit {0}) Break → List ℕ → Type 0
        Answered a left = (a ≡ said_by says (scan_read (scan_of s r))) × Left write s r old left

        told : {a : Result (Unit {0}) Break} (left : List ℕ) → (a ≡ scan_read (scan_of s r)) × Left write s r old left → Answered (said_by says a) left
        told left h = (ap (said_by says) h.0, h.1)

        -- behind the last block
        module _ (h : div_ceil n.blocks n.per ≤ m) where
          pub ended : closes s x.here.bits ≡ true → Answered (Ok tt) new
          ended c = told _ (ends.ended u x.walk h c)

          pub unended : closes s x.here.bits ≡ false → {v : Break} → v ≡ says (broke_in x.here x.here Broken) → Answered (Err v) new
          unended c e =
              let is = told _ (ends.unended u x.walk h c) in
              (ap Err (e ∙ ap says (broke_first x.here x.here Broken refl)) ∙ is.0, is.1)

        -- MCU m
        module _ (h : m < div_ceil n.blocks n.per) where
          pub stopped : {v : Break} {new' : List ℕ} → WentBy meets says s n m w write new (Err v) new' → Answered (Err v) new'
          stopped {v} {new'} b = go y.told y.went y.along
            where
              y : Told meets says s n m x.here write new (Err v) new'
              y = b x.here x.follows

              go : (o : Result (ScanCursor Bits) Break) → Went s n m x.here write new o new' → Along {P = P} meets says o (Err v) → Answered (Err v) new'
              go (Ok q) g a = absurd a
              go (Err z) g a = let is = told _ (ends.stopped u x.walk h g) in (ap Err a ∙ is.0, is.1)

          pub onward : {c : ScanCursor P} {new' : List ℕ} → WentBy meets says s n m w write new (Ok c) new' → Walk s n write old new' c (m + 1)
          onward {c} {new'} b = go y.told y.went y.along
            where
              y : Told meets says s n m x.here write new (Ok c) new'
              y = b x.here x.follows

              go : (o : Result (ScanCursor Bits) Break) → Went s n m x.here write new o new' → Along {P = P} meets says o (Ok c) → Walk s n write old new' c (m + 1)
              go (Ok q) g a = record { here = q; follows = a; walk = ends.onward u x.walk h g }
              go (Err z) g a = absurd a

-- ---- what was answered by an engine, as the rules have it

module _ (says : Break → Break) where
  pub said_done : (x : Result (Unit {0}) Break) → Ok tt ≡ said_by says x → Ok tt ≡ x
  said_done (Ok _) e = refl
  said_done (Err w) e = absurd cc

  pub said_broken : (x : Result (Unit {0}) Break) {v : Break} → Err v ≡ said_by says x → (w : Break) × (Err w ≡ x) × (v ≡ says w)
  said_broken (Ok _) e = absurd cc
  said_broken (Err w) e = (w, refl, cc)
