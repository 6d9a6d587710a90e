-- The steps in which a scan is read: the blocks from a cursor on, the blocks of an MCU; and what is left in the scratch.
use Rattle.std.specs.Prelude.{◌≡◌, List, [], ◌∷◌, ◌++◌, Bool, true, false, ℕ, zero, suc, ◌+◌, ◌*◌, ◌-◌, min, length, get_or, set, take, drop, ℤ, pos, Some, Result, Ok, Err}
use Rattle.reading.specs.declared.Bits.{Bits}
use Rattle.reading.specs.declared.Break.{Break}
use Rattle.reading.specs.declared.Record.{Record}
use Rattle.reading.specs.declared.ScanCursor.{ScanCursor}
use Rattle.reading.specs.Tests.{over}
use Rattle.reading.specs.Bits.{Source, file}
use Rattle.reading.specs.Block.{block}
use Rattle.reading.specs.Layout.{Shape, channel_of}
use Rattle.reading.specs.Scan as scan
use Rattle.reading.specs.Scan.{Cursor, Scanned, whole, broke, here, onwards}
use Rattle.reading.specs.Code.Scans.{cursor_of, scan_of}
use Rattle.reading.specs.Tables.{shape_of, quantizers_of}
use Rattle.reading.specs.Code.Answers.{scan_read}
use Rattle.reading.specs.Code.Painted.{drawn}
use Rattle.reading.specs.Reading.{dequantized, block_samples, samples_of}
use Rattle.jpeg_scan_plan.specs.declared.Plan.{Plan}
use Rattle.jpeg_scan_plan.specs.Plans.{plan_for, Stands, Quantizes}
use Rattle.jpeg_engine.specs.Engines.{Follows}

-- ---- the blocks from a cursor on

-- n more blocks from the cursor q on, the restart before the first of them done; `turn` is the cursor before it, which a fault in the first
-- block names
abbrev pub begun : {S : Type 0} → Source S → scan.Plan → ℕ → Cursor S → Cursor S → Scanned (Cursor S) (List (List ℤ))
begun src p zero turn q = whole [] q
begun src p (suc n) turn q =
    let c = channel_of p.shape q.done in
    let ch = p.channels c in
    onwards (here src turn (block src.next ch.dc ch.ac (get_or q.predictors c (pos 0)) q.bits)) (λ l s.
    onwards (scan.read_on src p n (record { bits = s; predictors = set q.predictors c (get_or l 0 (pos 0)); done = suc q.done })) (λ ls e. whole (l ∷ ls) e))

-- the blocks from a cursor on, of n blocks in all
unfoldable pub ahead : List ℕ → scan.Plan → ℕ → ScanCursor Bits → Scanned (Cursor Bits) (List (List ℤ))
unfolding file
ahead s p n q = scan.read_on (file s) p (n - q.done) (cursor_of q)

-- the same, the restart before the first of them done
unfoldable pub resumed : List ℕ → scan.Plan → ℕ → ScanCursor Bits → ScanCursor Bits → Scanned (Cursor Bits) (List (List ℤ))
unfolding file
resumed s p n turn q = begun (file s) p (n - q.done) (cursor_of turn) (cursor_of q)

-- blocks that were read, put before those that are read
unfoldable pub before : List (List ℤ) → Scanned (Cursor Bits) (List (List ℤ)) → Scanned (Cursor Bits) (List (List ℤ))
before ls (whole ms e) = whole (ls ++ ms) e
before ls (broke w) = broke w

-- ---- the scratch

-- bytes put at a place
unfoldable pub placed : ℕ → List ℕ → List ℕ → List ℕ
placed a new old = take a old ++ (new ++ drop (a + length new) old)

-- the scratch behind the blocks ls, which start at block k: each block's samples at its own part, where they are written
unfoldable pub inked : Bool → Shape → (ℕ → List ℕ) → ℕ → List (List ℤ) → List ℕ → List ℕ
unfolding placed
inked false p quant k ls old = old
inked true p quant k ls old = placed (64 * k) (block_samples (dequantized p quant k ls)) old

-- ---- what an MCU leaves

-- it was read, from the cursor before its restart on: as many blocks as an MCU has, or as are left
pub record Passed (s : List ℕ) (p : scan.Plan) (n : Plan) (from q : ScanCursor Bits) (write : Bool) (old new : List ℕ) : Type 0 where
  pub levels : List (List ℤ)
  pub count : length levels ≡ min n.per (n.blocks - from.done)
  pub place : q.done ≡ from.done + length levels
  pub same : ahead s p n.blocks from ≡ before levels (ahead s p n.blocks q)
  pub here : (quant : ℕ → List ℕ) → Quantizes (take n.start s) n quant → new ≡ inked write p.shape quant from.done levels old

-- or the scan broke in it
abbrev pub Behind : List ℕ → scan.Plan → Plan → ScanCursor Bits → Bool → List ℕ → Result (ScanCursor Bits) Break → List ℕ → Type 0
Behind s p n from write old (Ok q) new = Passed s p n from q write old new
Behind s p n from write old (Err w) new = (ahead s p n.blocks from ≡ broke w) × (write ≡ false → new ≡ old)

-- for every plan of the rules that the numbers stand for, where MCU m starts at the cursor; behind the last block none is left to read
pub record Went
    (s : List ℕ) (n : Plan) (m : ℕ) (from : ScanCursor Bits) (write : Bool) (old : List ℕ)
    (r : Result (ScanCursor Bits) Break) (new : List ℕ) : Type 0 where
  pub size : length new ≡ length old
  pub each :
      (p : scan.Plan)
      → Stands (take n.start s) n p
      → from.done ≡ m * n.per
      → Behind s p n from write old r new

-- ---- by an engine

-- where a scan stands at a cursor, and where at one that follows it; of a break it is said what the engine says of breaks
abbrev pub Along : {P : Type 0} → (Bits → P → Type 0) → (Break → Break) → Result (ScanCursor Bits) Break → Result (ScanCursor P) Break → Type 0
Along meets says (Ok q) (Ok c) = Follows meets q c
Along meets says (Ok q) (Err w) = ⊥
Along meets says (Err v) (Ok c) = ⊥
Along meets says (Err v) (Err w) = w ≡ says v

-- `told` is what the rules have there
pub record Told
    {P : Type 0} (meets : Bits → P → Type 0) (says : Break → Break) (s : List ℕ) (n : Plan) (m : ℕ) (from : ScanCursor Bits) (write : Bool)
    (old : List ℕ) (r : Result (ScanCursor P) Break) (new : List ℕ) : Type 0 where
  pub told : Result (ScanCursor Bits) Break
  pub went : Went s n m from write old told new
  pub along : Along meets says told r

-- MCU m, at every cursor that is followed there
abbrev pub WentBy :
    {P : Type 0} → (Bits → P → Type 0) → (Break → Break) → List ℕ → Plan → ℕ → ScanCursor P → Bool → List ℕ → Result (ScanCursor P) Break
    → List ℕ → Type 0
WentBy meets says s n m before write old r new =
    (q : ScanCursor Bits) → Follows meets q before → Told meets says s n m q write old r new

-- ---- a whole scan

-- what a whole scan leaves in the scratch: without samples the scratch as it was; with them, of an accepted scan, its samples
-- and then the old tail
abbrev pub Left : Bool → List ℕ → Record → List ℕ → List ℕ → Type 0
Left false s r old new = new ≡ old
Left true s r old new =
    (ls : List (List ℤ)) (b : Bits) → scan_of s r ≡ whole ls b → new ≡ over (samples_of s r ls) old

-- and what is left where it is read twice, so that a fault writes nothing
abbrev pub drawn_for : List ℕ → Record → List ℕ → List ℕ
drawn_for s r old = drawn (shape_of r.frame) (quantizers_of s r) r.blocks (scan_of s r) old

-- an answer, in which a break is told as an engine says it
abbrev pub said_by : (Break → Break) → Result (Unit {0}) Break → Result (Unit {0}) Break
said_by says (Ok x) = Ok x
said_by says (Err w) = Err (says w)

-- what is answered of the scan of each record that has the plan, and what is left
abbrev pub ReadBy : (Break → Break) → List ℕ → Plan → Bool → List ℕ → Result (Unit {0}) Break → List ℕ → Type 0
ReadBy says s n write old r new =
    (found : Record) → Some n ≡ plan_for s found → (r ≡ said_by says (scan_read (scan_of s found))) × Left write s found old new
