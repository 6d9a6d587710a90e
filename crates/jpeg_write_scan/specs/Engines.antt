-- A pass by an engine. At every cursor of the scan that its cursor follows it writes what the rules write there; but of a break it may answer
-- less than the rules do.
use Rattle.std.specs.Prelude.{ℕ, ◌<◌, ◌^◌, ◌≡◌, List, take, Some, Result, Ok, Err}
use Rattle.reading.specs.declared.Bits.{Bits}
use Rattle.reading.specs.declared.Break.{Break}
use Rattle.reading.specs.declared.Record.{Record}
use Rattle.reading.specs.declared.ScanCursor.{ScanCursor}
use Rattle.reading.specs.declared.Unsettled.{Unsettled}
use Rattle.reading.specs.declared.Unsettled.TheVariants.{Lacking, Broke}
use Rattle.jpeg_scan_plan.specs.declared.Plan.{Plan}
use Rattle.jpeg_scan_plan.specs.Plans.{plan_for}
use Rattle.jpeg_engine.specs.Engines.{Follows}
use Rattle.jpeg_write_codes.specs.Sheets.{sheet}
use Rattle.jpeg_write_scan.specs.declared.Moved.{Moved}
use Rattle.jpeg_huffman_table.specs.Looks.{paired}
use Rattle.jpeg_write_scan.specs.Pass.{Went, Ran, Measures}

-- the plan is that of a record's scan, which can be read
abbrev pub Serves : List ℕ → Record → Plan → Type 0
Serves s r n = (Some n ≡ plan_for s r) × (r.blocks < 2 ^ 32)

-- the words of the scan's tables
abbrev pub Worded : List ℕ → Plan → List ℕ → Type 0
Worded s n ws = ws ≡ sheet (take n.start s) (paired n.dcs n.acs)

-- ---- what one MCU leaves

-- where a pass stands at a cursor of the scan, and where at one that follows it; of a break it is said what the engine says of breaks
abbrev pub Along : {P : Type 0} → (Bits → P → Type 0) → (Break → Break) → Result (Moved Bits) Break → Result (Moved P) Break → Type 0
Along meets says (Ok t) (Ok r) = Follows meets t.cursor r.cursor × (t.ink ≡ r.ink)
Along meets says (Ok t) (Err w) = ⊥
Along meets says (Err v) (Ok r) = ⊥
Along meets says (Err v) (Err w) = w ≡ says v

-- `told` is what the rules have there
pub record Passed
    {P : Type 0} (meets : Bits → P → Type 0) (says : Break → Break) (s : List ℕ) (n : Plan) (m : ℕ) (from : Moved Bits) (old : List ℕ)
    (r : Result (Moved P) Break) (new : List ℕ) : Type 0 where
  pub told : Result (Moved Bits) Break
  pub went : Went s n m from old told new
  pub along : Along meets says told r

-- some cursor of the scan is followed
pub record Followed {P : Type 0} (meets : Bits → P → Type 0) (c : ScanCursor P) : Type 0 where
  pub one : ScanCursor Bits
  pub follows : Follows meets one c

abbrev pub WentBy : {P : Type 0} → (Bits → P → Type 0) → (Break → Break) → List ℕ → Plan → ℕ → Moved P → List ℕ → Result (Moved P) Break → List ℕ → Type 0
WentBy meets says s n m before old r new =
    (q : ScanCursor Bits) → Follows meets q before.cursor → Passed meets says s n m (record { cursor = q; ink = before.ink }) old r new

-- ---- what a whole pass answers

-- an answer, in which a break is told as an engine says it
abbrev pub told_by : (Break → Break) → Result ℕ Unsettled → Result ℕ Unsettled
told_by says (Ok n) = Ok n
told_by says (Err Lacking) = Err Lacking
told_by says (Err (Broke w)) = Err (Broke (says w))

-- `told` is what the rules answer
pub record RanBy (says : Break → Break) (s : List ℕ) (n : Plan) (old : List ℕ) (r : Result ℕ Unsettled) (new : List ℕ) : Type 0 where
  pub told : Result ℕ Unsettled
  pub ran : Ran s n old told new
  pub same : r ≡ told_by says told

pub record MeasuresBy (says : Break → Break) (s : List ℕ) (n : Plan) (r : Result ℕ Unsettled) : Type 0 where
  pub told : Result ℕ Unsettled
  pub measured : Measures s n told
  pub same : r ≡ told_by says told
