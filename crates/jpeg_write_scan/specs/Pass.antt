-- A pass over a scan: it is read from a cursor on, and what is read is written from a pen on, until a code is wanting.
use Rattle.std.specs.Prelude.{ℕ, suc, ◌+◌, ◌*◌, ◌-◌, min, ◌≡◌, Bool, true, false, List, [], ◌∷◌, ℤ, pos, length, get_or, set, take, Option, Some, None, Result, Ok, Err}
use Rattle.std.proofs.Math.Option as math
use Rattle.std.proofs.Math.Option.{none, some}
use Rattle.reading.specs.declared.Bits.{Bits}
use Rattle.reading.specs.declared.Break.{Break}
use Rattle.reading.specs.declared.ScanCursor.{ScanCursor}
use Rattle.reading.specs.declared.Unsettled.{Unsettled}
use Rattle.reading.specs.declared.Unsettled.TheVariants.{Lacking, Broke}
use Rattle.reading.specs.Reader.{onward, give}
use Rattle.reading.specs.Bits.{file}
use Rattle.reading.specs.Layout.{channel_of}
use Rattle.reading.specs.Scan as scan
use Rattle.reading.specs.Scan.{Cursor, Scanned, whole, broke, here}
use Rattle.reading.specs.Code.Scans.{at_start, scan_settled}
use Rattle.reading.specs.Settled.{Coded, onto, block_bits, written}
use Rattle.jpeg_scan_plan.specs.declared.Plan.{Plan}
use Rattle.jpeg_scan_plan.specs.Plans.{Stands}
use Rattle.jpeg_scan.specs.Steps.{ahead, resumed}
use Rattle.jpeg_write_scan.specs.declared.Moved.{Moved}
use Rattle.jpeg_write_bits.specs.declared.Pen.{Pen}
use Rattle.jpeg_write_bits.specs.Page.{Spot, page, fresh, Proper}
use Rattle.jpeg_write_scan.specs.Join.{final_at}

-- ---- what is written

-- where writing a part of a scan ends that follows; after the want of a code there is none
unfoldable pub final_by : Option Pen → List ℕ → math.Option Coded → math.Option Spot
unfolding final_at
final_by (Some p) out r = final_at r (page out p)
final_by None out r = none

abbrev pub Fit : Option Pen → Type 0
Fit (Some p) = Proper p
Fit None = Unit {0}

-- something was put before whatever follows
pub record Moves (put : math.Option Coded → math.Option Coded) (ink : Option Pen) (old : List ℕ) (r : Option Pen) (new : List ℕ) : Type 0 where
  pub fit : Fit r
  pub same : (rest : math.Option Coded) → final_by ink old (put rest) ≡ final_by r new rest

-- the last marker behind all blocks
abbrev pub last_part : Coded
last_part = record { bits = []; after = 255 ∷ 217 ∷ [] }

-- what is answered where writing ended, with the bytes that are left
abbrev pub ended_at : math.Option Spot → Result ℕ Unsettled → List ℕ → Type 0
ended_at none r new = r ≡ Err Lacking
ended_at (some t) r new = (r ≡ Ok t.place) × (new ≡ t.bytes)

pub record Closes (o : math.Option Spot) (r : Result ℕ Unsettled) (new : List ℕ) : Type 0 where
  pub told : ended_at o r new

-- ---- what is read, and written

-- what is made of the blocks that were read
unfoldable pub settling : (List (List ℤ) → math.Option Spot) → Scanned (Cursor Bits) (List (List ℤ)) → Scanned (Cursor Bits) (math.Option Spot)
settling f (whole ls q) = whole (f ls) q
settling f (broke w) = broke w

-- block k and the blocks behind it, the restart before it done
abbrev pub written_on : scan.Plan → ℕ → List ℤ → List (List ℤ) → math.Option Coded
written_on p k ps [] = written p k ps []
written_on p k ps (l ∷ ls) =
    let c = channel_of p.shape k in
    onto (block_bits (p.channels c) (get_or ps c (pos 0)) l) (written p (suc k) (set ps c (get_or l 0 (pos 0))) ls)

-- the blocks from a cursor on, of n in all, read and written
unfoldable pub coming : List ℕ → scan.Plan → ℕ → ScanCursor Bits → Option Pen → List ℕ → Scanned (Cursor Bits) (math.Option Spot)
unfolding settling ahead final_by
coming s p n q ink out = settling (λ ls. final_by ink out (written p q.done q.predictors ls)) (ahead s p n q)

-- the same, the restart before the first of them done; `turn` is the cursor before it
unfoldable pub resuming : List ℕ → scan.Plan → ℕ → ScanCursor Bits → ScanCursor Bits → Option Pen → List ℕ → Scanned (Cursor Bits) (math.Option Spot)
unfolding settling resumed final_by
resuming s p n turn q ink out = settling (λ ls. final_by ink out (written_on p q.done q.predictors ls)) (resumed s p n turn q)

-- ---- what one MCU leaves

-- how many blocks an MCU has, behind those that are done: as many as any, or as are left of the scan
abbrev pub blocks_at : Plan → ℕ → ℕ
blocks_at n done = min n.per (n.blocks - done)

-- it is passed, or the scan breaks in it
abbrev pub Onward : Plan → ScanCursor Bits → Result (Moved Bits) Break → Type 0
Onward n from (Ok r) = Fit r.ink × (r.cursor.done ≡ from.done + blocks_at n from.done)
Onward n from (Err w) = Unit {0}

abbrev pub Behind : List ℕ → scan.Plan → Plan → Moved Bits → List ℕ → Result (Moved Bits) Break → List ℕ → Type 0
Behind s p n from old (Ok r) new = coming s p n.blocks from.cursor from.ink old ≡ coming s p n.blocks r.cursor r.ink new
Behind s p n from old (Err w) new = coming s p n.blocks from.cursor from.ink old ≡ broke w

-- for every plan of the rules that the numbers stand for, where MCU m starts at the cursor; behind the last block none is left to pass
pub record Went (s : List ℕ) (n : Plan) (m : ℕ) (from : Moved Bits) (old : List ℕ) (r : Result (Moved Bits) Break) (new : List ℕ) : Type 0 where
  pub size : length new ≡ length old
  pub on : Onward n from.cursor r
  pub each : (p : scan.Plan) → Stands (take n.start s) n p → from.cursor.done ≡ m * n.per → Behind s p n from old r new

-- ---- what a whole pass answers

-- behind the last block stands the end of the file
abbrev pub closing : List ℕ → Scanned (Cursor Bits) (math.Option Spot) → Scanned Bits (math.Option Spot)
closing s (whole o q) = here (file s) q (onward (scan.closed (file s) q.bits) (λ _. give o))
closing s (broke w) = broke w

abbrev pub Answers : Scanned Bits (math.Option Spot) → Result ℕ Unsettled → List ℕ → Type 0
Answers (whole o b) r new = ended_at o r new
Answers (broke w) r new = r ≡ Err (Broke w)

-- a scan from its first coded byte on, written at the start of a buffer
pub record Ran (s : List ℕ) (n : Plan) (old : List ℕ) (r : Result ℕ Unsettled) (new : List ℕ) : Type 0 where
  pub size : length new ≡ length old
  pub each : (p : scan.Plan) → Stands (take n.start s) n p → Answers (closing s (coming s p n.blocks (at_start n.start) (Some (fresh 0)) old)) r new

-- the answer alone, whatever lies in the buffer
pub record Measures (s : List ℕ) (n : Plan) (r : Result ℕ Unsettled) : Type 0 where
  pub old : List ℕ
  pub new : List ℕ
  pub ran : Ran s n old r new

-- ---- what is known before a scan is written

-- of a scan that is sure to be written, where it was accepted, that it fits; of any other what it comes to
unfoldable pub foretold : Bool → ℕ → Scanned Bits (math.Option (List ℕ)) → Result ℕ Unsettled
unfolding scan_settled
foretold true room (whole t b) = Ok room
foretold true room (broke w) = Err (Broke w)
foretold false room o = scan_settled o
