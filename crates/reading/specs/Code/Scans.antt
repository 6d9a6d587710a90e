-- A scan as the code reads and settles it: the cursor before its first block, and what is answered for a record that no header
-- gives.
-- It is here for the code: a contract of an inner function cites it, and nothing in it needs to be believed by someone who reads
-- the theorems of the calls.
use Rattle.std.specs.Prelude.{ℕ, ◌^◌, Bool, cond, List, leb, ltb, length, ℤ, Result, Ok, Err}
use Rattle.std.proofs.Math.Option.{Option, none, some}
use Rattle.reading.specs.declared.Bits.{Bits}
use Rattle.reading.specs.declared.Break.{Break}
use Rattle.reading.specs.declared.Fault.{Fault}
use Rattle.reading.specs.declared.Fault.TheVariants.{Broken}
use Rattle.reading.specs.declared.Record.{Record}
use Rattle.reading.specs.declared.ScanCursor.{ScanCursor}
use Rattle.reading.specs.declared.Refusal.{Refusal}
use Rattle.reading.specs.declared.Refusal.TheVariants.{NoEndCode, Scan}
use Rattle.reading.specs.declared.Unsettled.{Unsettled}
use Rattle.reading.specs.declared.Unsettled.TheVariants.{Lacking, Broke}
use Rattle.reading.specs.Tests.{◌and◌, over}
use Rattle.reading.specs.Code.Mcus.{sampled}
use Rattle.reading.specs.Bits.{first_bit}
use Rattle.reading.specs.Scan.{Plan, plan_of, no_predictors, Cursor, Scanned, whole, broke, levels}
use Rattle.reading.specs.Settled.{settled_scan}

-- a scan before its first block: the bit place, four predictors and the count of blocks done
abbrev pub at_start : ℕ → ScanCursor Bits
at_start at = record { bits = first_bit at; predictors = no_predictors; done = 0 }

-- the cursor of the rules
abbrev pub cursor_of : ScanCursor Bits → Cursor Bits
cursor_of q = record { bits = q.bits; predictors = q.predictors; done = q.done }

-- a fault in the turn that begins at a cursor
abbrev pub broke_at : ScanCursor Bits → Fault → Break
broke_at q f = record { fault = f; block = q.done; place = q.bits.at }

-- what is said of a scan that is not read
abbrev pub nowhere : Break
nowhere = record { fault = Broken; block = 0; place = 0 }

-- a record's numbers by which a scan can be read: the first coded byte lies within the file, and the sampling is one that a frame can have
unfoldable pub readable : List ℕ → Record → Bool
readable s r =
    leb r.start (length s) and sampled r.frame

-- the scan as the code reads it: a record with other numbers, which no header gives, is Broken
unfoldable pub scan_of : List ℕ → Record → Scanned Bits (List (List ℤ))
unfolding readable levels
scan_of s r = cond (readable s r) (levels s r) (broke nowhere)

-- a scan that was read, settled; none for want of a code
abbrev pub settled_read : Plan → Scanned Bits (List (List ℤ)) → Scanned Bits (Option (List ℕ))
settled_read p (whole ls b) = whole (settled_scan p ls) b
settled_read p (broke w) = broke w

-- a record's scan, read and settled as the code does it: a record with 2^32 blocks or more, which no header gives, is Broken
unfoldable pub settled_of : List ℕ → Record → Scanned Bits (Option (List ℕ))
unfolding scan_of settled_scan
settled_of s r = cond (ltb r.blocks (2 ^ 32)) (settled_read (plan_of s r) (scan_of s r)) (broke nowhere)

-- what is answered of it
unfoldable pub scan_settled : Scanned Bits (Option (List ℕ)) → Result ℕ Unsettled
scan_settled (whole none b) = Err Lacking
scan_settled (whole (some t) b) = Ok (length t)
scan_settled (broke w) = Err (Broke w)

-- the refusal of a file whose scan is not settled
abbrev pub refusal_of : Unsettled → Refusal
refusal_of Lacking = NoEndCode
refusal_of (Broke w) = Scan w

-- what lies in the buffer then: the settled scan over the old bytes where there is room for it, else the old bytes
unfoldable pub laid_over : Scanned Bits (Option (List ℕ)) → List ℕ → List ℕ
laid_over (whole none b) old = old
laid_over (whole (some t) b) old = cond (ltb (length old) (length t)) old (over t old)
laid_over (broke w) old = old
