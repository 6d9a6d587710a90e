-- The fast engine between the MCUs: where a scan starts, the restart before an MCU, the end, at any cursor of its own.
use Rattle.std.specs.Prelude.{List, Bool, false, cond, ℕ, ltb, Result, Ok, Err}
use Rattle.reading.specs.declared.Bits.{Bits}
use Rattle.reading.specs.declared.Fault.{Fault}
use Rattle.reading.specs.declared.Fault.TheVariants.{Broken}
use Rattle.reading.specs.declared.ScanCursor.{ScanCursor}
use Rattle.reading.specs.Layout.{due_before}
use Rattle.reading.specs.Scan.{no_predictors}
use Rattle.jpeg_scan_plan.specs.Marks.{closes, restarted}
use Rattle.jpeg_bits_wide.specs.declared.Wide.{Wide}
use Rattle.jpeg_bits_wide.specs.Cursor.{fresh, narrowed}

-- before the first block of a scan whose first coded byte is at a place
abbrev pub started : ℕ → ScanCursor Wide
started at = record { bits = fresh at; predictors = no_predictors; done = 0 }

-- the scan's cursor at the bit place of a wide one that has at most seven bits
abbrev pub narrowed_at : ScanCursor Wide → ScanCursor Bits
narrowed_at from = record { bits = narrowed from.bits; predictors = from.predictors; done = from.done }

-- the cursor behind a restart, by what was answered at the bit place: a marker leads to a fresh one
abbrev pub led_to : ScanCursor Wide → Result (ScanCursor Bits) Fault → Result (ScanCursor Wide) Fault
led_to from (Ok q) = Ok (record { bits = fresh q.bits.at; predictors = no_predictors; done = from.done })
led_to from (Err f) = Err f

-- before MCU m: where a restart is due, its marker, which is not next where eight bits or more are left
unfoldable pub restarted_wide : List ℕ → ℕ → ℕ → ScanCursor Wide → Result (ScanCursor Wide) Fault
unfolding restarted
restarted_wide s interval m from =
    cond (due_before interval m)
    (cond (ltb 7 from.bits.left) (Err Broken) (led_to from (restarted s interval m (narrowed_at from))))
    (Ok from)

-- whether a scan ends here
unfoldable pub ends_wide : List ℕ → Wide → Bool
unfolding closes
ends_wide s w = cond (ltb 7 w.left) false (closes s (narrowed w))
