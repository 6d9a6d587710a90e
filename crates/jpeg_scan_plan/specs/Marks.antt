-- The rules' markers as the code answers them: one that is looked for, the end of a scan, the restart before an MCU; and what a fault in an
-- MCU names.
use Rattle.std.specs.Prelude.{List, Bool, true, false, cond, ℕ, eqb, Option, Some, None, Result, Ok, Err}
use Rattle.reading.specs.declared.Bits.{Bits}
use Rattle.reading.specs.declared.Break.{Break}
use Rattle.reading.specs.declared.Fault.{Fault}
use Rattle.reading.specs.declared.Fault.TheVariants.{Broken}
use Rattle.reading.specs.declared.ScanCursor.{ScanCursor}
use Rattle.reading.specs.Reader.{Read, got, fault}
use Rattle.reading.specs.Bits.{mark, file, first_bit}
use Rattle.reading.specs.Layout.{due_before, restart_before}
use Rattle.reading.specs.Scan as scan
use Rattle.reading.specs.Code.Scans.{broke_at}

-- what was found, as the rules say it: the place behind a marker, or none
abbrev pub looked : Option ℕ → Read Bits (Unit {0})
looked None = fault Broken
looked (Some at) = got tt (first_bit at)

-- whether reading passes
abbrev pub passes : Read Bits (Unit {0}) → Bool
passes (got _ b) = true
passes (fault f) = false

-- whether a scan ends here
unfoldable pub closes : List ℕ → Bits → Bool
unfolding file
closes s b = passes (scan.closed (file s) b)

-- on behind the marker before an MCU: the predictors become 0
abbrev pub behind_marker : ScanCursor Bits → Read Bits (Unit {0}) → Result (ScanCursor Bits) Fault
behind_marker q (got _ b) = Ok (record { bits = b; predictors = scan.no_predictors; done = q.done })
behind_marker q (fault f) = Err f

-- before MCU m: where a restart is due, its marker
unfoldable pub restarted : List ℕ → ℕ → ℕ → ScanCursor Bits → Result (ScanCursor Bits) Fault
unfolding mark
restarted s interval m q =
    cond (due_before interval m)
    (behind_marker q (mark s (restart_before interval m) q.bits))
    (Ok q)

-- a fault in the MCU before which a scan stood at `before`, where the block that broke was to be read at `here`
unfoldable pub broke_in : ScanCursor Bits → ScanCursor Bits → Fault → Break
broke_in before here f = cond (eqb here.done before.done) (broke_at before f) (broke_at here f)
