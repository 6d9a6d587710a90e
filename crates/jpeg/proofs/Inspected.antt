-- What inspect answers, one law for each way behind its tests before the scan.
use mathlib.Core.Path.{◌≡◌, refl, sym, ap, ◌∙◌}
use mathlib.Core.Bool.{Bool, true}
use mathlib.Core.List.{List}
use Prim.Native.Nat.{ℕ}
use lib.IntN.{ℤ}
use Rattle.reading.specs.declared.Bits.{Bits}
use Rattle.reading.specs.declared.Budget.{Budget}
use Rattle.reading.specs.declared.Break.{Break}
use Rattle.reading.specs.declared.Inspection.{Inspection}
use Rattle.reading.specs.declared.Limits.{Limits}
use Rattle.reading.specs.declared.Record.{Record}
use Rattle.reading.specs.declared.Refusal.{Refusal}
use Rattle.reading.specs.declared.Refusal.TheVariants.{Scan}
use Rattle.std.specs.declared.result.Result.TheVariants.{Ok, Err}
use Rattle.reading.specs.Code.Answers.{scan_read}
use Rattle.reading.specs.Scan.{Scanned}
use Rattle.reading.specs.Scan.{levels}
use Rattle.reading.specs.Code.Scans.{readable, scan_of}
use Rattle.reading.specs.Judging.{Judged, accepts, refuses, onward, give, unbroken}
use Rattle.reading.specs.Calls.{admission, inspection, inspect}
use Rattle.reading.proofs.FileBytes.{AllBytes}
use Rattle.reading.proofs.ScanAnswers as E
use Rattle.reading.proofs.Counted.{scan_is}
use Rattle.reading.proofs.States.{header_readable}
use Rattle.reading.proofs.Judgement.{scan_behind, found_in}
use Rattle.jpeg_price.proofs.Admitted.{Goes}

-- the answer behind the tests before the scan, and behind the scan
abbrev answer : List ℕ → Judged Record → Inspection
answer s m = found_in (onward m (scan_behind s))

abbrev read : Record → Budget → Scanned Bits (List (List ℤ)) → Inspection
read r rest o = found_in (onward (unbroken o rest) (λ ls. give (record { found = r; blocks = ls })))

module _ (s : List ℕ) (colour : Bool) (l : Limits) (budget : Budget) {rest : Budget} where
  pub inspect_stops : {x : Refusal} → admission s colour l budget ≡ refuses x rest → inspection (refuses x rest) ≡ inspect s colour l budget
  unfolding inspect
  inspect_stops z = sym (ap (answer s) z)

  module _ {r : Record} (z : Goes s colour l budget r rest) (y : AllBytes s) where
    okay : readable s r ≡ true
    okay = header_readable s y colour r z.head

    by_scan : read r rest (levels s r) ≡ inspect s colour l budget
    unfolding inspect
    by_scan = sym (ap (answer s) z.is)

    pub inspect_fault : {f : Break} → Err f ≡ scan_read (scan_of s r) → inspection (refuses (Scan f) rest) ≡ inspect s colour l budget
    inspect_fault e = sym (ap (read r rest) (sym (scan_is s r okay) ∙ E.refused (scan_of s r) e refl)) ∙ by_scan

    pub inspect_done : Ok tt ≡ scan_read (scan_of s r) → inspection (accepts r rest) ≡ inspect s colour l budget
    inspect_done e = sym (ap (read r rest) (sym (scan_is s r okay) ∙ (E.accepted (scan_of s r) e refl).is)) ∙ by_scan
