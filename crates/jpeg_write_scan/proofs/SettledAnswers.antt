-- What a pass answers is what the definition says of a record's scan: so what is measured is what is written.
use Prim.Native.Nat.{ℕ, ◌+◌, ◌<◌, ◌≤◌, ◌^◌}
use mathlib.Core.Path.{◌≡◌, refl, sym, ap, ◌∙◌, subst}
use mathlib.Core.Bool.{Bool, true, false}
use mathlib.Core.List.{List, [], ◌++◌}
use mathlib.Core.Option as math
use mathlib.Core.Option.{none, some}
use Rattle.std.specs.Prelude.{Option, Some, None, Result, Ok, Err}
use Rattle.std.specs.Option.{ok_or}
use native.Mathlib.Nat.{zero-add, suc-ne-zero}
use native.Mathlib.Omega.{arith}
use lib.IntN.{ℤ}
use lib.ListN.{length, drop}
use lib.Seq.{sets, sets-eq}
use borrow.Author.Tests.{lt-ltb, le-ltb}
use Rattle.reading.specs.declared.Bits.{Bits}
use Rattle.reading.specs.declared.Break.{Break}
use Rattle.reading.specs.declared.ScanCursor.{ScanCursor}
use Rattle.reading.specs.declared.Record.{Record}
use Rattle.reading.specs.declared.Unsettled.{Unsettled}
use Rattle.reading.specs.declared.Unsettled.TheVariants.{Broke}
use Rattle.reading.specs.Bits.{file, first_bit}
use Rattle.reading.specs.Reader.{Read, onward, give}
use Rattle.reading.specs.Scan as scan
use Rattle.reading.specs.Scan.{Cursor, Scanned, whole, broke, here}
use Rattle.reading.specs.Code.Scans.{at_start, cursor_of, nowhere, scan_of, settled_read, settled_of, scan_settled, laid_over}
use Rattle.reading.specs.Settled.{written, settled_scan}
use Rattle.jpeg_scan_plan.specs.declared.Plan.{Plan}
use Rattle.jpeg_scan.specs.Steps.{ahead}
use Rattle.jpeg_scan_plan.specs.Plans.{plan_for}
use Rattle.jpeg_scan_plan.proofs.Standing.{Ready, unready}
use Rattle.jpeg_scan.proofs.Ends.{scan_stop, scan_done, scan_open}
use Rattle.jpeg_scan_plan.specs.Marks.{closes}
use Rattle.jpeg_scan_plan.proofs.Marks.{end_there, end_not}
use Rattle.reading.proofs.Counted.{scan_levels}
use Rattle.jpeg_write_bits.specs.Page.{Spot, spot, bytes_at, fresh}
use Rattle.jpeg_write_scan.specs.Join.{scan_at}
use Rattle.jpeg_write_scan.specs.Pass.{final_by, ended_at, settling, coming, closing, Answers, Ran, Measures}
use Rattle.jpeg_write_scan.proofs.Forwards.{final_scan}
use Rattle.jpeg_write_scan.proofs.Lengths.{settled_laid}

-- a settled scan, or none, put at the start of a buffer
abbrev put : List ℕ → Scanned Bits (math.Option (List ℕ)) → Scanned Bits (math.Option Spot)
put old (whole t b) = whole (scan_at (spot old 0) t) b
put old (broke w) = broke w

-- what a pass over such a scan answers and leaves
abbrev Fills : Scanned Bits (math.Option (List ℕ)) → List ℕ → List ℕ → Type 0
Fills (whole none b) old new = Unit {0}
Fills (whole (some t) b) old new = new ≡ sets old 0 t
Fills (broke w) old new = Unit {0}

pub record Passed (o : Scanned Bits (math.Option (List ℕ))) (old : List ℕ) (x : Result ℕ Unsettled) (new : List ℕ) : Type 0 where
  pub says : x ≡ scan_settled o
  pub fills : Fills o old new

-- ---- a pass

module _ {s : List ℕ} {r : Record} {n : Plan} (u : Ready s r n) (few : r.blocks < 2 ^ 32) where
  abbrev plan : scan.Plan
  plan = scan.plan_of s r

  from_start : (old : List ℕ) → closing s (coming s plan r.blocks (at_start r.start) (Some (fresh 0)) old) ≡ put old (settled_read plan (scan_of s r))
  unfolding coming settling final_by settled_scan
  from_start old = go (ahead s plan r.blocks (at_start r.start)) refl
    where
      bytes : List (List ℤ) → math.Option Spot
      bytes ls = final_by (Some (fresh 0)) old (written (scan.plan_of s r) 0 scan.no_predictors ls)

      ending : List (List ℤ) → ScanCursor Bits → Read Bits (Unit {0}) → Scanned Bits (math.Option Spot)
      ending ls q x = here (file s) (cursor_of q) (onward x (λ _. give (bytes ls)))

      close : (ls : List (List ℤ)) (q : ScanCursor Bits) → ahead s (scan.plan_of s r) r.blocks (at_start r.start) ≡ whole ls (cursor_of q) → (t : Bool) → closes s q.bits ≡ t
          → ending ls q (scan.closed (file s) q.bits) ≡ put old (settled_read (scan.plan_of s r) (scan_of s r))
      close ls q e true h =
          ap (ending ls q) (end_there s q.bits h)
          ∙ ap (λ (x : math.Option Spot). whole x (first_bit (length s))) (final_scan old 0 (written (scan.plan_of s r) 0 scan.no_predictors ls))
          ∙ sym (ap (λ (o : Scanned Bits (List (List ℤ))). put old (settled_read (scan.plan_of s r) o)) (scan_done s r u.readable_is e h))
      close ls q e false h =
          ap (ending ls q) (end_not s q.bits h)
          ∙ sym (ap (λ (o : Scanned Bits (List (List ℤ))). put old (settled_read (scan.plan_of s r) o)) (scan_open s r u.readable_is e h))

      go :
          (o : Scanned (Cursor Bits) (List (List ℤ)))
          → ahead s (scan.plan_of s r) r.blocks (at_start r.start) ≡ o
          → closing s (settling bytes o) ≡ put old (settled_read (scan.plan_of s r) (scan_of s r))
      go (whole ls q) e = close ls (record { bits = q.bits; predictors = q.predictors; done = q.done }) e (closes s q.bits) refl
      go (broke w) e = sym (ap (λ (o : Scanned Bits (List (List ℤ))). put old (settled_read (scan.plan_of s r) o)) (scan_stop s r u.readable_is e))

  -- as the pass says it
  told_so : {old new : List ℕ} {x : Result ℕ Unsettled} → Ran s n old x new → Answers (put old (settled_read plan (scan_of s r))) x new
  told_so {old} {new} {x} a =
      subst (λ (o : Scanned Bits (math.Option Spot)). Answers o x new)
      (ap (λ (k : Plan). closing s (coming s plan k.blocks (at_start k.start) (Some (fresh 0)) old)) u.plan_is ∙ from_start old)
      (a.each plan u.numbers)

  passed : {old new : List ℕ} {x : Result ℕ Unsettled} → Ran s n old x new → Passed (settled_read plan (scan_of s r)) old x new
  unfolding scan_settled
  passed {old} {new} {x} a = go (scan_of s r) refl (told_so a)
    where
      all_of :
          (ls : List (List ℤ)) (b : Bits)
          → scan_of s r ≡ whole ls b
          → (w : math.Option (List ℕ))
          → settled_scan (scan.plan_of s r) ls ≡ w
          → ended_at (scan_at (spot old 0) w) x new
          → Passed (whole w b) old x new
      all_of ls b e none f h = record { says = h; fills = tt }
      all_of ls b e (some t) f h =
          let laid : bytes_at (spot old 0) t ≡ spot (sets old 0 t) (0 + length t) = settled_laid s r ls b t (scan_levels s r e) f old 0 (omega arith) (omega arith) in
          record {
            says = h.0 ∙ ap (λ (y : Spot). Ok y.place) laid ∙ ap Ok (zero-add (length t));
            fills = h.1 ∙ ap (λ (y : Spot). y.bytes) laid;
          }

      go : (o : Scanned Bits (List (List ℤ))) → scan_of s r ≡ o → Answers (put old (settled_read (scan.plan_of s r) o)) x new → Passed (settled_read (scan.plan_of s r) o) old x new
      go (whole ls b) e h = all_of ls b e (settled_scan (scan.plan_of s r) ls) refl h
      go (broke w) e h = record { says = h; fills = tt }

  pub settled_is : settled_of s r ≡ settled_read plan (scan_of s r)
  unfolding settled_of
  settled_is = rw (lt-ltb r.blocks (2 ^ 32) few) refl

  pub passed_settled : {old new : List ℕ} {x : Result ℕ Unsettled} → Ran s n old x new → Passed (settled_of s r) old x new
  passed_settled {old} {new} {x} a = subst (λ (o : Scanned Bits (math.Option (List ℕ))). Passed o old x new) (sym settled_is) (passed a)

  pub measured_settled : {x : Result ℕ Unsettled} → Measures s n x → x ≡ scan_settled (settled_of s r)
  measured_settled m = (passed_settled m.ran).says

-- ---- the answer and the buffer

module _ {o : Scanned Bits (math.Option (List ℕ))} (old : List ℕ) where
  pub says_stop : {w : Break} → o ≡ broke w → (Err (Broke w) ≡ scan_settled o) × (old ≡ laid_over o old)
  unfolding scan_settled laid_over
  says_stop {w} e = subst (λ (y : Scanned Bits (math.Option (List ℕ))). (Err (Broke w) ≡ scan_settled y) × (old ≡ laid_over y old)) (sym e) (refl, refl)

-- where nothing is written
pub stays_err : (o : Scanned Bits (math.Option (List ℕ))) (old : List ℕ) {x : Result ℕ Unsettled} {u : Unsettled} → x ≡ scan_settled o → x ≡ Err u → old ≡ laid_over o old
unfolding scan_settled laid_over
stays_err (whole none b) old e g = refl
stays_err (whole (some t) b) old e g = absurd (suc-ne-zero 0 cc)
stays_err (broke w) old e g = refl

pub stays_short : (o : Scanned Bits (math.Option (List ℕ))) (old : List ℕ) {x : Result ℕ Unsettled} {n : ℕ} → x ≡ scan_settled o → x ≡ Ok n → length old < n → old ≡ laid_over o old
unfolding scan_settled laid_over
stays_short (whole none b) old e g h = refl
stays_short (whole (some t) b) old {x} {n} e g h =
    let same : n ≡ length t = cc in
    rw (lt-ltb (length old) (length t) (omega arith)) refl
stays_short (broke w) old e g h = refl

pub writes_all : (o : Scanned Bits (math.Option (List ℕ))) (old : List ℕ) {x : Result ℕ Unsettled} {n : ℕ} → x ≡ scan_settled o → x ≡ Ok n → n ≤ length old
    → {y : Result ℕ Unsettled} {new : List ℕ} → Passed o old y new → new ≡ laid_over o old
unfolding scan_settled laid_over
writes_all (whole none b) old e g h a = absurd (suc-ne-zero 0 cc)
writes_all (whole (some t) b) old {x} {n} e g h {y} {new} a =
    let same : n ≡ length t = cc in
    let room : length t ≤ length old = omega arith in
    a.fills ∙ sets-eq t old 0 (omega arith) ∙ ap (λ (k : ℕ). t ++ drop k old) (zero-add (length t)) ∙ rw (le-ltb (length old) (length t) room) refl
writes_all (broke w) old e g h a = absurd (suc-ne-zero 0 cc)

-- ---- records that no scan is read by

pub settled_many : (s : List ℕ) (r : Record) → 2 ^ 32 ≤ r.blocks → settled_of s r ≡ broke nowhere
unfolding settled_of
settled_many s r h = rw (le-ltb r.blocks (2 ^ 32) h) refl

-- the answer where a scan has too many blocks, and that nothing is written
pub many_says : (s : List ℕ) (r : Record) → 2 ^ 32 ≤ r.blocks → scan_settled (settled_of s r) ≡ Err (Broke nowhere)
many_says s r h = sym (says_stop [] (settled_many s r h)).0

pub many_stays : (s : List ℕ) (r : Record) (old : List ℕ) → 2 ^ 32 ≤ r.blocks → laid_over (settled_of s r) old ≡ old
many_stays s r old h = sym (says_stop old (settled_many s r h)).1

pub settled_unread : (s : List ℕ) (r : Record) → r.blocks < 2 ^ 32 → scan_of s r ≡ broke nowhere → settled_of s r ≡ broke nowhere
unfolding settled_of
settled_unread s r h e = rw (lt-ltb r.blocks (2 ^ 32) h) (ap (settled_read (scan.plan_of s r)) e)

-- where a record has no plan
pub settled_unplanned : (s : List ℕ) (r : Record) (o : Option Plan) {w v : Break} → r.blocks < 2 ^ 32 → o ≡ plan_for s r → v ≡ nowhere
    → Err w ≡ ok_or o v → settled_of s r ≡ broke w
settled_unplanned s r None {w} {v} h e n x = let same : w ≡ v = cc in settled_unread s r h (unready s r e) ∙ ap broke (sym (same ∙ n))
settled_unplanned s r (Some p) h e n x = absurd cc
