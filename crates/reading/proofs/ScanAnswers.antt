-- What is answered of a scan, by what was read, and back; and what a scan leaves in the scratch.
use mathlib.Core.List.{List}
use mathlib.Core.Path.{◌≡◌, refl}
use Prim.Native.Nat.{ℕ, ◌*◌, ◌<◌, ◌≤◌}
use native.Mathlib.Nat.{suc-ne-zero}
use lib.ListN.{length}
use lib.IntN.{ℤ}
use borrow.Author.Tests.{lt-ltb, le-ltb}
use Rattle.reading.specs.declared.Bits.{Bits}
use Rattle.reading.specs.declared.Break.{Break}
use Rattle.std.specs.declared.result.Result.{Result}
use Rattle.std.specs.declared.result.Result.TheVariants.{Ok, Err}
use Rattle.reading.specs.Tests.{over}
use Rattle.reading.specs.Layout.{Shape}
use Rattle.reading.specs.Scan.{Scanned, whole, broke}
use Rattle.reading.specs.Code.Answers.{scan_read}
use Rattle.reading.specs.Reading.{all_samples}
use Rattle.reading.specs.Code.Painted.{drawn}

-- ---- the answer

pub answer_done : {o : Scanned Bits (List (List ℤ))} {ls : List (List ℤ)} {b : Bits} → o ≡ whole ls b → Ok tt ≡ scan_read o
unfolding scan_read
answer_done e = rw e

pub answer_stop : {o : Scanned Bits (List (List ℤ))} {w : Break} → o ≡ broke w → Err w ≡ scan_read o
unfolding scan_read
answer_stop e = rw e

-- ---- an answer, back to what was read

pub record Accepted (o : Scanned Bits (List (List ℤ))) : Type 0 where
  pub blocks_read : List (List ℤ)
  pub behind : Bits
  pub is : o ≡ whole blocks_read behind

pub accepted : (o : Scanned Bits (List (List ℤ))) {x : Result (Unit {0}) Break} → x ≡ scan_read o → x ≡ Ok tt → Accepted o
unfolding scan_read
accepted (whole ls b) e h = record { blocks_read = ls; behind = b; is = refl }
accepted (broke w) e h = absurd (suc-ne-zero 0 cc)

pub refused : (o : Scanned Bits (List (List ℤ))) {x : Result (Unit {0}) Break} {w : Break} → x ≡ scan_read o → x ≡ Err w → o ≡ broke w
unfolding scan_read
refused (whole ls b) e h = absurd (suc-ne-zero 0 cc)
refused (broke g) e h = cc

-- ---- what a scan is said to leave in the scratch

module _ (p : Shape) (quant : ℕ → List ℕ) (n : ℕ) (old : List ℕ) {o : Scanned Bits (List (List ℤ))} where
  pub drawn_stop : {w : Break} → o ≡ broke w → old ≡ drawn p quant n o old
  unfolding drawn
  drawn_stop e = rw e

  pub drawn_short : Accepted o → length old < 64 * n → old ≡ drawn p quant n o old
  unfolding drawn
  drawn_short a h = rw (a.is, lt-ltb (length old) (64 * n) h)

  pub drawn_all : (a : Accepted o) → 64 * n ≤ length old → over (all_samples p quant a.blocks_read) old ≡ drawn p quant n o old
  unfolding drawn
  drawn_all a h = rw (a.is, le-ltb (length old) (64 * n) h)
