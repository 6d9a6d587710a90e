-- What settle leaves: behind the tests before the scan the settled file of the record.
use mathlib.Core.Path.{◌≡◌, refl, sym, ap, ◌∙◌}
use mathlib.Core.Bool.{false}
use mathlib.Core.List.{List}
use Prim.Native.Nat.{ℕ, ◌^◌, ◌<◌}
use native.Mathlib.Omega.{arith}
use borrow.Author.Tests.{lt-ltb}
use lib.IntN.{ℤ}
use Rattle.reading.specs.declared.Bits.{Bits}
use Rattle.reading.specs.declared.Budget.{Budget}
use Rattle.reading.specs.declared.Limits.{Limits}
use Rattle.reading.specs.declared.Record.{Record}
use Rattle.reading.specs.declared.Refusal.{Refusal}
use Rattle.reading.specs.Scan.{Scanned, whole, broke}
use Rattle.reading.specs.Header.{done, header}
use Rattle.reading.specs.Scan.{levels, plan_of}
use Rattle.reading.specs.Code.Scans.{settled_read, settled_of}
use Rattle.reading.specs.Judging.{Judged, refuses, onward, give, unbroken}
use Rattle.reading.specs.Calls.{admission, Rewritten, unsettled, rewritten, settle}
use Rattle.reading.proofs.FileBytes.{AllBytes}
use Rattle.reading.proofs.Accepted as H
use Rattle.reading.proofs.Counted.{scan_is}
use Rattle.reading.proofs.States.{header_readable}
use Rattle.jpeg_settle.specs.Refiled.{refiled_by, refiled}
use Rattle.jpeg_settle.proofs.Refiling.{refiled_is}
use Rattle.reading.proofs.Judgement.{scan_behind}
use Rattle.reading.proofs.SettledCalls.{file_of}
use Rattle.jpeg_price.proofs.Admitted.{Goes}

-- ---- the settled scan of a record that the header gave

module _ (s : List ℕ) (y : AllBytes s) (r : Record) (head : header s false ≡ done r) where
  few : r.blocks < 2 ^ 30
  few = H.blocks_below false r (H.header_accepted false s y r head)

  settled_is : settled_of s r ≡ settled_read (plan_of s r) (levels s r)
  unfolding settled_of
  settled_is = rw (lt-ltb r.blocks (2 ^ 32) (omega (arith, few))) (ap (settled_read (plan_of s r)) (scan_is s r (header_readable s y false r head)))

-- ---- settle

-- the answer behind the tests before the scan
abbrev answer : List ℕ → List ℕ → Judged Record → Rewritten
answer s out m = rewritten out (onward (onward m (scan_behind s)) (file_of s))

module _ (s : List ℕ) (l : Limits) (budget : Budget) (out : List ℕ) {rest : Budget} where
  pub settle_stops : {x : Refusal} → admission s false l budget ≡ refuses x rest → unsettled x rest 0 out ≡ settle s l budget out
  unfolding settle
  settle_stops z = sym (ap (answer s out) z)

  module _ {r : Record} where
    pub settle_goes : AllBytes s → Goes s false l budget r rest → refiled s r rest out ≡ settle s l budget out
    unfolding settle
    settle_goes y z =
        refiled_is s r (omega (arith, z.counted)) rest out ∙ ap (refiled_by s r rest out) (settled_is s y r z.head) ∙ go (levels s r)
        ∙ sym (ap (answer s out) z.is)
      where
        go :
            (x : Scanned Bits (List (List ℤ)))
            → refiled_by s r rest out (settled_read (plan_of s r) x) ≡ rewritten out (onward (onward (unbroken x rest) (λ ls. give (record { found = r; blocks = ls }))) (file_of s))
        go (whole ls b) = refl
        go (broke f) = refl
