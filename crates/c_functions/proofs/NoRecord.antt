-- Numbers that are no record's are refused as a record that is not the file's: the record that decode is asked with then has no channels,
-- and the record of an accepted header has at least one.
use Prim.Native.Nat.{ℕ, ◌+◌, ◌<◌}
use mathlib.Core.Path.{◌≡◌, refl, ap}
use mathlib.Core.Bool.{Bool, true, false, cond}
use mathlib.Core.List.{List}
use native.Mathlib.Omega.{arith}
use borrow.Author.Tests.{lt-ltb, le-ltb, ne_eqb, ltb-true, ltb-false}
use lib.Dec.{ltb, eqb}
use lib.ListN.{length}
use lib.IntN.{ℤ}
use Rattle.reading.specs.declared.Record.{Record}
use Rattle.reading.specs.declared.Budget.{Budget}
use Rattle.reading.specs.declared.Refusal.TheVariants.{OverBudget, ShortRoom, NotItsRecord}
use Rattle.reading.specs.declared.Bits.{Bits}
use Rattle.reading.specs.Tests.{◌and◌, ◌or◌}
use Rattle.reading.specs.Scan.{Scanned, whole, broke}
use Rattle.reading.specs.Header.{Stage, more, done, stop, header, no_record}
use Rattle.reading.specs.Scan.{levels}
use Rattle.reading.specs.Reading.{scanned, read_from, reading}
use Rattle.reading.specs.Judging.{Judged, accepts, refuses, Judging, onward, ◌>>◌, refuse, refuse_if, pay, remaining}
use Rattle.reading.specs.Calls.{same, same_frame, its_levels, undecoded, Decoded, decoded, decode, header_price}
use Rattle.reading.proofs.FileBytes.{AllBytes}
use Rattle.reading.proofs.Plain.{and_false}
use Rattle.reading.proofs.Accepted.{header_accepted}
use Rattle.c_record.specs.declared.FlatRecord.{FlatRecord}
use Rattle.c_record.specs.Asked.{channelless, asked}
use Rattle.c_functions.specs.Flat.{not_its_record, decode_flat}

and_first : (a b : Bool) → a ≡ false → (a and b) ≡ false
and_first a b e = rw e refl

-- a record without channels is not equal to one with channels
other : (q : Record) (f : FlatRecord) → eqb q.frame.channels 0 ≡ false → same q (channelless f) ≡ false
unfolding same
other q f e =
    let g = q.frame in
    and_first (same_frame g (channelless f).frame) _
    (and_false (eqb g.width f.width) _ (and_false (eqb g.height f.height) _ (and_first (eqb g.channels 0) _ e)))

some : (n : ℕ) → 0 < n → eqb n 0 ≡ false
some n p = ne_eqb n 0 (λ e. omega (arith, p, e))

module _ (s : List ℕ) (y : AllBytes s) (f : FlatRecord) (out scratch : List ℕ) where
  -- whatever is read, it is not the file's record
  refused_so : (rest : Budget) (st : Stage) → header s (eqb f.colour 1) ≡ st → its_levels (channelless f) (read_from s st) rest ≡ refuses NotItsRecord rest
  refused_so rest (more h) e = refl
  refused_so rest (stop x) e = refl
  refused_so rest (done q) e = by (levels s q)
    where
      by : (l : Scanned Bits (List (List ℤ))) → its_levels (channelless f) (scanned q l) rest ≡ refuses NotItsRecord rest
      by (broke x) = refl
      by (whole ls b) = rw (other q f (some q.frame.channels (header_accepted (eqb f.colour 1) s y q e).frame.sampling.some)) refl

  channelless_decodes : (budget : Budget) → decode s (channelless f) out scratch budget ≡ not_its_record s f out scratch budget
  unfolding decode
  channelless_decodes budget = room (ltb (length out) f.output or ltb (length scratch) f.scratch)
    where
      due : ℕ
      due = header_price s + f.work

      rest : Budget
      rest = remaining budget due

      its : Judging (List (List ℤ))
      its = its_levels (channelless f) (reading s (eqb f.colour 1))

      -- the answer for the record without channels, and the one for no record
      ours : Judged (List (List ℤ)) → Decoded
      ours = decoded s (channelless f) out scratch

      theirs : Judged (List (List ℤ)) → Decoded
      theirs = decoded s no_record out scratch

      last : ours (its rest) ≡ undecoded NotItsRecord rest out scratch
      last = ap (decoded s (channelless f) out scratch) (refused_so rest (header s (eqb f.colour 1)) refl)

      paid : Bool → Judged (Unit {0})
      paid t = cond t (refuses OverBudget budget) (accepts tt rest)

      price : (t : Bool) → ours (onward (paid t) (λ _. its)) ≡ theirs (onward (paid t) (λ _. refuse NotItsRecord))
      price true = refl
      price false = last

      tested : Bool → Judged (Unit {0})
      tested t = refuse_if t ShortRoom budget

      room : (t : Bool) → ours (onward (tested t) (λ _. pay due OverBudget >> its)) ≡ theirs (onward (tested t) (λ _. pay due OverBudget >> refuse NotItsRecord))
      room true = refl
      room false = price (ltb budget.left due)

  -- what the code decodes by gives what the numbers are to give
  pub asked_decodes : (budget : Budget) → decode s (asked f) out scratch budget ≡ decode_flat s f out scratch budget
  unfolding decode_flat
  asked_decodes budget = by (ltb 1 f.colour) refl
    where
      by : (t : Bool) → ltb 1 f.colour ≡ t → decode s (asked f) out scratch budget ≡ decode_flat s f out scratch budget
      by true e = rw (e, le-ltb f.colour 2 (ltb-true 1 f.colour e)) (channelless_decodes budget)
      by false e = rw (e, lt-ltb f.colour 2 (below f.colour e)) refl
        where
          below : (n : ℕ) → ltb 1 n ≡ false → n < 2
          below n e = omega (arith, ltb-false 1 n e)
