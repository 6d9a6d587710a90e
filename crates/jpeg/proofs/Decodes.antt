-- What decode answers and leaves, one law for each way through its tests, in their order.
use mathlib.Core.Path.{◌≡◌, refl, sym, ap, ◌∙◌, subst⁻¹}
use mathlib.Core.Bool.{true, false}
use mathlib.Core.List.{List}
use Prim.Native.Nat.{ℕ, ◌+◌, ◌≤◌}
use borrow.Author.Tests.{ltb-false}
use lib.Dec.{T, ltb}
use lib.IntN.{ℤ}
use lib.ListN.{length}
use Rattle.reading.specs.declared.Bits.{Bits}
use Rattle.reading.specs.declared.Budget.{Budget}
use Rattle.reading.specs.declared.Break.{Break}
use Rattle.reading.specs.declared.Record.{Record}
use Rattle.reading.specs.declared.Refusal.{Refusal}
use Rattle.reading.specs.declared.Refusal.TheVariants.{OverBudget, ShortRoom, NotItsRecord}
use Rattle.reading.specs.Scan.{Scanned, whole, broke}
use Rattle.reading.specs.Scan.{levels}
use Rattle.reading.specs.Reading.{accepted, scanned, reading, samples_of}
use Rattle.reading.specs.Judging.{Judged, accepts, refuses, onward, pay}
use Rattle.reading.specs.Calls.{header_price, same, short_room, its_levels, Decoded, undecoded, decoded_with, decoded, decode}
use Rattle.reading.proofs.Equal.{records_equal}
use Rattle.reading.proofs.HeaderEnds.{or_left, or_right}
use Rattle.jpeg.specs.Steps.{drawn_as, file_drawn}

-- ---- room

module _ (r : Record) (out scratch : List ℕ) (e : short_room r out scratch ≡ false) where
  pub roomy_out : r.output ≤ length out
  roomy_out = ltb-false (length out) r.output (or_left (ltb (length out) r.output) (ltb (length scratch) r.scratch) e)

  pub roomy_scratch : r.scratch ≤ length scratch
  roomy_scratch = ltb-false (length scratch) r.scratch (or_right (ltb (length out) r.output) (ltb (length scratch) r.scratch) e)

-- ---- 7 and 2

module _ (s : List ℕ) (r : Record) (out scratch : List ℕ) (budget : Budget) where
  pub decode_room : short_room r out scratch ≡ true → undecoded ShortRoom budget out scratch ≡ decode s r out scratch budget
  unfolding decode
  decode_room e = rw e refl

  module _ (e1 : short_room r out scratch ≡ false) where
    -- behind the payment
    abbrev behind : Judged (Unit {0}) → Decoded
    behind m = decoded s r out scratch (onward m (λ _. its_levels r (reading s r.colour)))

    decode_on : behind (pay (header_price s + r.work) OverBudget budget) ≡ decode s r out scratch budget
    unfolding decode
    decode_on = rw e1 refl

    pub decode_poor :
        (x : Refusal) (rest : Budget)
        → pay (header_price s + r.work) OverBudget budget ≡ refuses x rest
        → undecoded x rest out scratch ≡ decode s r out scratch budget
    decode_poor x rest p = sym (ap behind p) ∙ decode_on

    -- what is drawn behind the price is what decode leaves
    pub decode_paid :
        (rest : Budget)
        → pay (header_price s + r.work) OverBudget budget ≡ accepts tt rest
        → file_drawn s r out scratch rest ≡ decode s r out scratch budget
    unfolding file_drawn
    decode_paid rest p = sym (ap behind p) ∙ decode_on

-- ---- behind the header

module _ (s : List ℕ) (q r : Record) (out scratch : List ℕ) (rest : Budget) where
  pub drawn_other : same q r ≡ false → undecoded NotItsRecord rest out scratch ≡ drawn_as s q r out scratch rest
  unfolding drawn_as
  drawn_other n = go (levels s q)
    where
      go : (x : Scanned Bits (List (List ℤ))) → undecoded NotItsRecord rest out scratch ≡ decoded s r out scratch (its_levels r (scanned q x) rest)
      go (whole ls b) = rw n refl
      go (broke f) = refl

  module _ (e : same q r ≡ true) where
    itself : q ≡ r
    itself = records_equal q r (subst⁻¹ T e tt)

    pub drawn_fault : (f : Break) → levels s r ≡ broke f → undecoded NotItsRecord rest out scratch ≡ drawn_as s q r out scratch rest
    unfolding drawn_as
    drawn_fault f p = sym (ap (λ x. decoded s r out scratch (its_levels r (scanned q x) rest)) (ap (levels s) itself ∙ p))

    pub drawn_done : (ls : List (List ℤ)) (b : Bits) → levels s r ≡ whole ls b → decoded_with r out scratch rest (samples_of s r ls) ≡ drawn_as s q r out scratch rest
    unfolding drawn_as
    drawn_done ls b p = with_it ∙ sym (ap (λ x. decoded s r out scratch (its_levels r (scanned q x) rest)) (ap (levels s) itself ∙ p))
      where
        with_it : decoded_with r out scratch rest (samples_of s r ls) ≡ decoded s r out scratch (its_levels r (accepted q ls) rest)
        with_it = rw e refl
