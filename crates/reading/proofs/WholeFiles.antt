-- Demand 3 over files: of a file that settles, what holds of the file it settles to, by either colour choice.
use Prim.Native.Nat.{ℕ, ◌≤◌}
use mathlib.Core.Path.{◌≡◌, refl, sym, ap, ◌∙◌}
use mathlib.Core.Bool.{Bool, false}
use mathlib.Core.List.{List, []}
use mathlib.Core.Logic.{◌↔◌}
use mathlib.Core.Option.{Option, none, some}
use native.Mathlib.Omega.{arith}
use lib.Dec.{T}
use lib.IntN.{ℤ}
use lib.ListN.{length, take, drop, length-take}
use Rattle.reading.specs.declared.Record.{Record}
use Rattle.reading.specs.Bits.{fulls}
use Rattle.reading.specs.Scan.{plan_of}
use Rattle.reading.specs.Reading.{Reading, accepted, refused, reading, coefficients_of, block_samples, samples_of, picture_of}
use Rattle.reading.specs.Settled.{settled_file, some_lacks_end}
use Rattle.reading.specs.Files.{if_accepted, head_in, coefficients_in, samples_in, picture_in, settled_in, lacks_end_in}
use Rattle.reading.proofs.Written.{absurd_some, some_list}
use Rattle.reading.proofs.HeaderEnds.{header_within}
use Rattle.reading.proofs.FileBytes.{AllBytes}
use Rattle.reading.proofs.Choice.{recolour, reread, reading_choice}
use Rattle.reading.proofs.Demand3 as D
use Rattle.reading.proofs.Demand3.{Settles, taken_apart}
use Rattle.reading.proofs.OnePicture.{one_picture_one_scan}
use Rattle.reading.proofs.NoFill.{settled_single}
use Rattle.reading.proofs.WantOfCode as W

-- a file that settles is accepted with a record and levels
pub record Apart (s t : List ℕ) : Type 0 where
  pub found : Record
  pub blocks : List (List ℤ)
  pub does : Settles s found blocks t

pub apart : (s t : List ℕ) → settled_in s ≡ some t → Apart s t
apart s t h = go (reading s false) refl h
  where
    go : (x : Reading) → reading s false ≡ x → if_accepted (settled_file s) none x ≡ some t → Apart s t
    go (accepted r ls) e w = record { found = r; blocks = ls; does = record { taken = e; written = w } }
    go (refused x) e w = absurd (absurd_some t w)

-- what stands under an acceptance
pub accepted_so :
    {A : Type 0} (f : Record → List (List ℤ) → A) (d : A) (s : List ℕ) (c : Bool) (r : Record) (ls : List (List ℤ))
    → reading s c ≡ accepted r ls
    → if_accepted f d (reading s c) ≡ f r ls
accepted_so f d s c r ls e = ap (if_accepted f d) e

module _ (s t : List ℕ) (h : settled_in s ≡ some t) where
  a : Apart s t
  a = apart s t h

  module _ (r : Record) (ls : List (List ℤ)) (z : Settles s r ls t) where
    again : reading t false ≡ accepted r ls
    again = D.settled_accepted s r ls t z

    -- of the file and of the settled file, f of the same record and levels
    alike : {A : Type 0} (f g : Record → List (List ℤ) → A) (d : A) → f r ls ≡ g r ls → if_accepted f d (reading t false) ≡ if_accepted g d (reading s false)
    alike f g d e = accepted_so f d t false r ls again ∙ e ∙ sym (accepted_so g d s false r ls z.taken)

    reads_so : (colour : Bool) → reading t colour ≡ reading s colour
    reads_so colour = reading_choice colour false t ∙ ap (reread colour) (again ∙ sym z.taken) ∙ sym (reading_choice colour false s)

    chosen : (q : Reading) (colour : Bool) → reading s false ≡ q → reading s colour ≡ reread colour q
    chosen q colour e = reading_choice colour false s ∙ ap (reread colour) e

    samples_so : samples_of t r ls ≡ samples_of s r ls
    samples_so = ap block_samples (D.settled_coefficients s r ls t z)

    picture_so : (colour : Bool) → picture_in t colour ≡ picture_in s colour
    picture_so colour =
        ap (if_accepted (λ r ls. some (picture_of r (samples_of t r ls))) none) (reads_so colour ∙ chosen (accepted r ls) colour z.taken)
        ∙ ap (λ x. some (picture_of (recolour colour r) x)) samples_so
        ∙ sym (ap (if_accepted (λ r ls. some (picture_of r (samples_of s r ls))) none) (chosen (accepted r ls) colour z.taken))

  -- the settled file reads as the file does, with the same record
  pub reads_alike : (colour : Bool) → reading t colour ≡ reading s colour
  reads_alike = reads_so a.found a.blocks a.does

  pub head_alike : head_in t ≡ head_in s
  head_alike = alike a.found a.blocks a.does (λ r ls. some (take r.start t)) (λ r ls. some (take r.start s)) none (ap some (D.same_head s a.found a.blocks t a.does))

  pub coefficients_alike : coefficients_in t ≡ coefficients_in s
  coefficients_alike =
      alike a.found a.blocks a.does (λ r ls. some (coefficients_of t r ls)) (λ r ls. some (coefficients_of s r ls)) none
      (ap some (D.settled_coefficients s a.found a.blocks t a.does))

  pub samples_alike : samples_in t ≡ samples_in s
  samples_alike = alike a.found a.blocks a.does (λ r ls. some (samples_of t r ls)) (λ r ls. some (samples_of s r ls)) none (ap some (samples_so a.found a.blocks a.does))

  pub picture_alike : (colour : Bool) → picture_in t colour ≡ picture_in s colour
  picture_alike = picture_so a.found a.blocks a.does

  -- the samples of one reading, in both files
  pub samples_of_lem : (colour : Bool) (r : Record) (ls : List (List ℤ)) → reading s colour ≡ accepted r ls → samples_of t r ls ≡ samples_of s r ls
  samples_of_lem colour r ls e = samples_so (recolour false r) ls (record { taken = plain; written = kept })
    where
      plain : reading s false ≡ accepted (recolour false r) ls
      plain = reading_choice false colour s ∙ ap (reread false) e

      kept : settled_file s (recolour false r) ls ≡ some t
      kept = sym (accepted_so (settled_file s) none s false (recolour false r) ls plain) ∙ h

  -- from the first coded byte on no two 255 stand in a row
  pub no_fill : (r : Record) (ls : List (List ℤ)) → reading s false ≡ accepted r ls → (i : ℕ) → r.start ≤ i → fulls (drop i t) ≤ 1
  no_fill r ls e = settled_single s r ls t (record { taken = e; written = sym (accepted_so (settled_file s) none s false r ls e) ∙ h })

  -- settling again changes nothing
  pub settles_again : settled_in t ≡ some t
  settles_again =
      let z = D.settled_settles s a.found a.blocks t a.does in
      accepted_so (settled_file t) none t false a.found a.blocks z.taken ∙ z.written

-- ---- two files

list_in : Option (List (List ℤ)) → List (List ℤ)
list_in none = []
list_in (some l) = l

some_lists : {v w : List (List ℤ)} → some v ≡ some w → v ≡ w
unfolding list_in
some_lists p = ap (λ o. list_in o) p

module _ (s s' t t' : List ℕ) (h : settled_in s ≡ some t) (h' : settled_in s' ≡ some t') (e : head_in s ≡ head_in s') where
  first : Apart s t
  first = apart s t h

  second : Apart s' t'
  second = apart s' t' h'

  head_of : (s t : List ℕ) (a : Apart s t) → head_in s ≡ some (take a.found.start s)
  head_of s t a = accepted_so (λ r ls. some (take r.start s)) none s false a.found a.blocks a.does.taken

  coefficients_in_lem : (s t : List ℕ) (a : Apart s t) → coefficients_in s ≡ some (coefficients_of s a.found a.blocks)
  coefficients_in_lem s t a = accepted_so (λ r ls. some (coefficients_of s r ls)) none s false a.found a.blocks a.does.taken

  one_head : take first.found.start s ≡ take second.found.start s'
  one_head = some_list (sym (head_of s t first) ∙ e ∙ head_of s' t' second)

  -- one head has one length
  one_start : first.found.start ≡ second.found.start
  one_start =
      let p = header_within s false first.found (taken_apart s false first.found first.blocks first.does.taken).head in
      let q = header_within s' false second.found (taken_apart s' false second.found second.blocks second.does.taken).head in
      omega (arith, p, q, length-take first.found.start s, length-take second.found.start s', ap length one_head)

  -- of two files that settle and have one head, the settled files are equal exactly when the coefficients are
  pub equal_so : t ≡ t' ↔ coefficients_in s ≡ coefficients_in s'
  equal_so =
      let w = one_picture_one_scan s s' first.found second.found first.blocks second.blocks t t' first.does second.does one_start one_head in
      (λ x. coefficients_in_lem s t first ∙ ap some (w.0 x) ∙ sym (coefficients_in_lem s' t' second), λ x. w.1 (some_lists (sym (coefficients_in_lem s t first) ∙ x ∙ coefficients_in_lem s' t' second)))

-- ---- for want of a code

module _ (s : List ℕ) (y : AllBytes s) (r : Record) (ls : List (List ℤ)) (e : reading s false ≡ accepted r ls) where
  pub lacks_so : lacks_end_in s ≡ some_lacks_end (plan_of s r) 0 ls
  lacks_so = accepted_so (λ r ls. some_lacks_end (plan_of s r) 0 ls) false s false r ls e

  pub settled_so : settled_in s ≡ settled_file s r ls
  settled_so = accepted_so (settled_file s) none s false r ls e

  -- an accepted file does not settle exactly when some block lacks its end
  pub want_so : settled_in s ≡ none ↔ T (lacks_end_in s)
  want_so = rw (settled_so, lacks_so) (W.want_of_a_code s r ls y e)
