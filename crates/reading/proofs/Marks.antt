-- A run of 255, and a marker in a scan: it is found, and reading goes on behind it, inside the bytes; or the scan is broken.
use Prim.Native.Nat.{ℕ, zero, suc, ◌+◌, ◌<◌, ◌≤◌}
use mathlib.Core.Path.{◌≡◌, refl, ap, ◌∙◌, subst⁻¹}
use mathlib.Core.Bool.{Bool, true, false, cond}
use mathlib.Core.List.{List}
use mathlib.Core.Option.{Option, none, some}
use native.Mathlib.Omega.{arith}
use lib.Dec.{eqb, ltb}
use lib.ListN.{length, get_or, get_elem?, drop, drop_of_length-le}
use lib.Seq.{drop-cons}
use borrow.Author.Tests.{eq-eqb, ne_eqb, eqb-true, lt-ltb}
use Rattle.reading.specs.declared.Bits.{Bits}
use Rattle.reading.specs.declared.Fault.TheVariants.{Broken}
use Rattle.reading.specs.Reader.{Read, got, fault, onward, rule}
use Rattle.reading.specs.Bits.{mark, fulls, padded, first_bit, file}
use Rattle.reading.specs.Scan.{closed}
use Rattle.reading.specs.Tests.{◌and◌, is_at, holds}
use Rattle.reading.proofs.FileBytes.{element_there}

abbrev nothing : Unit {0}
nothing = tt

-- ---- a run of 255

module _ (s : List ℕ) (i : ℕ) where
  pub fulls_out : length s ≤ i → fulls (drop i s) ≡ 0
  fulls_out h = ap fulls (drop_of_length-le s h)

  module _ (h : i < length s) where
    pub fulls_not : (get_or s i 0 ≡ 255 → ⊥) → fulls (drop i s) ≡ 0
    fulls_not n = ap fulls (drop-cons s i 0 h) ∙ rw (ne_eqb (get_or s i 0) 255 n)

    pub fulls_more : get_or s i 0 ≡ 255 → fulls (drop i s) ≡ suc (fulls (drop (suc i) s))
    fulls_more e = ap fulls (drop-cons s i 0 h) ∙ rw (eq-eqb (get_or s i 0) 255 e)

-- ---- a marker

-- what was looked for at a place: it is there, and reading goes on at `on`, or it is not
pub data Looked (s : List ℕ) (b : Bits) : Read Bits (Unit {0}) → Type 0 where
  found : (on : ℕ) → b.at + 2 ≤ on → on ≤ length s → Looked s b (got nothing (first_bit on))
  missed : Looked s b (fault Broken)

pub mark_looked : (s : List ℕ) (code : ℕ) (b : Bits) → Looked s b (mark s code b)
unfolding mark
mark_looked s code b = go (fulls (drop b.at s)) (padded b)
  where
    go : (n : ℕ) (x : Bool) → Looked s b (cond (x and ltb 0 n and is_at s (b.at + n) code) (got nothing (first_bit (b.at + n + 1))) (fault Broken))
    go n false = missed
    go zero true = missed
    go (suc n) true = rw (lt-ltb 0 (suc n) (omega arith)) (code_byte (get_elem? s (b.at + suc n)) refl)
      where
        code_byte : (o : Option ℕ) → get_elem? s (b.at + suc n) ≡ o → Looked s b (cond (holds o code) (got nothing (first_bit (b.at + suc n + 1))) (fault Broken))
        code_byte none e = missed
        code_byte (some z) e = test (eqb z code)
          where
            test : (t : Bool) → Looked s b (cond t (got nothing (first_bit (b.at + suc n + 1))) (fault Broken))
            test true = found (b.at + suc n + 1) (omega arith) (omega (arith, element_there s (b.at + suc n) z e))
            test false = missed

-- ---- the end

-- the bytes end behind the last marker, or the scan is broken
pub data Ended (s : List ℕ) (b : Bits) : Read Bits (Unit {0}) → Type 0 where
  ended : b.at + 2 ≤ length s → Ended s b (got nothing (first_bit (length s)))
  unended : Ended s b (fault Broken)

pub closed_ended : (s : List ℕ) (b : Bits) → Ended s b (closed (file s) b)
unfolding file
closed_ended s b = go (mark s 217 b) (mark_looked s 217 b)
  where
    go : (r : Read Bits (Unit {0})) → Looked s b r → Ended s b (onward r (λ _ c. rule (eqb c.at (length s)) c))
    go _ (found on h i) = test (eqb on (length s)) refl
      where
        test : (t : Bool) → eqb on (length s) ≡ t → Ended s b (rule t (first_bit on))
        test true e =
            let here : on ≡ length s = eqb-true on (length s) e in
            subst⁻¹ (λ k. Ended s b (got nothing (first_bit k))) here (ended (omega arith))
        test false e = unended
    go _ missed = unended
