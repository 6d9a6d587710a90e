-- Levels that are known to be zero from a place on.
use Prim.Native.Nat.{ℕ, zero, suc, ◌+◌, ◌-◌, ◌≤◌}
use mathlib.Core.Path.{◌≡◌, refl, sym, ap, ◌∙◌, subst⁻¹}
use mathlib.Core.List.{List, [], ◌∷◌}
use native.Mathlib.Omega.{arith}
use lib.IntN.{ℤ, pos, nat_abs}
use lib.ListN.{length, get_or, drop, length-drop}
use lib.Seq.{get_or-drop}
use borrow.Author.Tests.{eq-eqb}
use Rattle.reading.specs.Code.Places.{places}
use Rattle.reading.proofs.Reach.{places_some, places_zero}
use Rattle.jpeg_write_symbols.specs.Turns.{zeros_of, zeros_at}
use Rattle.jpeg_write_scan.specs.Steps.{Quiet}

all_zero : (l : List ℤ) → ((i : ℕ) → get_or l i (pos 0) ≡ pos 0) → length l ≡ zeros_of l
unfolding zeros_of
all_zero [] h = refl
all_zero (v ∷ l) h = rw (eq-eqb (nat_abs v) 0 (ap nat_abs (h 0))) (ap suc (all_zero l (λ i. h (suc i))))

-- behind the last level that is not zero all the others are counted
pub zeros_quiet : (l : List ℤ) (place reach : ℕ) → Quiet reach l → reach ≤ place → length l - place ≡ zeros_at l place
unfolding zeros_at
zeros_quiet l zero reach q h = let some = q.some in let z : ⊥ = omega arith in absurd z
zeros_quiet l (suc k) reach q h =
    sym (length-drop (suc k) l)
    ∙ all_zero (drop (suc k) l) (λ i. get_or-drop (suc k) l i (pos 0) ∙ q.each (suc k + i) (omega arith))

-- levels are quiet behind the places that they reach
pub quiet_levels : {l levels : List ℤ} {k : ℕ} → levels ≡ l → k ≡ places l → Quiet k levels
quiet_levels {l} {levels} {k} e g =
    subst⁻¹ (λ (m : List ℤ). Quiet k m) e (subst⁻¹ (λ (n : ℕ). Quiet n l) g (record { some = places_some l; each = places_zero l }))
