-- What decode's payment says of the budget: where it refuses, the payment does; where it accepts, the payment leaves what it leaves.
use Rattle.std.proofs.Common.{◌≡◌, refl, sym, ap, ℕ, ◌+◌, ◌*◌}
use Rattle.reading.specs.declared.Budget.{Budget}
use Rattle.reading.specs.declared.Decoding.{Decoding}
use Rattle.reading.specs.declared.Refusal.{Refusal}
use Rattle.reading.specs.declared.Refusal.TheVariants.{OverBudget}
use Rattle.reading.specs.Judging.{Judged, accepts, refuses, pay}
use Rattle.jpeg_price.specs.Charge.{answered, charged}

-- a payment is all that is answered of it
same_payment : (m k : Judged (Unit {0})) → answered m ≡ answered k → k ≡ m
same_payment m k e = go m k (ap (λ (d : Decoding). d.verdict) e) (ap (λ (d : Decoding). d.budget) e)
  where
    go : (m k : Judged (Unit {0})) → (answered m).verdict ≡ (answered k).verdict → (answered m).budget ≡ (answered k).budget → k ≡ m
    go (accepts a left) (accepts b rest) v l = ap (accepts tt) (sym l)
    go (accepts a left) (refuses y rest) v l = cc
    go (refuses x left) (accepts b rest) v l = cc
    go (refuses x left) (refuses y rest) v l = let same : x ≡ y = cc in rw (same, l) refl

module _ (n work : ℕ) (budget left : Budget) where
  pub uncharged : {x : Refusal} → answered (refuses x left) ≡ charged n work budget → pay (2 * n + 1 + work) OverBudget budget ≡ refuses x left
  unfolding charged
  uncharged {x} e = same_payment (refuses x left) (pay (2 * n + 1 + work) OverBudget budget) e

  pub charges : answered (accepts tt left) ≡ charged n work budget → pay (2 * n + 1 + work) OverBudget budget ≡ accepts tt left
  unfolding charged
  charges e = same_payment (accepts tt left) (pay (2 * n + 1 + work) OverBudget budget) e
