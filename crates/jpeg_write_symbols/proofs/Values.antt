-- What stands for a level: the first by its difference from the prediction.
use Prim.Native.Nat.{ℕ, zero, suc}
use mathlib.Core.Path.{◌≡◌, refl}
use mathlib.Core.List.{List}
use lib.IntN.{ℤ, pos, ◌-ℤ◌}
use lib.ListN.{get_or}
use Rattle.jpeg_write_symbols.specs.Turns.{value_at}

module _ (l : List ℤ) (p : ℤ) where
  pub value_first : (k : ℕ) → k ≡ 0 → get_or l k (pos 0) -ℤ p ≡ value_at l p k
  unfolding value_at
  value_first k e = rw e

  pub value_later : (k : ℕ) → (k ≡ 0 → ⊥) → get_or l k (pos 0) ≡ value_at l p k
  unfolding value_at
  value_later zero e = absurd (e refl)
  value_later (suc k) e = refl
