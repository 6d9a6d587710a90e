-- The list that has a number for each channel, with each of its numbers changed alike.
use Prim.Native.Nat.{ℕ, zero, suc}
use mathlib.Core.Path.{◌≡◌, refl, ap₂}
use mathlib.Core.Bool.{Bool, true, false, cond}
use mathlib.Core.List.{List, ◌∷◌, map}
use lib.Dec.{ltb}
use Rattle.reading.specs.Header.{each_from, each}

module _ (g : ℕ → ℕ) where
  -- a list of the channels, where 0 stays 0
  map_from : g 0 ≡ 0 → (f : ℕ → ℕ) (n i ch : ℕ) → map g (each_from n i ch f) ≡ each_from n i ch (λ c. g (f c))
  map_from e f zero i ch = refl
  map_from e f (suc n) i ch = ap₂ (λ (x : ℕ) (l : List ℕ). x ∷ l) (go (ltb i ch)) (map_from e f n (suc i) ch)
    where
      go : (t : Bool) → g (cond t (f i) 0) ≡ cond t (g (f i)) 0
      go true = refl
      go false = e

  pub map_each : g 0 ≡ 0 → (ch : ℕ) (f : ℕ → ℕ) → map g (each ch f) ≡ each ch (λ c. g (f c))
  map_each e ch f = map_from e f 4 0 ch
