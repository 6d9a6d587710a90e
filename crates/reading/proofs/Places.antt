-- What the layout is for the factors hs x vs and then 1 x 1: the blocks of an MCU, the channel of a block, and the places of the
-- first channel's samples and of the chroma channels'.
use Prim.Native.Nat.{ℕ, zero, suc, ◌+◌, ◌*◌, ◌-◌, ◌%◌, ◌<◌, ◌≤◌}
use mathlib.Core.Path.{◌≡◌, refl, ap, ap₂, ◌∙◌, subst⁻¹}
use mathlib.Core.Bool.{Bool, true, false, cond}
use native.Mathlib.Omega.{arith}
use native.Mathlib.Nat.{mod-lt, not-suc-le-zero}
use lib.Dec.{ltb}
use lib.ListN.{length, replicate, length-replicate}
use borrow.Author.Tests.{le-ltb, ltb-false}
use Rattle.reading.specs.Layout.{Shape, one_by_one, factors_of, ceiling, widest, highest, mcus_across, mcus_down, areas, per_mcu, block_count, output_length, channel_in, channel_of}

-- ---- n channels of 1 x 1

areas_ones : (n : ℕ) → areas (replicate n one_by_one) ≡ n
areas_ones zero = refl
areas_ones (suc n) = omega (arith, areas_ones n)

widest_ones : (n : ℕ) → widest (replicate n one_by_one) ≤ 1
widest_ones zero = omega arith
widest_ones (suc n) = omega (arith, widest_ones n)

highest_ones : (n : ℕ) → highest (replicate n one_by_one) ≤ 1
highest_ones zero = omega arith
highest_ones (suc n) = omega (arith, highest_ones n)

channel_ones : (n j : ℕ) → j < n → channel_in (replicate n one_by_one) j ≡ j
channel_ones zero j h = absurd (not-suc-le-zero h)
channel_ones (suc n) zero h = refl
channel_ones (suc n) (suc j) h =
    rw (le-ltb (suc j) 1 (omega arith)) (ap (λ i. suc (channel_in (replicate n one_by_one) i)) (less j) ∙ ap suc (channel_ones n j (omega arith)))
  where
    less : (j : ℕ) → suc j - 1 ≡ j
    less j = omega arith

-- ---- the instance

module _ (w h hs vs ch : ℕ) where
  abbrev pub shape : Shape
  shape = record { width = w; height = h; factors = factors_of hs vs ch }

  pub per_is : per_mcu shape ≡ hs * vs + (ch - 1)
  unfolding per_mcu
  per_is = ap (λ k. hs * vs + k) (areas_ones (ch - 1))

  pub widest_is : 0 < hs → widest (factors_of hs vs ch) ≡ hs
  widest_is p = omega (arith, widest_ones (ch - 1))

  pub highest_is : 0 < vs → highest (factors_of hs vs ch) ≡ vs
  highest_is p = omega (arith, highest_ones (ch - 1))

  pub across_is : 0 < hs → mcus_across shape ≡ ceiling w (8 * hs)
  across_is p = ap (λ k. ceiling w (8 * k)) (widest_is p)

  pub down_is : 0 < vs → mcus_down shape ≡ ceiling h (8 * vs)
  down_is p = ap (λ k. ceiling h (8 * k)) (highest_is p)

  pub count_is : 0 < hs → 0 < vs → block_count shape ≡ ceiling w (8 * hs) * ceiling h (8 * vs) * (hs * vs + (ch - 1))
  unfolding block_count
  count_is p q = ap₂ (λ (a b : ℕ). a * b * per_mcu shape) (across_is p) (down_is q) ∙ ap (λ k. ceiling w (8 * hs) * ceiling h (8 * vs) * k) per_is

  pub channels_are : 0 < ch → length (factors_of hs vs ch) ≡ ch
  channels_are p = omega (arith, length-replicate (ch - 1) one_by_one)

  pub output_is : 0 < ch → output_length shape ≡ w * h * ch
  unfolding output_length
  output_is p = ap (λ k. w * h * k) (channels_are p)

  -- block j of an MCU is the first channel's where j is below hs x vs, and then each is the next channel's
  pub channel_at : (j : ℕ) → j < hs * vs + (ch - 1) → channel_in (factors_of hs vs ch) j ≡ cond (ltb j (hs * vs)) 0 (j - hs * vs + 1)
  channel_at j p = go (ltb j (hs * vs)) refl
    where
      go : (b : Bool) → ltb j (hs * vs) ≡ b → channel_in (factors_of hs vs ch) j ≡ cond (ltb j (hs * vs)) 0 (j - hs * vs + 1)
      go true q = rw q refl
      go false q = rw q (ap suc (channel_ones (ch - 1) (j - hs * vs) (omega (arith, p, ltb-false j (hs * vs) q))) ∙ omega arith)

  pub channel_is : (k : ℕ) → 0 < hs * vs → channel_of shape k ≡ cond (ltb (k % (hs * vs + (ch - 1))) (hs * vs)) 0 (k % (hs * vs + (ch - 1)) - hs * vs + 1)
  unfolding channel_of
  channel_is k p = ap (λ n. channel_in (factors_of hs vs ch) (k % n)) per_is ∙ channel_at (k % (hs * vs + (ch - 1))) (mod-lt k (omega (arith, p)))

  -- the channel of a block is one of the picture's
  pub channel_in_lem : (k : ℕ) → 0 < ch → 0 < hs * vs → channel_of shape k < ch
  channel_in_lem k hc hl = subst⁻¹ (λ c. c < ch) (channel_is k hl) (go (ltb j (hs * vs)) refl)
    where
      j : ℕ
      j = k % (hs * vs + (ch - 1))

      below : j < hs * vs + (ch - 1)
      below = mod-lt k (omega (arith, hl))

      go : (b : Bool) → ltb j (hs * vs) ≡ b → cond (ltb j (hs * vs)) 0 (j - hs * vs + 1) < ch
      go true q = rw q hc
      go false q = rw q (omega (arith, below, hc, ltb-false j (hs * vs) q))
