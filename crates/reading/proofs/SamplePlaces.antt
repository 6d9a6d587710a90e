-- Where the samples of the channels stand for the factors hs x vs and then 1 x 1, in the rules' words: sample (x, y) of channel 0
-- is in its block at (x mod 8, y mod 8), chroma is at ((x mod 8hs)/hs, (y mod 8vs)/vs), rounded down; and each place is one of
-- the block samples'.
use Prim.Native.Nat.{ℕ, zero, suc, ◌+◌, ◌*◌, ◌-◌, ◌/◌, ◌%◌, ◌<◌, ◌≤◌}
use mathlib.Core.Path.{◌≡◌, refl, ap, ap₂, ◌∙◌}
use native.Mathlib.Omega.{arith}
use native.Mathlib.Nat.{dvd-mul_right, mod-lt, mod-mod_of_dvd, mul-div_cancel, mul-one, div-add-mod', div-lt_iff_lt-mul, mul-le-mul_right, not-suc-le-zero}
use mathlib.Core.List.{List, ◌∷◌}
use lib.ListN.{get_or, take, replicate}
use Rattle.reading.specs.declared.Frame.{Frame}
use Rattle.reading.specs.Tables.{factors_from, shape_of}
use Rattle.reading.specs.Words.{Sampled, OldLayout}
use Rattle.reading.specs.Layout.{Shape, Factors, one_by_one, factors_of, ceiling, areas, per_mcu, block_count, factors_at, before, scaled, sample_at}
use Rattle.reading.proofs.Places.{shape, per_is, widest_is, highest_is, count_is}

-- ---- one channel's place in an MCU

-- the channel with the largest factor has a sample for each pixel
scaled_largest : (place factor : ℕ) → 0 < factor → scaled place factor factor ≡ place % (8 * factor)
scaled_largest place factor h = mul-div_cancel (place % (8 * factor)) h

scaled_one : (place largest : ℕ) → scaled place 1 largest ≡ place % (8 * largest) / largest
scaled_one place largest = rw mul-one

-- of eight blocks' width every channel has 8 samples for one block
pub chroma_below : (place largest : ℕ) → 0 < largest → place % (8 * largest) / largest < 8
chroma_below place largest h = (div-lt_iff_lt-mul h).1 (mod-lt place (omega arith))

-- of the largest factor's blocks
pub block_below : (place factor : ℕ) → 0 < factor → place % (8 * factor) / 8 < factor
block_below place factor h =
    let below : place % (8 * factor) < 8 * factor = mod-lt place (omega arith) in
    omega arith

-- the channels behind the first have one block each
ones_at : (n c : ℕ) → c < n → get_or (replicate n one_by_one) c one_by_one ≡ one_by_one
ones_at zero c l = refl
ones_at (suc n) zero l = refl
ones_at (suc n) (suc c) l = ones_at n c (omega arith)

ones_before : (n c : ℕ) → c < n → areas (take c (replicate n one_by_one)) ≡ c
ones_before n zero l = refl
ones_before zero (suc c) l = absurd (not-suc-le-zero l)
ones_before (suc n) (suc c) l = omega (arith, ones_before n c (omega arith))

-- ---- the instance

-- a place below a side is in one of the MCUs along it
ceiling_above : (x w b : ℕ) → x < w → 0 < b → x / b < ceiling w b
ceiling_above x w b l p = (div-lt_iff_lt-mul p).1 (omega (arith, div-add-mod' (w + (b - 1)) b, mod-lt (w + (b - 1)) p))

-- a place in an MCU, in its block
pub mod_eight : (place factor : ℕ) → place % (8 * factor) % 8 ≡ place % 8
mod_eight place factor = mod-mod_of_dvd 8 place (dvd-mul_right 8 factor)

module _ (w h hs vs ch : ℕ) (hp : 0 < hs) (vp : 0 < vs) where
  -- the MCU of a pixel, counted row by row
  mcu : ℕ → ℕ → ℕ
  mcu x y = y / (8 * vs) * ceiling w (8 * hs) + x / (8 * hs)

  -- the place of a sample of a channel with the factors f, behind n blocks of its MCU
  placed : Factors → ℕ → ℕ → ℕ → ℕ → ℕ → ℕ
  placed f n a b x y =
      let u = scaled x f.across a in
      let v = scaled y f.down b in
      64 * (mcu x y * (hs * vs + (ch - 1)) + (n + (v / 8 * f.across + u / 8))) + (8 * (v % 8) + u % 8)

  sample_is : (x y c : ℕ)
      → sample_at (shape w h hs vs ch) x y c ≡ placed (factors_at (shape w h hs vs ch) c) (before (shape w h hs vs ch) c) hs vs x y
  unfolding sample_at mcu placed
  sample_is x y c =
      let p : Shape = shape w h hs vs ch in
      let f : Factors = factors_at p c in
      let n : ℕ = before p c in
      ap₂ (λ a b.
      let u = scaled x f.across a in
      let v = scaled y f.down b in
      64 * ((y / (8 * b) * ceiling w (8 * a) + x / (8 * a)) * per_mcu p + (n + (v / 8 * f.across + u / 8))) + (8 * (v % 8) + u % 8))
      (widest_is w h hs vs ch hp) (highest_is w h hs vs ch vp)
      ∙ ap (λ k.
      let u = scaled x f.across hs in
      let v = scaled y f.down vs in
      64 * (mcu x y * k + (n + (v / 8 * f.across + u / 8))) + (8 * (v % 8) + u % 8)) (per_is w h hs vs ch)

  pub first_channel_place : (x y : ℕ)
      → sample_at (shape w h hs vs ch) x y 0
      ≡ 64 * ((y / (8 * vs) * ceiling w (8 * hs) + x / (8 * hs)) * (hs * vs + (ch - 1)) + (y % (8 * vs) / 8 * hs + x % (8 * hs) / 8))
      + (8 * (y % 8) + x % 8)
  unfolding mcu placed
  first_channel_place x y =
      sample_is x y 0
      ∙ ap₂ (λ u v. 64 * (mcu x y * (hs * vs + (ch - 1)) + (0 + (v / 8 * hs + u / 8))) + (8 * (v % 8) + u % 8)) (scaled_largest x hs hp) (scaled_largest y vs vp)
      ∙ omega (arith, mod_eight x hs, mod_eight y vs)

  pub chroma_place : (x y d : ℕ) → d < ch - 1
      → sample_at (shape w h hs vs ch) x y (suc d)
      ≡ 64 * ((y / (8 * vs) * ceiling w (8 * hs) + x / (8 * hs)) * (hs * vs + (ch - 1)) + (hs * vs + d))
      + (8 * (y % (8 * vs) / vs) + x % (8 * hs) / hs)
  unfolding mcu placed
  chroma_place x y d l =
      sample_is x y (suc d)
      ∙ ap₂ (λ f n. placed f (hs * vs + n) hs vs x y) (ones_at (ch - 1) d l) (ones_before (ch - 1) d l)
      ∙ ap₂ (λ u v. 64 * (mcu x y * (hs * vs + (ch - 1)) + (hs * vs + d + (v / 8 * 1 + u / 8))) + (8 * (v % 8) + u % 8)) (scaled_one x hs) (scaled_one y vs)
      ∙ omega (arith, chroma_below x hs hp, chroma_below y vs vp)

  -- the samples of a pixel's MCU are among all
  pub mcu_below : (x y : ℕ) → x < w → y < h
      → 64 * ((y / (8 * vs) * ceiling w (8 * hs) + x / (8 * hs)) * (hs * vs + (ch - 1)) + (hs * vs + (ch - 1))) ≤ 64 * block_count (shape w h hs vs ch)
  mcu_below x y l m =
      let above : y / (8 * vs) < ceiling h (8 * vs) = ceiling_above y h (8 * vs) m (omega arith) in
      let before : x / (8 * hs) < ceiling w (8 * hs) = ceiling_above x w (8 * hs) l (omega arith) in
      let one : (y / (8 * vs) + 1) * ceiling w (8 * hs) ≤ ceiling h (8 * vs) * ceiling w (8 * hs) = mul-le-mul_right (ceiling w (8 * hs)) (omega arith) in
      let all : (y / (8 * vs) * ceiling w (8 * hs) + x / (8 * hs) + 1) * (hs * vs + (ch - 1)) ≤ ceiling w (8 * hs) * ceiling h (8 * vs) * (hs * vs + (ch - 1))
      = mul-le-mul_right (hs * vs + (ch - 1)) (omega arith) in
      omega (arith, all, count_is w h hs vs ch hp vp)

-- ---- a frame with that sampling

-- the channels behind the first are 1 x 1
others_are : (across down : List ℕ) (c n : ℕ) → ((i : ℕ) → c ≤ i → i < c + n → (get_or across i 0 ≡ 1) × (get_or down i 0 ≡ 1))
    → factors_from across down c n ≡ replicate n one_by_one
others_are across down c zero h = refl
others_are across down c (suc n) h =
    ap₂ (λ (f : Factors) fs. f ∷ fs) (ap₂ (λ a b. record { across = a; down = b }) (h c (omega arith) (omega arith)).0 (h c (omega arith) (omega arith)).1)
    (others_are across down (suc c) n (λ i p q. h i (omega arith) (omega arith)))

module _ (f : Frame) (hs vs : ℕ) (s : Sampled f hs vs) where
  factors_same : factors_from f.across f.down 0 f.channels ≡ factors_of hs vs f.channels
  factors_same =
      let one_more : f.channels ≡ suc (f.channels - 1) = omega (arith, s.some) in
      ap (factors_from f.across f.down 0) one_more
      ∙ ap₂ (λ (g : Factors) gs. g ∷ gs) (ap₂ (λ a b. record { across = a; down = b }) s.across s.down)
      (others_are f.across f.down 1 (f.channels - 1) (λ i p q. s.others i (omega arith) (omega arith)))

  same : shape_of f ≡ shape f.width f.height hs vs f.channels
  same = ap (λ fs. record { width = f.width; height = f.height; factors = fs }) factors_same

  pub old_layout : OldLayout f hs vs
  old_layout =
      record {
        blocks = ap block_count same ∙ count_is f.width f.height hs vs f.channels s.wide s.high;
        first =
            λ x y. ap (λ p. sample_at p x y 0) same ∙ first_channel_place f.width f.height hs vs f.channels s.wide s.high x y;
        others =
            λ x y c h. ap (λ p. sample_at p x y (suc c)) same ∙ chroma_place f.width f.height hs vs f.channels s.wide s.high x y c h;
      }
