-- The channels of a pixel, in colour or as the samples are.
use Prim.Native.Nat.{ℕ, zero, suc, ◌+◌, ◌*◌, ◌/◌, ◌%◌, ◌<◌, ◌≤◌}
use mathlib.Core.Path.{◌≡◌, refl, sym, ap, ap₂, ◌∙◌}
use mathlib.Core.Bool.{Bool, true, false, true≢false}
use mathlib.Core.List.{List, []}
use native.Mathlib.Omega.{arith}
use lib.Dec.{eqb}
use lib.ListN.{get_or, take, drop}
use lib.Seq.{get_or-take, get_or-drop}
use borrow.Author.Tests.{eqb-true}
use Rattle.reading.specs.Tests.{◌and◌}
use Rattle.jpeg_render_row.specs.Runs.{three, shown, in_run}
use Rattle.jpeg_render_pairs.specs.Tinted.{in_pairs}
use Rattle.jpeg_render.specs.Rows.{luma_at, lane, lane_at, in_three, in_mcu, in_lists, Spread, Gathered, Usual}
use Rattle.jpeg_render.proofs.Lanes.{lane_same, lane_one}

pub and_true : (b : Bool) → b and true ≡ b
and_true true = refl
and_true false = refl

pub and_false : (b : Bool) → b and false ≡ false
and_false true = refl
and_false false = refl

-- what holds of the first channels, one by one
pub below_1 : (P : ℕ → Type 0) → P 0 → (c : ℕ) → c < 1 → P c
below_1 P p zero h = p
below_1 P p (suc c) h = let z : ⊥ = omega arith in absurd z

pub below_3 : (P : ℕ → Type 0) → P 0 → P 1 → P 2 → (c : ℕ) → c < 3 → P c
below_3 P p q r zero h = p
below_3 P p q r (suc zero) h = q
below_3 P p q r (suc (suc zero)) h = r
below_3 P p q r (suc (suc (suc c))) h = let z : ⊥ = omega arith in absurd z

-- what is shown depends on the channels' samples alone, in colour on three
pub shown_same : (b : Bool) (v w : ℕ → ℕ) (n : ℕ) → (b ≡ true → n ≡ 3) → ((c : ℕ) → c < n → v c ≡ w c)
    → (c : ℕ) → c < n → shown b v c ≡ shown b w c
shown_same true v w n enough same c h =
    let three_of : n ≡ 3 = enough refl in
    rw (same 0 (omega arith), same 1 (omega arith), same 2 (omega arith))
shown_same false v w n enough same c h = same c h

-- colour is for three channels
pub coloured_three : (colour : Bool) (n : ℕ) → colour and eqb n 3 ≡ true → n ≡ 3
coloured_three true n e = eqb-true n 3 e
coloured_three false n e = let z : ⊥ = true≢false (sym e) in absurd z

-- the pixels of three lists that were spread, luma as wide as the MCU and chroma with one block across
pub run_in_three : (s : List ℕ) (a b d hs : ℕ) (u v w : List ℕ) (coloured : Bool) → 1 ≤ hs → Spread s a hs hs u → Spread s b 1 hs v → Spread s d 1 hs w
    → (i c : ℕ) → i < 8 * hs → in_run u v w coloured i c ≡ in_three s a b d hs coloured i c
unfolding in_run in_three
run_in_three s a b d hs u v w coloured some p q r i c h =
    ap (λ y. shown coloured (three y (get_or v i 0) (get_or w i 0)) c) (p i h ∙ ap (λ k. get_or s (a + k) 0) (lane_same hs i (omega arith)))
    ∙ ap₂ (λ k l. shown coloured (three (get_or s (luma_at a i) 0) k l) c) (q i h ∙ chroma b) (r i h ∙ chroma d)
  where
    chroma : (from : ℕ) → get_or s (from + lane 1 hs i) 0 ≡ get_or s (from + i / hs) 0
    chroma from = ap (λ k. get_or s (from + k) 0) (lane_one hs i h)

-- the pixels of an MCU with sampling 2 in colour: the chroma samples are the 8 that are lent of each channel
pub pairs_in_three : (s : List ℕ) (a b d k l n : ℕ) (luma : List ℕ) → n ≤ 16 → 8 ≤ k → 8 ≤ l → Gathered s a n luma
    → (i c : ℕ) → i < n → in_pairs luma (take k (drop b s)) (take l (drop d s)) i c ≡ in_three s a b d 2 true i c
unfolding in_pairs in_three
pairs_in_three s a b d k l n luma most p q g i c h =
    ap (λ y. shown true (three y (get_or (take k (drop b s)) (i / 2) 0) (get_or (take l (drop d s)) (i / 2) 0)) c) (g i h)
    ∙ ap₂ (λ u v. shown true (three (get_or s (luma_at a i) 0) u v) c) (sample b k p) (sample d l q)
  where
    sample : (from many : ℕ) → 8 ≤ many → get_or (take many (drop from s)) (i / 2) 0 ≡ get_or s (from + i / 2) 0
    sample from many enough = get_or-take many (drop from s) (i / 2) 0 (omega arith) ∙ get_or-drop from s (i / 2) 0

-- ---- the pixels of any MCU

module _ (s places : List ℕ) (offset : ℕ) (across : List ℕ) (largest : ℕ) where
  -- one channel, of one block's width
  pub gray_in_mcu : get_or across 0 0 ≡ 1 → largest ≡ 1 → (i c : ℕ) → i < 8 → c < 1
      → get_or s (get_or places 0 0 + offset + i) 0 ≡ in_mcu s places offset across largest false i c
  unfolding in_mcu
  gray_in_mcu own one i c h l =
      below_1 (λ c. get_or s (get_or places 0 0 + offset + i) 0 ≡ lane_at s places offset across largest i c)
      (ap (λ k. get_or s (get_or places 0 0 + offset + k) 0) place) c l
    where
      place : i ≡ lane (get_or across 0 0) largest i
      place = rw (own, one, lane_same 1 i (omega arith)) (omega arith)

  -- the usual three channels
  pub three_in_mcu : Usual across largest 3 → 1 ≤ largest → (b : Bool) (i c : ℕ) → i < 8 * largest → c < 3
      → in_three s (get_or places 0 0 + offset) (get_or places 1 0 + offset) (get_or places 2 0 + offset) largest b i c
      ≡ in_mcu s places offset across largest b i c
  unfolding in_mcu in_three
  three_in_mcu usual some b i c h l =
      shown_same b counted (lane_at s places offset across largest i) 3 (λ _. refl)
      (below_3 (λ c. counted c ≡ lane_at s places offset across largest i c)
      (ap (λ k. get_or s (get_or places 0 0 + offset + k) 0) luma)
      (ap (λ k. get_or s (get_or places 1 0 + offset + k) 0) (chroma (get_or across 1 0) usual.second))
      (ap (λ k. get_or s (get_or places 2 0 + offset + k) 0) (chroma (get_or across 2 0) usual.third))) c l
    where
      counted : ℕ → ℕ
      counted =
          three (get_or s (luma_at (get_or places 0 0 + offset) i) 0) (get_or s (get_or places 1 0 + offset + i / largest) 0)
          (get_or s (get_or places 2 0 + offset + i / largest) 0)

      luma : 64 * (i / 8) + i % 8 ≡ lane (get_or across 0 0) largest i
      luma = rw (usual.first, lane_same largest i (omega arith)) refl

      chroma : (own : ℕ) → own ≡ 1 → i / largest ≡ lane own largest i
      chroma own e = rw (e, lane_one largest i h) refl

  -- lists that have the samples of each channel
  pub lists_in_mcu : (us : List (List ℕ)) (n : ℕ)
      → ((c : ℕ) → c < n → Spread s (get_or places c 0 + offset) (get_or across c 0) largest (get_or us c []))
      → (i c : ℕ) → i < 8 * largest → c < n → in_lists us i c ≡ in_mcu s places offset across largest false i c
  unfolding in_mcu
  lists_in_mcu us n each i c h l = each c l i h

  pub run_in_mcu : (u v w : List ℕ) (b : Bool)
      → Spread s (get_or places 0 0 + offset) (get_or across 0 0) largest u
      → Spread s (get_or places 1 0 + offset) (get_or across 1 0) largest v
      → Spread s (get_or places 2 0 + offset) (get_or across 2 0) largest w
      → (i c : ℕ) → i < 8 * largest → c < 3 → in_run u v w b i c ≡ in_mcu s places offset across largest b i c
  unfolding in_mcu in_run
  run_in_mcu u v w b p q r i c h l =
      shown_same b (three (get_or u i 0) (get_or v i 0) (get_or w i 0)) (lane_at s places offset across largest i) 3 (λ _. refl)
      (below_3 (λ c. three (get_or u i 0) (get_or v i 0) (get_or w i 0) c ≡ lane_at s places offset across largest i c) (p i h) (q i h) (r i h)) c l
