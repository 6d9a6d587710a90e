-- The sampling of a frame: the factors of its channels, the largest of them, the blocks of an MCU. What is tested of it (`sampled`) as
-- statements, the bounds that follow, and that every frame that is read has such sampling.
use Prim.Native.Nat.{ℕ, zero, suc, ◌+◌, ◌*◌, ◌-◌, ◌%◌, ◌<◌, ◌≤◌, zero-le, max}
use mathlib.Core.Path.{◌≡◌, refl, sym, ap, ◌∙◌, subst⁻¹}
use mathlib.Core.Bool.{Bool, true, false, cond}
use mathlib.Core.List.{List, [], ◌∷◌}
use native.Mathlib.Omega.{arith}
use native.Mathlib.Nat.{mod-lt, not-suc-le-zero, mul-le-mul}
use lib.Dec.{T, leb, ltb, eqb, leb→le}
use lib.ListN.{length, get_or, take}
use borrow.Author.Tests.{le-leb, lt-leb, lt-ltb, ltb-false}
use Rattle.std.specs.Prelude.{Some, None}
use Rattle.reading.specs.declared.Frame.{Frame}
use Rattle.reading.specs.declared.Mcu.{Mcu}
use Rattle.reading.specs.Tests.{◌and◌, within, apart, all_from}
use Rattle.reading.specs.Layout.{Factors, Shape, one_by_one, area, areas, widest, highest, per_mcu, channels_in, channel_in, channel_of}
use Rattle.reading.specs.Tables.{factors_in, factors_from, shape_of}
use Rattle.reading.specs.Header.{byte, each_from, each, each_channel, across_of, down_of, counted, sampling_fits, quants_fit, frame_of, frame_known, frame_fits}
use Rattle.reading.specs.Code.Mcus.{factors_fit, sampled, measured}
use Rattle.reading.proofs.Plain.{and_left, and_right}
use Rattle.reading.proofs.Fits.{within_known, all_at}

-- ---- channels of any list of factors

-- the channel of a block is one of the channels
pub channel_below : (fs : List Factors) (j : ℕ) → j < areas fs → channel_in fs j < length fs
channel_below [] j h = absurd (not-suc-le-zero h)
channel_below (f ∷ fs) j h = go (ltb j (area f)) refl (channel_below fs (j - area f))
  where
    go : (t : Bool) → ltb j (area f) ≡ t → (j - area f < areas fs → channel_in fs (j - area f) < length fs)
        → cond t 0 (suc (channel_in fs (j - area f))) < suc (length fs)
    go true e ih = omega arith
    go false e ih = omega (arith, ih (omega (arith, h, ltb-false j (area f) e)))

pub channel_in_lem : (p : Shape) (k : ℕ) → 0 < per_mcu p → channel_of p k < channels_in p
unfolding channel_of per_mcu
channel_in_lem p k h = channel_below p.factors (k % per_mcu p) (mod-lt k h)

-- ---- the factors of a frame

module _ (f : Frame) where
  pub factors_count : (c n : ℕ) → length (factors_from f.across f.down c n) ≡ n
  factors_count c zero = refl
  factors_count c (suc n) = ap suc (factors_count (suc c) n)

  pub factors_at_lem : (c n i : ℕ) → i < n → get_or (factors_from f.across f.down c n) i one_by_one ≡ factors_in f.across f.down (c + i)
  factors_at_lem c zero i h = absurd (not-suc-le-zero h)
  factors_at_lem c (suc n) zero h = ap (factors_in f.across f.down) (omega arith)
  factors_at_lem c (suc n) (suc i) h = factors_at_lem (suc c) n i (omega arith) ∙ ap (factors_in f.across f.down) (omega arith)

  pub channels_are : channels_in (shape_of f) ≡ f.channels
  channels_are = factors_count 0 f.channels

-- what `sampled` asks, as statements
pub record Sampling (f : Frame) : Type 0 where
  pub some : 1 ≤ f.channels
  pub few : f.channels ≤ 4
  pub across : (c : ℕ) → c < f.channels → (1 ≤ get_or f.across c 0) × (get_or f.across c 0 ≤ 4)
  pub down : (c : ℕ) → c < f.channels → (1 ≤ get_or f.down c 0) × (get_or f.down c 0 ≤ 4)
  pub blocks : areas (shape_of f).factors ≤ 10

-- a test of every channel is passed where each one passes
all_so : (p : ℕ → Bool) (n i : ℕ) → ((c : ℕ) → i ≤ c → c < i + n → p c ≡ true) → all_from n i p ≡ true
all_so p zero i h = refl
all_so p (suc n) i h = rw (h i (omega arith) (omega arith)) (all_so p n (suc i) (λ c a b. h c (omega arith) (omega arith)))

is_within : (a b n : ℕ) → a ≤ n → n ≤ b → within a b n ≡ true
is_within a b n p q = rw (le-leb a n p, le-leb n b q) refl

module _ (f : Frame) where
  pub sampled_says : sampled f ≡ true → Sampling f
  unfolding sampled
  sampled_says e =
      let all : T (sampled f) = subst⁻¹ T e tt in
      let count = and_left (within 1 4 f.channels) _ all in
      let rest = and_right (within 1 4 f.channels) _ all in
      let each = and_left (each_channel f.channels (factors_fit f.across f.down)) _ rest in
      let at : (c : ℕ) → c < f.channels → T (factors_fit f.across f.down c) = λ c h. all_at (factors_fit f.across f.down) f.channels 0 each c zero-le (omega arith) in
      record {
        some = (within_known 1 4 f.channels count).0;
        few = (within_known 1 4 f.channels count).1;
        across = λ c h. within_known 1 4 (get_or f.across c 0) (and_left (within 1 4 (get_or f.across c 0)) _ (at c h));
        down = λ c h. within_known 1 4 (get_or f.down c 0) (and_right (within 1 4 (get_or f.across c 0)) _ (at c h));
        blocks = leb→le (areas (shape_of f).factors) 10 (and_right (each_channel f.channels (factors_fit f.across f.down)) _ rest);
      }

  module _ (ok : Sampling f) where
    pub sampled_so : sampled f ≡ true
    unfolding sampled
    sampled_so =
        rw (
          is_within 1 4 f.channels ok.some ok.few,
          all_so (factors_fit f.across f.down) f.channels 0
              (λ c a b. rw (
                is_within 1 4 (get_or f.across c 0) (ok.across c (omega arith)).0 (ok.across c (omega arith)).1,
                is_within 1 4 (get_or f.down c 0) (ok.down c (omega arith)).0 (ok.down c (omega arith)).1,
              ) refl),
          le-leb (areas (shape_of f).factors) 10 ok.blocks,
        ) refl

    -- ---- the largest factors

    widest_most : (c n : ℕ) → c + n ≤ f.channels → widest (factors_from f.across f.down c n) ≤ 4
    widest_most c zero h = zero-le
    widest_most c (suc n) h = omega (arith, (ok.across c (omega arith)).1, widest_most (suc c) n (omega arith))

    highest_most : (c n : ℕ) → c + n ≤ f.channels → highest (factors_from f.across f.down c n) ≤ 4
    highest_most c zero h = zero-le
    highest_most c (suc n) h = omega (arith, (ok.down c (omega arith)).1, highest_most (suc c) n (omega arith))

    pub wide_most : widest (shape_of f).factors ≤ 4
    wide_most = widest_most 0 f.channels (omega arith)

    pub high_most : highest (shape_of f).factors ≤ 4
    high_most = highest_most 0 f.channels (omega arith)

  -- no factor is above the largest
  widest_above : (c n i : ℕ) → i < n → get_or f.across (c + i) 0 ≤ widest (factors_from f.across f.down c n)
  widest_above c zero i h = absurd (not-suc-le-zero h)
  widest_above c (suc n) zero h =
      let same : get_or f.across (c + 0) 0 ≡ get_or f.across c 0 = ap (λ k. get_or f.across k 0) (omega arith) in
      omega (arith, same)
  widest_above c (suc n) (suc i) h =
      let same : get_or f.across (c + suc i) 0 ≡ get_or f.across (suc c + i) 0 = ap (λ k. get_or f.across k 0) (omega arith) in
      omega (arith, same, widest_above (suc c) n i (omega arith))

  highest_above : (c n i : ℕ) → i < n → get_or f.down (c + i) 0 ≤ highest (factors_from f.across f.down c n)
  highest_above c zero i h = absurd (not-suc-le-zero h)
  highest_above c (suc n) zero h =
      let same : get_or f.down (c + 0) 0 ≡ get_or f.down c 0 = ap (λ k. get_or f.down k 0) (omega arith) in
      omega (arith, same)
  highest_above c (suc n) (suc i) h =
      let same : get_or f.down (c + suc i) 0 ≡ get_or f.down (suc c + i) 0 = ap (λ k. get_or f.down k 0) (omega arith) in
      omega (arith, same, highest_above (suc c) n i (omega arith))

  pub wide_above : (c : ℕ) → c < f.channels → get_or f.across c 0 ≤ widest (shape_of f).factors
  wide_above c h =
      let same : get_or f.across (0 + c) 0 ≡ get_or f.across c 0 = ap (λ k. get_or f.across k 0) (omega arith) in
      omega (arith, same, widest_above 0 f.channels c h)

  pub high_above : (c : ℕ) → c < f.channels → get_or f.down c 0 ≤ highest (shape_of f).factors
  high_above c h =
      let same : get_or f.down (0 + c) 0 ≡ get_or f.down c 0 = ap (λ k. get_or f.down k 0) (omega arith) in
      omega (arith, same, highest_above 0 f.channels c h)

  module _ (ok : Sampling f) where
    pub wide_least : 1 ≤ widest (shape_of f).factors
    wide_least = omega (arith, wide_above 0 ok.some, (ok.across 0 ok.some).0)

    pub high_least : 1 ≤ highest (shape_of f).factors
    high_least = omega (arith, high_above 0 ok.some, (ok.down 0 ok.some).0)

    -- an MCU has a block of each channel
    areas_least : (c n : ℕ) → c + n ≤ f.channels → n ≤ areas (factors_from f.across f.down c n)
    areas_least c zero h = zero-le
    areas_least c (suc n) h =
        let one : 1 * 1 ≤ get_or f.across c 0 * get_or f.down c 0 = mul-le-mul (ok.across c (omega arith)).0 (ok.down c (omega arith)).0 in
        omega (arith, one, areas_least (suc c) n (omega arith))

    pub blocks_least : f.channels ≤ areas (shape_of f).factors
    blocks_least = areas_least 0 f.channels (omega arith)

    pub per_some : 0 < per_mcu (shape_of f)
    unfolding per_mcu
    per_some = omega (arith, blocks_least, ok.some)

-- ---- the walk over the channels, as the code counts

-- before channel c: what was found of the channels before it, and what is still to come
pub record Walk (ch : ℕ) (across down : List ℕ) (wide high blocks c : ℕ) : Type 0 where
  pub few : ch ≤ 4
  pub inside : c ≤ ch
  pub small : blocks ≤ 16 * c
  pub wides : max wide (widest (factors_from across down c (ch - c))) ≡ widest (factors_from across down 0 ch)
  pub highs : max high (highest (factors_from across down c (ch - c))) ≡ highest (factors_from across down 0 ch)
  pub sums : blocks + areas (factors_from across down c (ch - c)) ≡ areas (factors_from across down 0 ch)
  pub fits : all_from ch 0 (factors_fit across down) ≡ all_from (ch - c) c (factors_fit across down)

module _ (ch : ℕ) (across down : List ℕ) where
  pub walk_begin : ch ≤ 4 → Walk ch across down 0 0 0 0
  walk_begin h =
      let z : ch - 0 ≡ ch = omega arith in
      record {
        few = h;
        inside = omega arith;
        small = omega arith;
        wides = omega (arith, ap (λ n. widest (factors_from across down 0 n)) z);
        highs = omega (arith, ap (λ n. highest (factors_from across down 0 n)) z);
        sums = omega (arith, ap (λ n. areas (factors_from across down 0 n)) z);
        fits = sym (ap (λ n. all_from n 0 (factors_fit across down)) z);
      }

  module _ {wide high blocks c : ℕ} (w : Walk ch across down wide high blocks c) where
    module _ (h : c < ch) where
      one_more : ch - c ≡ suc (ch - (c + 1))
      one_more = omega arith

      next : suc c ≡ c + 1
      next = omega arith

      pub walk_unfit : factors_fit across down c ≡ false → all_from ch 0 (factors_fit across down) ≡ false
      walk_unfit e = w.fits ∙ ap (λ n. all_from n c (factors_fit across down)) one_more ∙ rw e refl

      pub walk_on : {x y : ℕ} → within 1 4 (get_or across c 0) ≡ true → within 1 4 (get_or down c 0) ≡ true
          → x ≡ max wide (get_or across c 0) → y ≡ max high (get_or down c 0)
          → Walk ch across down x y (blocks + get_or across c 0 * get_or down c 0) (c + 1)
      walk_on {x} {y} e g a b =
          let fs : List Factors = factors_from across down (c + 1) (ch - (c + 1)) in
          let split : factors_from across down c (ch - c) ≡ factors_in across down c ∷ fs =
          ap (factors_from across down c) one_more ∙ ap (λ k. factors_in across down c ∷ factors_from across down k (ch - (c + 1))) next in
          let wide_split : widest (factors_from across down c (ch - c)) ≡ max (get_or across c 0) (widest fs) = ap widest split in
          let high_split : highest (factors_from across down c (ch - c)) ≡ max (get_or down c 0) (highest fs) = ap highest split in
          let area_split : areas (factors_from across down c (ch - c)) ≡ get_or across c 0 * get_or down c 0 + areas fs = ap areas split in
          let h4 : get_or across c 0 ≤ 4 = (within_known 1 4 (get_or across c 0) (subst⁻¹ T e tt)).1 in
          let v4 : get_or down c 0 ≤ 4 = (within_known 1 4 (get_or down c 0) (subst⁻¹ T g tt)).1 in
          let few_blocks : get_or across c 0 * get_or down c 0 ≤ 4 * 4 = mul-le-mul h4 v4 in
          record {
            few = w.few;
            inside = omega arith;
            small = omega (arith, w.small, few_blocks);
            wides = omega (arith, w.wides, wide_split, a);
            highs = omega (arith, w.highs, high_split, b);
            sums = omega (arith, w.sums, area_split);
            fits =
                w.fits ∙ ap (λ n. all_from n c (factors_fit across down)) one_more
                ∙ rw (e, g) (ap (λ k. all_from (ch - (c + 1)) k (factors_fit across down)) next);
          }

    pub walk_done : ch ≤ c
        → (wide ≡ widest (factors_from across down 0 ch)) × (high ≡ highest (factors_from across down 0 ch))
        × (blocks ≡ areas (factors_from across down 0 ch)) × (all_from ch 0 (factors_fit across down) ≡ true)
    walk_done h =
        let none : ch - c ≡ 0 = omega arith in
        let wide_none : widest (factors_from across down c (ch - c)) ≡ 0 = ap (λ n. widest (factors_from across down c n)) none in
        let high_none : highest (factors_from across down c (ch - c)) ≡ 0 = ap (λ n. highest (factors_from across down c n)) none in
        let area_none : areas (factors_from across down c (ch - c)) ≡ 0 = ap (λ n. areas (factors_from across down c n)) none in (
          omega (arith, w.wides, wide_none),
          omega (arith, w.highs, high_none),
          omega (arith, w.sums, area_none),
          w.fits ∙ ap (λ n. all_from n c (factors_fit across down)) none,
        )

-- what the code answers, by the ways out of its tests
module _ (f : Frame) where
  -- the MCU of a frame, in the rules' words
  abbrev pub mcu_in : Mcu
  mcu_in = record { across = widest (shape_of f).factors; down = highest (shape_of f).factors; blocks = areas (shape_of f).factors }

  pub measured_count : within 1 4 f.channels ≡ false → None ≡ measured f
  unfolding measured
  measured_count e = rw e refl

  pub measured_unfit : all_from f.channels 0 (factors_fit f.across f.down) ≡ false → None ≡ measured f
  unfolding measured
  measured_unfit e = go (within 1 4 f.channels)
    where
      go : (t : Bool)
          → None
          ≡ cond (t and all_from f.channels 0 (factors_fit f.across f.down) and leb (areas (shape_of f).factors) 10) (Some mcu_in) None
      go true = rw e refl
      go false = refl

  module _ (count : within 1 4 f.channels ≡ true) (fits : all_from f.channels 0 (factors_fit f.across f.down) ≡ true) where
    pub measured_many : 10 < areas (shape_of f).factors → None ≡ measured f
    unfolding measured
    measured_many h = rw (count, fits, lt-leb (areas (shape_of f).factors) 10 h) refl

    pub measured_so : areas (shape_of f).factors ≤ 10 → Some mcu_in ≡ measured f
    unfolding measured
    measured_so h = rw (count, fits, le-leb (areas (shape_of f).factors) 10 h) refl

  -- what was measured, in the rules' words
  pub measured_is : Sampling f → measured f ≡ Some mcu_in
  unfolding measured
  measured_is ok = rw (sampled_so f ok) refl

  -- where nothing was, the sampling is none that a frame can have
  pub measured_none : None ≡ measured f → sampled f ≡ false
  unfolding measured
  measured_none e = go (sampled f) e
    where
      go : (t : Bool) → None ≡ cond t (Some mcu_in) None → t ≡ false
      go true e = absurd cc
      go false e = refl

  -- and where something was, it is such sampling, and the MCU is that of the rules
  module _ {m : Mcu} (e : Some m ≡ measured f) where
    pub measured_some : sampled f ≡ true
    unfolding measured
    measured_some = go (sampled f) e
      where
        go : (t : Bool) → Some m ≡ cond t (Some mcu_in) None → t ≡ true
        go true e = refl
        go false e = absurd cc

    pub measured_mcu : m ≡ mcu_in
    measured_mcu = let same : Some m ≡ Some mcu_in = e ∙ measured_is (sampled_says f measured_some) in cc

-- ---- a frame that is read

-- a number for each channel, at a channel
pub each_at : (ch : ℕ) (g : ℕ → ℕ) (n i c : ℕ) → c < n → i + c < ch → get_or (each_from n i ch g) c 0 ≡ g (i + c)
each_at ch g zero i c h k = absurd (not-suc-le-zero h)
each_at ch g (suc n) i zero h k = rw (lt-ltb i ch (omega arith)) (ap g (omega arith))
each_at ch g (suc n) i (suc c) h k = each_at ch g n (suc i) c (omega arith) (omega arith) ∙ ap g (omega arith)

counted_fits : (ch n : ℕ) → T (within 1 4 n) → (1 ≤ counted ch n) × (counted ch n ≤ 4)
counted_fits ch n t = go (eqb ch 1)
  where
    go : (b : Bool) → (1 ≤ cond b 1 n) × (cond b 1 n ≤ 4)
    go true = (omega arith, omega arith)
    go false = within_known 1 4 n t

pub frame_sampling : (b : List ℕ) → T (frame_known b) → T (frame_fits b (frame_of b)) → Sampling (frame_of b)
frame_sampling b known fits =
    record {
      some = count.0;
      few = count.1;
      across = λ c h. at (across_of b) c h (and_left (within 1 4 (across_of b c)) _ (nibbles c h));
      down = λ c h. at (down_of b) c h (and_right (within 1 4 (across_of b c)) _ (nibbles c h));
      blocks = leb→le (areas (shape_of (frame_of b)).factors) 10 (and_left (leb (areas (shape_of (frame_of b)).factors) 10) _ behind);
    }
  where
    count : (1 ≤ byte b 5) × (byte b 5 ≤ 4)
    count = within_known 1 4 (byte b 5) (and_right (eqb (byte b 0) 8) _ (and_right (leb 6 (length b)) _ known))

    tested : T (sampling_fits b (byte b 5) and quants_fit (frame_of b) and leb (areas (shape_of (frame_of b)).factors) 10 and apart (take (byte b 5) (frame_of b).ids))
    tested = and_right (ltb 0 (frame_of b).height) _ (and_right (ltb 0 (frame_of b).width) _ fits)

    behind : T (leb (areas (shape_of (frame_of b)).factors) 10 and apart (take (byte b 5) (frame_of b).ids))
    behind = and_right (quants_fit (frame_of b)) _ (and_right (sampling_fits b (byte b 5)) _ tested)

    nibbles : (c : ℕ) → c < byte b 5 → T (within 1 4 (across_of b c) and within 1 4 (down_of b c))
    nibbles c h =
        all_at (λ c. within 1 4 (across_of b c) and within 1 4 (down_of b c)) (byte b 5) 0 (and_left (sampling_fits b (byte b 5)) _ tested) c zero-le (omega arith)

    at : (g : ℕ → ℕ) (c : ℕ) → c < byte b 5 → T (within 1 4 (g c))
        → (1 ≤ get_or (each (byte b 5) (λ c. counted (byte b 5) (g c))) c 0) × (get_or (each (byte b 5) (λ c. counted (byte b 5) (g c))) c 0 ≤ 4)
    at g c h t =
        let is : get_or (each (byte b 5) (λ c. counted (byte b 5) (g c))) c 0 ≡ counted (byte b 5) (g (0 + c))
        = each_at (byte b 5) (λ c. counted (byte b 5) (g c)) 4 0 c (omega (arith, h, count.1)) (omega arith) in
        let fit = counted_fits (byte b 5) (g c) t in
        let same : counted (byte b 5) (g (0 + c)) ≡ counted (byte b 5) (g c) = ap (λ k. counted (byte b 5) (g k)) (omega arith) in
        (omega (arith, is, same, fit.0), omega (arith, is, same, fit.1))
