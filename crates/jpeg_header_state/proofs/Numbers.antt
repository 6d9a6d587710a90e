-- The test of a frame's numbers says what the sizes of its record stand on, and a frame of the rules passes it.
use Prim.Native.Nat.{ℕ, ◌+◌, ◌*◌, ◌/◌, ◌%◌, ◌≤◌}
use mathlib.Core.Path.{◌≡◌, refl, ap}
use mathlib.Core.Bool.{true, false}
use mathlib.Core.List.{List, map}
use native.Mathlib.Omega.{arith}
use native.Mathlib.Nat.{mul-le-mul}
use lib.Dec.{T}
use Rattle.std.specs.Prelude.{Option, Some, None, MatchOption}
use Rattle.reading.specs.declared.Frame.{Frame}
use Rattle.reading.specs.declared.Mcu.{Mcu}
use Rattle.reading.specs.Tests.{◌and◌, within}
use Rattle.reading.specs.Layout.{widest, highest, mcus_across, mcus_down, per_mcu, block_count, output_length}
use Rattle.reading.specs.Tables.{shape_of}
use Rattle.reading.specs.Code.Mcus.{mcus_of, sampled, measured}
use Rattle.reading.proofs.Plain.{and_left, and_right, is_true}
use Rattle.reading.proofs.Fits.{so, within_known}
use Rattle.reading.proofs.McuCounts.{between, mcus_asked}
use Rattle.reading.proofs.Sampling.{Sampling, sampled_says, sampled_so, measured_none, measured_some, measured_mcu}
use Rattle.reading.proofs.Sampling.{wide_least, wide_most, high_least, high_most, channels_are}
use Rattle.reading.proofs.Frames.{FrameOk}
use Rattle.reading.proofs.Accepted.{ceiling_small, work_is}
use Rattle.reading.specs.Header.{byte, each, dc_id, ac_id}
use Rattle.jpeg_header_rules.proofs.Channels.{map_each}
use Rattle.jpeg_header_state.specs.Segments.{numbers_fit}

-- what the test says. (Of a single channel it asks no factors of 1: the sizes stand on less than a frame of the rules has)
record Numbers (f : Frame) : Type 0 where
  wide : (1 ≤ f.width) × (f.width ≤ 65535)
  high : (1 ≤ f.height) × (f.height ≤ 65535)
  sampling : Sampling f

module _ (f : Frame) where
  numbers_say : numbers_fit f ≡ true → Numbers f
  unfolding numbers_fit
  numbers_say e =
      let a : T (within 1 65535 f.width and within 1 65535 f.height and sampled f) = so e in
      let b = and_right (within 1 65535 f.width) _ a in
      record {
        wide = within_known 1 65535 f.width (and_left (within 1 65535 f.width) _ a);
        high = within_known 1 65535 f.height (and_left (within 1 65535 f.height) _ b);
        sampling = sampled_says f (is_true (sampled f) (and_right (within 1 65535 f.height) _ b));
      }

  -- a frame of the rules
  pub numbers_fit_lem : FrameOk f → numbers_fit f ≡ true
  unfolding numbers_fit
  numbers_fit_lem ok =
      rw (
        between 1 65535 f.width ok.wide.0 (omega (arith, ok.wide)),
        between 1 65535 f.height ok.high.0 (omega (arith, ok.high)),
        sampled_so f ok.sampling,
      ) refl

  -- ---- the MCU of a frame that is read

  pub narrow_unfit : within 1 65535 f.width ≡ false → numbers_fit f ≡ false
  unfolding numbers_fit
  narrow_unfit e = rw e refl

  pub low_unfit : within 1 65535 f.width ≡ true → within 1 65535 f.height ≡ false → numbers_fit f ≡ false
  unfolding numbers_fit
  low_unfit e g = rw (e, g) refl

  pub mcu_found : within 1 65535 f.width ≡ true → within 1 65535 f.height ≡ true → (o : Option Mcu) → o ≡ measured f
      → MatchOption o (numbers_fit f ≡ false) (λ m. (numbers_fit f ≡ true) × (Some m ≡ measured f))
  unfolding numbers_fit
  mcu_found e g None none = rw (e, g) (measured_none f none)
  mcu_found e g (Some m) is = (rw (e, g) (measured_some f is), is)

pub ruleset sides = (narrow_unfit, low_unfit, mcu_found)

module _ (f : Frame) (fits : numbers_fit f ≡ true) where
  ok : Numbers f
  ok = numbers_say f fits

  -- ---- the sizes are small

  mcus_small : mcus_across (shape_of f) * mcus_down (shape_of f) ≤ 67108864
  mcus_small =
      mul-le-mul {n₂ = 8192} {m₂ = 8192}
      (ceiling_small f.width (8 * widest (shape_of f).factors) (omega (arith, ok.wide)) (omega (arith, wide_least f ok.sampling)))
      (ceiling_small f.height (8 * highest (shape_of f).factors) (omega (arith, ok.high)) (omega (arith, high_least f ok.sampling)))

  pub count_small : block_count (shape_of f) ≤ 671088640
  unfolding block_count per_mcu
  count_small = mul-le-mul {n₂ = 67108864} {m₂ = 10} mcus_small ok.sampling.blocks

  pub bytes_are : output_length (shape_of f) ≡ f.width * f.height * f.channels
  unfolding output_length
  bytes_are = ap (λ k. f.width * f.height * k) (channels_are f)

  pub pixels_small : f.width * f.height ≤ 4294836225
  pixels_small = mul-le-mul {n₂ = 65535} {m₂ = 65535} ok.wide.1 ok.high.1

  pub bytes_small : f.width * f.height * f.channels ≤ 17179344900
  bytes_small = mul-le-mul {n₂ = 4294836225} {m₂ = 4} pixels_small ok.sampling.few

  -- ---- the counts, as the code makes them of the MCU that was measured

  module _ {m : Mcu} (e : Some m ≡ measured f) where
    across_counted : mcus_of f.width m.across ≡ mcus_across (shape_of f)
    across_counted =
        mcus_asked f.width (widest (shape_of f).factors) (ap (λ m. mcus_of f.width m.across) (measured_mcu f e))
        ok.wide.1 (wide_least f ok.sampling) (wide_most f ok.sampling)

    down_counted : mcus_of f.height m.down ≡ mcus_down (shape_of f)
    down_counted =
        mcus_asked f.height (highest (shape_of f).factors) (ap (λ m. mcus_of f.height m.down) (measured_mcu f e))
        ok.high.1 (high_least f ok.sampling) (high_most f ok.sampling)

    pub mcus_counted : mcus_of f.width m.across * mcus_of f.height m.down ≤ 67108864
    mcus_counted = rw (across_counted, down_counted) mcus_small

    pub blocks_counted : mcus_of f.width m.across * mcus_of f.height m.down * m.blocks ≡ block_count (shape_of f)
    unfolding block_count per_mcu
    blocks_counted =
        rw (across_counted, down_counted)
        (ap (λ m. mcus_across (shape_of f) * mcus_down (shape_of f) * m.blocks) (measured_mcu f e))

-- ---- the ids of a channel's tables are the halves of a byte

module _ (b : List ℕ) (ch : ℕ) where
  pub high_ids : map (λ x. x / 16) (each ch (λ c. byte b (2 + 2 * c))) ≡ each ch (dc_id b)
  high_ids = map_each (λ x. x / 16) refl ch (λ c. byte b (2 + 2 * c))

  pub low_ids : map (λ x. x % 16) (each ch (λ c. byte b (2 + 2 * c))) ≡ each ch (ac_id b)
  low_ids = map_each (λ x. x % 16) refl ch (λ c. byte b (2 + 2 * c))

-- what a record stands on
pub ruleset sizes = (mcus_counted, blocks_counted, count_small, pixels_small, bytes_small, bytes_are, work_is, high_ids, low_ids)
