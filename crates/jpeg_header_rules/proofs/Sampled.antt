-- The sampling of a frame whose bytes passed the test of every channel: where an MCU was measured there is a count of channels that a frame
-- has and a sum of at most ten blocks, and where none was, one of these fails.
use Prim.Native.Nat.{ℕ, ◌+◌, ◌<◌, ◌≤◌, zero-le}
use mathlib.Core.Path.{◌≡◌, refl, sym, ap, ◌∙◌, subst, subst⁻¹}
use mathlib.Core.Bool.{Bool, true, false, cond}
use mathlib.Core.List.{List}
use native.Mathlib.Omega.{arith}
use lib.Dec.{T, leb, ltb, eqb, leb→le}
use lib.ListN.{get_or, take}
use borrow.Author.Tests.{le-leb}
use Rattle.std.specs.Prelude.{Option, Some, None, is_some}
use Rattle.reading.specs.declared.Frame.{Frame}
use Rattle.reading.specs.declared.Mcu.{Mcu}
use Rattle.reading.specs.Tests.{◌and◌, within, apart}
use Rattle.reading.specs.Layout.{areas}
use Rattle.reading.specs.Tables.{shape_of}
use Rattle.reading.specs.Header.{byte, each, across_of, down_of, counted, sampling_fits, quants_fit, frame_of, frame_fits}
use Rattle.reading.specs.Code.Mcus.{sampled, measured}
use Rattle.reading.proofs.Plain.{and_left, and_right}
use Rattle.reading.proofs.Fits.{so, within_known, all_at}
use Rattle.reading.proofs.McuCounts.{between}
use Rattle.reading.proofs.Sampling.{Sampling, sampled_says, sampled_so, measured_none, measured_some, each_at}

counted_fits : (ch n : ℕ) → T (within 1 4 n) → (1 ≤ counted ch n) × (counted ch n ≤ 4)
counted_fits ch n t = go (eqb ch 1)
  where
    go : (b : Bool) → (1 ≤ cond b 1 n) × (cond b 1 n ≤ 4)
    go true = (omega arith, omega arith)
    go false = within_known 1 4 n t

-- ---- the bytes passed, and so did the sum

module _ (b : List ℕ) where
  abbrev sum_of : ℕ
  sum_of = areas (shape_of (frame_of b)).factors

  module _ (count : T (within 1 4 (byte b 5))) (fits : T (sampling_fits b (byte b 5))) where
    few : (1 ≤ byte b 5) × (byte b 5 ≤ 4)
    few = within_known 1 4 (byte b 5) count

    both : (c : ℕ) → c < byte b 5 → T (within 1 4 (across_of b c) and within 1 4 (down_of b c))
    both c h = all_at _ (byte b 5) 0 fits c zero-le (omega arith)

    at : (g : ℕ → ℕ) (c : ℕ) → c < byte b 5 → T (within 1 4 (g c))
        → (let l = each (byte b 5) (λ c. counted (byte b 5) (g c)) in (1 ≤ get_or l c 0) × (get_or l c 0 ≤ 4))
    at g c h t =
        let is : get_or (each (byte b 5) (λ c. counted (byte b 5) (g c))) c 0 ≡ counted (byte b 5) (g (0 + c))
        = each_at (byte b 5) (λ c. counted (byte b 5) (g c)) 4 0 c (omega (arith, h, few.1)) (omega arith) in
        let fit = counted_fits (byte b 5) (g c) t in
        let same : counted (byte b 5) (g (0 + c)) ≡ counted (byte b 5) (g c) = ap (λ k. counted (byte b 5) (g k)) (omega arith) in
        (omega (arith, is, same, fit.0), omega (arith, is, same, fit.1))

    sampling_of : sum_of ≤ 10 → Sampling (frame_of b)
    sampling_of h =
        record {
          some = few.0;
          few = few.1;
          across = λ c k. at (across_of b) c k (and_left (within 1 4 (across_of b c)) _ (both c k));
          down = λ c k. at (down_of b) c k (and_right (within 1 4 (across_of b c)) _ (both c k));
          blocks = h;
        }

    sum_many : None ≡ measured (frame_of b) → leb sum_of 10 ≡ false
    sum_many none = go (leb sum_of 10) refl
      where
        go : (t : Bool) → leb sum_of 10 ≡ t → t ≡ false
        go true e =
            let so : sampled (frame_of b) ≡ true = sampled_so (frame_of b) (sampling_of (leb→le sum_of 10 (subst⁻¹ T e tt))) in
            absurd (subst T (sym so ∙ measured_none (frame_of b) none) tt)
        go false e = refl

-- ---- the tests of a frame with the count of channels before them all, as the code asks them: m is the MCU of the frame, if it has one

abbrev pub frame_read : List ℕ → Bool
frame_read b = within 1 4 (byte b 5) and frame_fits b (frame_of b)

module _ (b : List ℕ) where
  -- where the sampling of every channel fits, there is an MCU just where the count is one that a frame has and the sum is not too high
  blocks_are : sampling_fits b (byte b 5) ≡ true → (within 1 4 (byte b 5) and leb (sum_of b) 10) ≡ is_some (measured (frame_of b))
  blocks_are fits = go (measured (frame_of b)) refl
    where
      go : (m : Option Mcu) → m ≡ measured (frame_of b) → (within 1 4 (byte b 5) and leb (sum_of b) 10) ≡ is_some m
      go None e = none (within 1 4 (byte b 5)) refl
        where
          none : (w : Bool) → within 1 4 (byte b 5) ≡ w → (w and leb (sum_of b) 10) ≡ false
          none true k = sum_many b (so k) (so fits) e
          none false k = refl
      go (Some m) e =
          let ok = sampled_says (frame_of b) (measured_some (frame_of b) e) in
          rw (between 1 4 (byte b 5) ok.some ok.few, le-leb (sum_of b) 10 ok.blocks)

  pub frame_tests :
      {f : Frame} {m : Option Mcu} → f ≡ frame_of b → m ≡ measured f
      → frame_read b
      ≡ (ltb 0 f.width and ltb 0 f.height and sampling_fits b (byte b 5) and quants_fit f
      and apart (take f.channels f.ids) and is_some m)
  frame_tests is mcu = rw (mcu, is) (
      let f = frame_of b in
      go (within 1 4 (byte b 5)) _ _ (sampling_fits b (byte b 5)) (quants_fit f) (leb (sum_of b) 10) (is_some (measured f)) _ blocks_are)
    where
      go :
          (w x y s q a m p : Bool) → (s ≡ true → (w and a) ≡ m)
          → (w and x and y and s and q and a and p) ≡ (x and y and s and q and p and m)
      go w x y s q a m p e = grind arith
