-- An MCU in one row: all ways to write its pixels are one.
use Prim.Native.Nat.{ℕ, ◌+◌, ◌*◌, ◌-◌, ◌<◌, ◌≤◌}
use mathlib.Core.Path.{◌≡◌, ap, ◌∙◌, subst}
use mathlib.Core.Bool.{Bool, true, false}
use mathlib.Core.List.{List, [], ◌++◌}
use native.Mathlib.Omega.{arith}
use lib.Dec.{eqb}
use lib.ListN.{get_or, length, take, drop, length-drop}
use lib.Seq.{length-take-le}
use Rattle.reading.specs.Tests.{◌and◌}
use Rattle.jpeg_render_row.specs.Drawn.{pixels}
use Rattle.jpeg_render_row.specs.Runs.{in_run, run}
use Rattle.jpeg_render_row.proofs.Drawing.{pixels_same, pixels_in_part}
use Rattle.jpeg_render_row.proofs.Running.{run_drawn}
use Rattle.jpeg_render_pairs.specs.Tinted.{tinted}
use Rattle.jpeg_render_pairs.proofs.Paired.{tinted_drawn}
use Rattle.jpeg_render.specs.Rows.{LaneFits, ColourFits, McuFits, Usual, Taken, in_three, in_mcu, in_lists, Spread, Gathered}
use Rattle.jpeg_render.proofs.Shades.{and_true, and_false, gray_in_mcu, run_in_three, pairs_in_three, three_in_mcu, lists_in_mcu, run_in_mcu}

-- ---- the usual three channels, the chroma samples spread over the pixels

module _ {s out : List ℕ} {luma first second hs n at : ℕ} (ok : ColourFits s out luma first second hs n at) where
  pub luma_lane : LaneFits s luma hs hs
  luma_lane = record { least = ok.least; below = omega arith; most = ok.most; read = ok.first }

  pub first_lane : LaneFits s first 1 hs
  first_lane = record { least = omega arith; below = ok.least; most = ok.most; read = omega (arith, ok.second) }

  pub second_lane : LaneFits s second 1 hs
  second_lane = record { least = omega arith; below = ok.least; most = ok.most; read = omega (arith, ok.third) }

  -- one of the three ways, by its sampling
  pub colour_fits : (k : ℕ) → hs ≡ k → ColourFits s out luma first second k n at
  colour_fits k e = subst (λ j. ColourFits s out luma first second j n at) e ok

  pub colour_three : (k : ℕ) → hs ≡ k → (colour b : Bool) → colour ≡ b → (d e : List ℕ)
      → e ≡ pixels (in_three s luma first second k b) 3 at n d → e ≡ pixels (in_three s luma first second hs colour) 3 at n d
  colour_three k same colour b chosen d e h = rw (same, chosen) h

module _ {s out : List ℕ} {luma first second hs n : ℕ} (ok : ColourFits s out luma first second hs n 0) where
  pub wide_three : (u v w : List ℕ) (colour : Bool) {e : List ℕ} → Spread s luma hs hs u → Spread s first 1 hs v → Spread s second 1 hs w
      → e ≡ run u v w n colour out → e ≡ pixels (in_three s luma first second hs colour) 3 0 n out
  wide_three u v w colour p q r h =
      pixels_same _ _ _ _ _ _ _ (h ∙ run_drawn u v w n colour out (omega (arith, ok.within, ok.most)) (omega (arith, ok.room)))
      (λ i c l m. run_in_three s luma first second hs u v w colour ok.least p q r i c (omega (arith, ok.within)))

-- ---- sampling 2 in colour

-- the 8 samples that are lent are there
lent : (s : List ℕ) (b : ℕ) → b + 8 ≤ length s → 8 ≤ length (take (b + 8 - b) (drop b s))
lent s b h = omega (arith, length-take-le (b + 8 - b) (drop b s) (omega (arith, length-drop b s)))

module _ {s out : List ℕ} {luma first second n : ℕ} (ok : ColourFits s out luma first second 2 n 0) where
  pub pairs_three : (u : List ℕ) {e : List ℕ} → Gathered s luma 16 u
      → e ≡ tinted u (take (first + 8 - first) (drop first s)) (take (second + 8 - second) (drop second s)) n out
      → e ≡ pixels (in_three s luma first second 2 true) 3 0 n out
  pairs_three u gathered h =
      pixels_same _ _ _ _ _ _ _
      (h
      ∙ tinted_drawn u (take (first + 8 - first) (drop first s)) (take (second + 8 - second) (drop second s)) n out
      (lent s first ok.second) (lent s second ok.third) most (omega (arith, ok.room)))
      (λ i c l m. pairs_in_three s luma first second (first + 8 - first) (second + 8 - second) n u most (omega arith) (omega arith)
      (λ j k. gathered j (omega (arith, most))) i c l)
    where
      most : n ≤ 16
      most = omega (arith, ok.within)

-- ---- any MCU

module _ {s out places : List ℕ} {offset : ℕ} {across : List ℕ} {largest n channels at : ℕ}
    (ok : McuFits s out places offset across largest n channels at) where
  pub mcu_of : (k : ℕ) → channels ≡ k → McuFits s out places offset across largest n k at
  mcu_of k e = subst (λ j. McuFits s out places offset across largest n j at) e ok

  pub some_wide : 1 ≤ largest
  some_wide = omega (arith, ok.lanes 0 ok.some)

  pub few_pixels : n ≤ 32
  few_pixels = omega (arith, ok.within, ok.most)

  -- of one channel and one block across
  pub gray_fits : channels ≡ 1 → largest ≡ 1 → (get_or places 0 0 + offset + n ≤ length s) × (at + n ≤ length out)
  gray_fits e one = (omega (arith, ok.lanes 0 ok.some, ok.within), omega (arith, rw e at ok.room))

  pub gray_mcu : channels ≡ 1 → largest ≡ 1 → (colour : Bool) (d e : List ℕ)
      → e ≡ pixels (λ i c. get_or s (get_or places 0 0 + offset + i) 0) 1 at n d
      → e ≡ pixels (in_mcu s places offset across largest (colour and eqb channels 3)) channels at n d
  gray_mcu alone one colour d e h =
      rw (alone, and_false) (pixels_same _ _ _ _ _ _ _ h (λ i c p. gray_in_mcu s places offset across largest own one i c (omega (arith, ok.within))))
    where
      own : get_or across 0 0 ≡ 1
      own = omega (arith, ok.lanes 0 ok.some)

  -- of the usual three
  module _ (usual : Usual across largest channels) where
    pub usual_fits : ColourFits s out (get_or places 0 0 + offset) (get_or places 1 0 + offset) (get_or places 2 0 + offset) largest n at
    usual_fits =
        record {
          least = some_wide;
          most = ok.most;
          within = ok.within;
          first = omega (arith, (ok.lanes 0 (omega (arith, usual.three))).read, usual.first);
          second = omega (arith, (ok.lanes 1 (omega (arith, usual.three))).read, usual.second);
          third = omega (arith, (ok.lanes 2 (omega (arith, usual.three))).read, usual.third);
          room = rw usual.three at ok.room;
        }

    pub usual_mcu : (colour : Bool) (d e : List ℕ)
        → e ≡ pixels (in_three s (get_or places 0 0 + offset) (get_or places 1 0 + offset) (get_or places 2 0 + offset) largest colour) 3 at n d
        → e ≡ pixels (in_mcu s places offset across largest (colour and eqb channels 3)) channels at n d
    usual_mcu colour d e h =
        rw (usual.three, and_true)
        (pixels_same _ _ _ _ _ _ _ h
        (λ i c p. three_in_mcu s places offset across largest (subst (λ k. Usual across largest k) usual.three usual) some_wide colour i c (omega (arith, ok.within))))

  module _ {t : List ℕ} {luma first second hs : ℕ} {colour chosen : Bool}
      (taken : Taken s places across largest channels colour t luma first second hs chosen) where
    pub taken_fits : ColourFits t out (luma + offset) (first + offset) (second + offset) hs n at
    taken_fits = rw (taken.samples, taken.first, taken.second, taken.third, taken.wide) (usual_fits taken.usual)

    pub taken_mcu : (d e : List ℕ)
        → e ≡ pixels (in_three t (luma + offset) (first + offset) (second + offset) hs chosen) 3 at n d
        → e ≡ pixels (in_mcu s places offset across largest (colour and eqb channels 3)) channels at n d
    taken_mcu d e h =
        usual_mcu taken.usual colour d e (rw (taken.samples, taken.first, taken.second, taken.third, taken.wide, taken.coloured) at h)

  -- of any channels, by the number of them
  pub plain_mcu : (k : ℕ) → channels ≡ k → eqb k 3 ≡ false → (colour : Bool) (d e : List ℕ)
      → e ≡ pixels (in_mcu s places offset across largest false) k at n d
      → e ≡ pixels (in_mcu s places offset across largest (colour and eqb channels 3)) channels at n d
  plain_mcu k same other colour d e h = rw (same, other, and_false) h

  pub three_mcu : channels ≡ 3 → (colour : Bool) (d e : List ℕ)
      → e ≡ pixels (in_mcu s places offset across largest colour) 3 at n d
      → e ≡ pixels (in_mcu s places offset across largest (colour and eqb channels 3)) channels at n d
  three_mcu same colour d e h = rw (same, and_true) h

  -- by lists that have the samples of each channel
  pub lists_mcu : (us : List (List ℕ)) (d e : List ℕ)
      → ((c : ℕ) → c < channels → Spread s (get_or places c 0 + offset) (get_or across c 0) largest (get_or us c []))
      → e ≡ pixels (in_lists us) channels at n d
      → e ≡ pixels (in_mcu s places offset across largest false) channels at n d
  lists_mcu us d e each h =
      pixels_same _ _ _ _ _ _ _ h (λ i c p. lists_in_mcu s places offset across largest us channels each i c (omega (arith, ok.within)))

  pub run_mcu : (us : List (List ℕ)) (colour : Bool) (d e : List ℕ)
      → ((c : ℕ) → c < 3 → Spread s (get_or places c 0 + offset) (get_or across c 0) largest (get_or us c []))
      → e ≡ pixels (in_run (get_or us 0 []) (get_or us 1 []) (get_or us 2 []) colour) 3 at n d
      → e ≡ pixels (in_mcu s places offset across largest colour) 3 at n d
  run_mcu us colour d e each h =
      pixels_same _ _ _ _ _ _ _ h
      (λ i c l. run_in_mcu s places offset across largest (get_or us 0 []) (get_or us 1 []) (get_or us 2 []) colour
      (each 0 (omega arith)) (each 1 (omega arith)) (each 2 (omega arith)) i c (omega (arith, ok.within)))

-- ---- an MCU in the part of the buffer that it fills

module _ {s out places : List ℕ} {offset : ℕ} {across : List ℕ} {largest n channels at : ℕ}
    (ok : McuFits s out places offset across largest n channels at) (e : ℕ) (end : e ≡ at + n * channels) where
  pub lent_fits : McuFits s (take (e - at) (drop at out)) places offset across largest n channels 0
  lent_fits =
      record {
        some = ok.some;
        few = ok.few;
        most = ok.most;
        lanes = ok.lanes;
        within = ok.within;
        room = omega (arith, length-take-le (e - at) (drop at out) (omega (arith, length-drop at out, ok.room)));
      }

  pub lent_drawn : (p : ℕ → ℕ → ℕ) {ys : List ℕ} → ys ≡ pixels p channels 0 n (take (e - at) (drop at out))
      → take at out ++ (ys ++ drop (e - at) (drop at out)) ≡ pixels p channels at n out
  lent_drawn p h =
      ap (λ (l : List ℕ). take at out ++ (l ++ drop (e - at) (drop at out))) h
      ∙ pixels_in_part p channels at (e - at) n out (omega (arith, ok.room)) (omega arith)
