-- The test of a frame is what rendering stands on, and what is rendered where it passes and where it fails.
use Prim.Native.Nat.{ℕ, ◌*◌, ◌<◌, ◌≤◌}
use mathlib.Core.Path.{◌≡◌, refl, ap, sym, ◌∙◌, subst⁻¹}
use mathlib.Core.Bool.{Bool, true, false, cond}
use mathlib.Core.List.{List}
use lib.Dec.{T, leb, leb→le}
use lib.ListN.{length}
use borrow.Author.Tests.{le-leb, lt-leb}
use Rattle.std.specs.Prelude.{Some, None}
use Rattle.reading.specs.declared.Frame.{Frame}
use Rattle.reading.specs.declared.Mcu.{Mcu}
use Rattle.reading.specs.Tests.{◌and◌, over}
use Rattle.reading.specs.Layout.{block_count}
use Rattle.reading.specs.Tables.{shape_of}
use Rattle.reading.specs.Reading.{picture}
use Rattle.reading.specs.Code.Mcus.{sampled, measured}
use Rattle.reading.proofs.Plain.{and_left, and_right}
use Rattle.reading.proofs.Sampling.{measured_none, measured_some}
use Rattle.jpeg_render.specs.Rows.{Sized, Drawable}
use Rattle.jpeg_render.specs.Rendered.{framed, fits, rendered}
use Rattle.jpeg_render.proofs.Shades.{and_false}

is_true : (b : Bool) → T b → b ≡ true
is_true true t = refl
is_true false t = absurd t

-- ---- the frame's numbers

module _ (r : Frame) where
  pub framed_sized : framed r ≡ true → Sized r
  unfolding framed
  framed_sized e =
      let a : T (sampled r and leb r.width 65535 and leb r.height 65535) = subst⁻¹ T e tt in
      let sides = and_right (sampled r) _ a in
      record {
        sampling = is_true (sampled r) (and_left (sampled r) _ a);
        width_most = leb→le r.width 65535 (and_left (leb r.width 65535) _ sides);
        height_most = leb→le r.height 65535 (and_right (leb r.width 65535) _ sides);
      }

  pub sized_framed : Sized r → framed r ≡ true
  unfolding framed
  sized_framed ok = rw (ok.sampling, le-leb _ _ ok.width_most, le-leb _ _ ok.height_most) refl

  -- what has no measures has numbers that no frame has
  pub wide_unframed : 65535 < r.width → framed r ≡ false
  unfolding framed
  wide_unframed h = rw (lt-leb _ _ h) (and_false (sampled r))

  pub high_unframed : 65535 < r.height → framed r ≡ false
  unfolding framed
  high_unframed h = rw (lt-leb _ _ h) (go (leb r.width 65535))
    where
      go : (t : Bool) → (sampled r and t and false) ≡ false
      go true = and_false (sampled r)
      go false = and_false (sampled r)

  pub none_unframed : None ≡ measured r → framed r ≡ false
  unfolding framed
  none_unframed e = rw (measured_none r e) refl

  pub some_sized : {m : Mcu} → Some m ≡ measured r → r.width ≤ 65535 → r.height ≤ 65535 → Sized r
  some_sized e w h = record { sampling = measured_some r e; width_most = w; height_most = h }

pub ruleset unmeasured = (wide_unframed, high_unframed, none_unframed, some_sized)

-- ---- with the buffers

module _ (r : Frame) (samples out : List ℕ) where
  pub fits_drawable : fits r (length samples) (length out) ≡ true → Drawable r samples out
  unfolding fits
  fits_drawable e =
      let a : T (framed r and leb (r.width * r.height * r.channels) (length out) and leb (64 * block_count (shape_of r)) (length samples)) = subst⁻¹ T e tt in
      let b = and_right (framed r) _ a in
      record {
        sized = framed_sized r (is_true (framed r) (and_left (framed r) _ a));
        room = leb→le _ _ (and_left (leb (r.width * r.height * r.channels) (length out)) _ b);
        whole = leb→le _ _ (and_right (leb (r.width * r.height * r.channels) (length out)) _ b);
      }

  drawable_fits : Drawable r samples out → fits r (length samples) (length out) ≡ true
  unfolding fits
  drawable_fits ok =
      rw (sized_framed r ok.sized, le-leb _ _ ok.room, le-leb _ _ ok.whole) refl

-- ---- what is rendered

module _ (r : Frame) (colour : Bool) (samples out : List ℕ) where
  -- a frame that can be drawn is drawn
  pub rendered_drawable : Drawable r samples out → rendered r colour samples out ≡ over (picture (shape_of r) colour samples) out
  unfolding rendered
  rendered_drawable ok = ap (λ t. cond t (over (picture (shape_of r) colour samples) out) out) (drawable_fits r samples out ok)

  -- by the test
  pub rendered_fit : {e : List ℕ} → fits r (length samples) (length out) ≡ true
      → e ≡ over (picture (shape_of r) colour samples) out
      → e ≡ rendered r colour samples out
  rendered_fit t h = h ∙ sym (rendered_drawable (fits_drawable r samples out t))

  pub rendered_unframed : framed r ≡ false → out ≡ rendered r colour samples out
  unfolding rendered fits
  rendered_unframed t = rw t refl

  pub rendered_unfit : fits r (length samples) (length out) ≡ false → out ≡ rendered r colour samples out
  unfolding rendered
  rendered_unfit t = sym (ap (λ b. cond b (over (picture (shape_of r) colour samples) out) out) t)
