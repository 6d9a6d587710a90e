-- What an accepted header says of its record: the rules of the frame hold of its numbers, its sizes follow from them and are small,
-- and the tables of each channel stand before the first coded byte.
use Prim.Native.Nat.{ℕ, zero, suc, ◌+◌, ◌*◌, ◌^◌, ◌<◌, ◌≤◌, zero-le}
use mathlib.Core.Path.{◌≡◌, refl, ap, subst, subst⁻¹}
use mathlib.Core.Bool.{Bool, true, false, not, cond}
use mathlib.Core.List.{List}
use native.Mathlib.Omega.{arith}
use native.Mathlib.Nat.{not-suc-le-zero, mul-le-mul, div-lt_iff_lt-mul}
use lib.Dec.{T, leb, ltb, eqb, lit<, leb→le, ltb→lt}
use lib.ListN.{length, get_or, take}
use borrow.Author.Tests.{ltb-true, ltb-false, le-ltb}
use Rattle.reading.specs.declared.Refusal.{Refusal}
use Rattle.reading.specs.declared.Refusal.TheVariants.{CutShort, Malformed, Unsupported}
use Rattle.reading.specs.declared.Case.{Case}
use Rattle.reading.specs.declared.Case.TheVariants.{Marker, Quantizers, Huffman}
use Rattle.reading.specs.declared.Kind.{Kind}
use Rattle.reading.specs.declared.Kind.TheVariants.{Quants, Tables, Frames, Scans, Intervals, Skips, Others}
use Rattle.reading.specs.declared.Frame.{Frame}
use Rattle.reading.specs.declared.Header.{Header}
use Rattle.reading.specs.declared.Record.{Record}
use Rattle.reading.specs.Tests.{◌and◌, ◌or◌, apart}
use Rattle.reading.specs.Layout.{Shape, areas, widest, highest, ceiling, mcus_across, mcus_down, per_mcu, block_count, output_length, work_of}
use Rattle.reading.specs.Tables.{shape_of}
use Rattle.reading.specs.Header.{Stage, more, done, stop, byte, word, moved, window, each_from, each, with_quantizer, with_table, frame_known, across_of, down_of, counted, sampling_fits, quants_fit, frame_of, frame_fits}
use Rattle.reading.specs.Header.{has_frame, with_frame, with_interval, dc_id, ac_id, record_of, selected, kind_of, segment, segment_end, step_in, step, opens, started, opening, header}
use Rattle.reading.proofs.Plain.{and_left, and_right}
use Rattle.reading.proofs.Stages.{stop_or, chosen_or, steps_hold}
use Rattle.reading.proofs.HeaderEnds.{is_so}
use Rattle.reading.proofs.Sampling.{channels_are, wide_least, high_least, frame_sampling}
use Rattle.reading.proofs.Fits.{all_at}
use Rattle.reading.proofs.FileBytes.{AllBytes, byte_below, word_below, window_bytes}
use Rattle.reading.proofs.Frames.{FrameOk, Shaped}

-- ---- a number for each channel

module _ (ch : ℕ) (f : ℕ → ℕ) where
  -- behind the last channel there is 0
  each_past : (n i c : ℕ) → ch ≤ i + c → get_or (each_from n i ch f) c 0 ≡ 0
  each_past zero i c h = refl
  each_past (suc n) i zero h = rw (le-ltb i ch (omega arith))
  each_past (suc n) i (suc c) h = each_past n (suc i) c (omega arith)

  each_most : (k : ℕ) → ((c : ℕ) → c < ch → f c ≤ k) → (n i c : ℕ) → get_or (each_from n i ch f) c 0 ≤ k
  each_most k h zero i c = zero-le
  each_most k h (suc n) i zero = by (ltb i ch) refl
    where
      by : (t : Bool) → ltb i ch ≡ t → cond t (f i) 0 ≤ k
      by true p = h i (ltb-true i ch p)
      by false p = zero-le
  each_most k h (suc n) i (suc c) = each_most k h n (suc i) c

-- ---- the frame

module _ (b : List ℕ) (y : AllBytes b) (known : T (frame_known b)) (fits : T (frame_fits b (frame_of b))) where
  tested : T (sampling_fits b (byte b 5) and quants_fit (frame_of b) and leb (areas (shape_of (frame_of b)).factors) 10 and apart (take (byte b 5) (frame_of b).ids))
  tested = and_right (ltb 0 (word b 1)) _ (and_right (ltb 0 (word b 3)) _ fits)

  quants : T (quants_fit (frame_of b))
  quants = and_left (quants_fit (frame_of b)) _ (and_right (sampling_fits b (byte b 5)) _ tested)

  quant_ids : (c : ℕ) → get_or (frame_of b).qids c 0 ≤ 3
  quant_ids c = go (ltb c (byte b 5)) refl
    where
      go : (t : Bool) → ltb c (byte b 5) ≡ t → get_or (frame_of b).qids c 0 ≤ 3
      go true p = leb→le _ 3 (all_at (λ c. leb (get_or (frame_of b).qids c 0) 3) (byte b 5) 0 quants c zero-le (omega (arith, ltb-true c (byte b 5) p)))
      go false p = omega (arith, each_past (byte b 5) (λ k. byte b (8 + 3 * k)) 4 0 c (omega (arith, ltb-false c (byte b 5) p)))

  -- a single channel's factors
  one : (g : ℕ → ℕ) → byte b 5 ≡ 1 → get_or (each (byte b 5) (λ c. counted (byte b 5) (g c))) 0 0 ≡ 1
  one g e = subst⁻¹ (λ n. get_or (each n (λ c. counted n (g c))) 0 0 ≡ 1) e refl

  pub frame_ok : FrameOk (frame_of b)
  frame_ok =
      record {
        wide = (ltb→lt 0 _ (and_left (ltb 0 (word b 3)) _ fits), word_below b y 3);
        high = (ltb→lt 0 _ (and_left (ltb 0 (word b 1)) _ (and_right (ltb 0 (word b 3)) _ fits)), word_below b y 1);
        sampling = frame_sampling b known fits;
        single = λ e. (one (across_of b) e, one (down_of b) e);
        ids = λ c. omega (arith, each_most (byte b 5) (λ k. byte b (6 + 3 * k)) 255 (λ k h. omega (arith, byte_below b y (6 + 3 * k))) 4 0 c);
        qids = quant_ids;
        distinct =
            and_right (leb (areas (shape_of (frame_of b)).factors) 10) _
            (and_right (quants_fit (frame_of b)) _ (and_right (sampling_fits b (byte b 5)) _ tested));
      }

-- ---- sizes

pub ceiling_small : (a b : ℕ) → a < 65536 → 8 ≤ b → ceiling a b ≤ 8192
ceiling_small a b h p = let k : ceiling a b < 8193 = (div-lt_iff_lt-mul {k = b} (omega arith)).1 (omega (arith, h, p)) in omega (arith, k)

pub work_is : (p : Shape) → work_of p ≡ 3136 * block_count p + output_length p
unfolding work_of
work_is p = refl

module _ (f : Frame) (ok : FrameOk f) where
  pub mcus_small : mcus_across (shape_of f) * mcus_down (shape_of f) ≤ 67108864
  mcus_small =
      mul-le-mul {n₂ = 8192} {m₂ = 8192}
      (ceiling_small f.width (8 * widest (shape_of f).factors) ok.wide.1 (omega (arith, wide_least f ok.sampling)))
      (ceiling_small f.height (8 * highest (shape_of f).factors) ok.high.1 (omega (arith, high_least f ok.sampling)))

  pub bytes_are : output_length (shape_of f) ≡ f.width * f.height * f.channels
  unfolding output_length
  bytes_are = ap (λ k. f.width * f.height * k) (channels_are f)

  pub count_small : block_count (shape_of f) ≤ 671088640
  unfolding block_count per_mcu
  count_small = mul-le-mul {n₂ = 67108864} {m₂ = 10} mcus_small ok.sampling.blocks

  pub pixels_small : f.width * f.height ≤ 4294836225
  pixels_small = mul-le-mul {n₂ = 65535} {m₂ = 65535} (omega (arith, ok.wide.1)) (omega (arith, ok.high.1))

  pub output_small : f.width * f.height * f.channels ≤ 17179344900
  output_small = mul-le-mul {n₂ = 4294836225} {m₂ = 4} pixels_small ok.sampling.few

-- ---- the record

pub record Accepted (colour : Bool) (r : Record) : Type 0 where
  pub frame : FrameOk r.frame
  pub dcids : (c : ℕ) → get_or r.dcids c 0 ≤ 3
  pub acids : (c : ℕ) → get_or r.acids c 0 ≤ 3
  pub blocks : r.blocks ≡ block_count (shape_of r.frame)
  pub scratch : r.scratch ≡ 64 * r.blocks
  pub output : r.output ≡ r.frame.width * r.frame.height * r.frame.channels
  pub work : r.work ≡ 3136 * r.blocks + r.output
  pub choice : r.colour ≡ colour
  pub interval : r.interval < 65536

module _ (colour : Bool) (r : Record) (a : Accepted colour r) where
  pub blocks_below : r.blocks < 2 ^ 30
  blocks_below = omega (arith, a.blocks, count_small r.frame a.frame)

  pub output_below : r.output < 2 ^ 35
  output_below = omega (arith, a.output, output_small r.frame a.frame)

  pub work_below : r.work < 2 ^ 42
  work_below = omega (arith, a.work, blocks_below, output_below)

module _ (colour : Bool) where
  found_ok : (b : List ℕ) (h : Header) (e : ℕ) → FrameOk h.frame → h.interval < 65536 → T (selected b h.frame.channels) → Accepted colour (record_of b colour h e)
  found_ok b h e ok n t =
      record {
        frame = ok;
        dcids = each_most h.frame.channels (dc_id b) 3 (λ c p. leb→le (dc_id b c) 3 (and_left (leb (dc_id b c) 3) _ (both c p))) 4 0;
        acids = each_most h.frame.channels (ac_id b) 3 (λ c p. leb→le (ac_id b c) 3 (and_right (leb (dc_id b c) 3) _ (both c p))) 4 0;
        blocks = refl;
        scratch = refl;
        output = bytes_are h.frame ok;
        work = work_is (shape_of h.frame);
        choice = refl;
        interval = n;
      }
    where
      none : (n : ℕ) → n ≡ 0 + n
      none n = omega arith

      both : (c : ℕ) → c < h.frame.channels → T (leb (dc_id b c) 3 and leb (ac_id b c) 3)
      both c p = all_at (λ c. leb (dc_id b c) 3 and leb (ac_id b c) 3) h.frame.channels 0 t c zero-le (subst (λ n. c < n) (none h.frame.channels) p)

  -- what each stage has: a frame that was read is one of the rules, an interval has two bytes, and so of a record
  pub data Sound : Stage → Type 0 where
    on : (h : Header) → Shaped h → Sound (more h)
    met : (r : Record) → Accepted colour r → Sound (done r)
    off : (x : Refusal) → Sound (stop x)

  segment_sound : (h : Header) → Shaped h → (k : Kind) (b : List ℕ) → AllBytes b → (a e : ℕ) → Sound (segment colour h k b a e)
  segment_sound h f Quants b y a e = stop_or Sound off _ _ _ (λ t. on (moved h a (Quantizers e)) f)
  segment_sound h f Tables b y a e = stop_or Sound off _ _ _ (λ t. on (moved h a (Huffman e)) f)
  segment_sound h f Frames b y a e =
      stop_or Sound off _ _ _ (λ t1. stop_or Sound off _ _ _ (λ t2. stop_or Sound off _ _ _ (λ t3. stop_or Sound off _ _ _
      (λ t4. on (with_frame h e (frame_of b)) ((λ _. frame_ok b y (is_so (frame_known b) t2) (is_so (frame_fits b (frame_of b)) t4)), f.1)))))
  segment_sound h f Scans b y a e =
      stop_or Sound off _ _ _ (λ t1. stop_or Sound off _ _ _ (λ t2. stop_or Sound off _ _ _ (λ t3. stop_or Sound off _ _ _ (λ t4. stop_or Sound off _ _ _
      (λ t5. met (record_of b colour h e) (found_ok b h e (f.0 (ltb→lt 0 h.frame.channels (is_so (has_frame h) t1))) f.1 (is_so (selected b h.frame.channels) t4)))))))
  segment_sound h f Intervals b y a e = stop_or Sound off _ _ _ (λ t. on (with_interval h e (word b 0)) (f.0, word_below b y 0))
  segment_sound h f Skips b y a e = on (moved h e Marker) f
  segment_sound h f Others b y a e = off Unsupported

  module _ (s : List ℕ) (y : AllBytes s) where
    step_in_sound : (h : Header) → Shaped h → (c : Case) → Sound (step_in s colour h c)
    step_in_sound h f Marker =
        stop_or Sound off (ltb (length s) (h.at + 2) or not (eqb (byte s h.at) 255)) Malformed _
        (λ t1. chosen_or Sound (eqb (byte s (h.at + 1)) 255) _ _ (λ t2. on (moved h (h.at + 1) Marker) f)
        (λ t2. stop_or Sound off (eqb (byte s (h.at + 1)) 217) Malformed _
        (λ t3. stop_or Sound off (ltb (length s) (h.at + 4) or ltb (word s (h.at + 2)) 2 or ltb (length s) (segment_end s h.at)) CutShort _
        (λ t4. segment_sound h f (kind_of (byte s (h.at + 1))) (window s (h.at + 4) (segment_end s h.at)) (window_bytes s (h.at + 4) (segment_end s h.at) y) (h.at + 4) (segment_end s h.at)))))
    step_in_sound h f (Quantizers e) = chosen_or Sound (eqb h.at e) _ _ (λ t. on (moved h e Marker) f) (λ t. stop_or Sound off _ Malformed _ (λ u. on (with_quantizer (window s h.at e) h) f))
    step_in_sound h f (Huffman e) = chosen_or Sound (eqb h.at e) _ _ (λ t. on (moved h e Marker) f) (λ t. stop_or Sound off _ Malformed _ (λ u. on (with_table (window s h.at e) h) f))

    pub step_sound : (h : Header) → Shaped h → Sound (step s colour h)
    step_sound h f = step_in_sound h f h.case

    -- before the first step
    pub opening_shaped : Shaped opening
    opening_shaped = ((λ k. absurd (not-suc-le-zero k)), lit< tt)

    goes_on : (h : Header) → Sound (more h) → Sound (step s colour h)
    goes_on h (on _ f) = step_sound h f

    met_so : (r : Record) → Sound (done r) → Accepted colour r
    met_so r (met _ q) = q

    pub header_accepted : (r : Record) → header s colour ≡ done r → Accepted colour r
    unfolding header
    header_accepted r e =
        met_so r (subst Sound e
        (steps_hold s colour Sound goes_on (2 * length s + 1) (started s) (stop_or Sound off (not (opens s)) Malformed (more opening) (λ t. on opening opening_shaped))))
