-- The colour choice changes nothing of a reading but the record's own field for it.
use Prim.Native.Nat.{ℕ, zero, suc, ◌+◌, ◌*◌}
use mathlib.Core.Path.{◌≡◌, refl, ap, ◌∙◌}
use mathlib.Core.Bool.{Bool, true, false, cond, not}
use mathlib.Core.List.{List}
use lib.IntN.{ℤ}
use lib.Dec.{eqb, ltb}
use lib.ListN.{length}
use Rattle.reading.specs.declared.Bits.{Bits}
use Rattle.reading.specs.declared.Refusal.{Refusal}
use Rattle.reading.specs.declared.Refusal.TheVariants.{Malformed, CutShort}
use Rattle.reading.specs.declared.Case.{Case}
use Rattle.reading.specs.declared.Case.TheVariants.{Marker, Quantizers, Huffman}
use Rattle.reading.specs.declared.Kind.{Kind}
use Rattle.reading.specs.declared.Kind.TheVariants.{Quants, Tables, Frames, Scans, Intervals, Skips, Others}
use Rattle.reading.specs.declared.Header.{Header}
use Rattle.reading.specs.Tests.{◌or◌}
use Rattle.reading.specs.Header.{Stage, more, done, stop, stop_if, byte, word, window, moved, frame, scan_segment, kind_of, segment, segment_end, marker, step_in, step, steps, opens, opening, started, header}
use Rattle.reading.specs.Scan.{Scanned, whole, broke, levels}
use Rattle.reading.specs.Reading.{reading, read_from, scanned}
pub use Rattle.reading.specs.Words.{recolour, reread}

abbrev pub restage : Bool → Stage → Stage
restage c (more h) = more h
restage c (done r) = done (recolour c r)
restage c (stop x) = stop x

module _ (c d : Bool) where
  through : (t : Bool) (x : Refusal) (u v : Stage) → u ≡ restage c v → stop_if t x u ≡ restage c (stop_if t x v)
  unfolding stop_if
  through true x u v e = refl
  through false x u v e = e

  either : (t : Bool) (u u' v v' : Stage) → u ≡ restage c u' → v ≡ restage c v' → cond t u v ≡ restage c (cond t u' v')
  either true u u' v v' e f = e
  either false u u' v v' e f = f

  scan_choice : (b : List ℕ) (h : Header) (e : ℕ) → scan_segment b c h e ≡ restage c (scan_segment b d h e)
  scan_choice b h e = through _ _ _ _ (through _ _ _ _ (through _ _ _ _ (through _ _ _ _ (through _ _ _ _ refl))))

  frame_choice : (b : List ℕ) (h : Header) (e : ℕ) → frame b h e ≡ restage c (frame b h e)
  frame_choice b h e = through _ _ _ _ (through _ _ _ _ (through _ _ _ _ (through _ _ _ _ refl)))

  segment_choice : (h : Header) (k : Kind) (b : List ℕ) (a e : ℕ) → segment c h k b a e ≡ restage c (segment d h k b a e)
  segment_choice h Quants b a e = through _ _ _ _ refl
  segment_choice h Tables b a e = through _ _ _ _ refl
  segment_choice h Frames b a e = frame_choice b h e
  segment_choice h Scans b a e = scan_choice b h e
  segment_choice h Intervals b a e = through _ _ _ _ refl
  segment_choice h Skips b a e = refl
  segment_choice h Others b a e = refl

  marker_choice : (s : List ℕ) (h : Header) → marker s c h ≡ restage c (marker s d h)
  marker_choice s h =
      through _ _ _ _
      (either (eqb code 255) fill fill _ (behind d) refl
      (through (eqb code 217) Malformed _ (uncut d)
      (through cut CutShort (seg c) (seg d) (segment_choice h (kind_of code) (window s (h.at + 4) end) (h.at + 4) end))))
    where
      code : ℕ
      code = byte s (h.at + 1)

      end : ℕ
      end = segment_end s h.at

      fill : Stage
      fill = more (moved h (h.at + 1) Marker)

      cut : Bool
      cut = ltb (length s) (h.at + 4) or ltb (word s (h.at + 2)) 2 or ltb (length s) end

      seg : Bool → Stage
      seg k = segment k h (kind_of code) (window s (h.at + 4) end) (h.at + 4) end

      uncut : Bool → Stage
      uncut k = stop_if cut CutShort (seg k)

      behind : Bool → Stage
      behind k = stop_if (eqb code 217) Malformed (uncut k)

  step_choice : (s : List ℕ) (h : Header) (k : Case) → step_in s c h k ≡ restage c (step_in s d h k)
  step_choice s h Marker = marker_choice s h
  step_choice s h (Quantizers e) = either (eqb h.at e) (more (moved h e Marker)) (more (moved h e Marker)) _ _ refl (through _ _ _ _ refl)
  step_choice s h (Huffman e) = either (eqb h.at e) (more (moved h e Marker)) (more (moved h e Marker)) _ _ refl (through _ _ _ _ refl)

  run_choice : (s : List ℕ) (n : ℕ) (st : Stage) → steps s c n (restage c st) ≡ restage c (steps s d n st)
  run_choice s zero st = refl
  run_choice s (suc n) (more h) = ap (λ x. steps s c n x) (step_choice s h h.case) ∙ run_choice s n (step s d h)
  run_choice s (suc n) (done r) = refl
  run_choice s (suc n) (stop x) = refl

  pub header_choice : (s : List ℕ) → header s c ≡ restage c (header s d)
  unfolding header
  header_choice s = ap (λ x. steps s c (2 * length s + 1) x) (through (not (opens s)) Malformed (more opening) (more opening) refl) ∙ run_choice s (2 * length s + 1) (started s)

  read_choice : (s : List ℕ) (st : Stage) → read_from s (restage c st) ≡ reread c (read_from s st)
  unfolding levels
  read_choice s (more h) = refl
  read_choice s (stop x) = refl
  read_choice s (done r) = go (levels s r)
    where
      go : (x : Scanned Bits (List (List ℤ))) → scanned (recolour c r) x ≡ reread c (scanned r x)
      go (whole ls b) = refl
      go (broke w) = refl

  pub reading_choice : (s : List ℕ) → reading s c ≡ reread c (reading s d)
  reading_choice s = ap (read_from s) (header_choice s) ∙ read_choice s (header s d)
