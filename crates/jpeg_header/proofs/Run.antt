-- The loop of the header: what holds between two steps, and what each way out of a step says of the whole header.
use Prim.Native.Nat.{ℕ, zero, suc, ◌+◌, ◌*◌, ◌-◌, ◌<◌, ◌≤◌}
use mathlib.Core.Path.{◌≡◌, sym, ap, ◌∙◌, subst⁻¹}
use mathlib.Core.Bool.{Bool, true, false, not}
use mathlib.Core.List.{List}
use native.Mathlib.Omega.{arith}
use native.Mathlib.Nat.{not-suc-le-zero}
use lib.Dec.{lit<}
use lib.ListN.{length, drop, length-take}
use Rattle.reading.specs.declared.Refusal.{Refusal}
use Rattle.reading.specs.declared.Refusal.TheVariants.{Malformed}
use Rattle.reading.specs.declared.Case.{Case}
use Rattle.reading.specs.declared.Case.TheVariants.{Marker, Quantizers, Huffman}
use Rattle.reading.specs.declared.Header.{Header}
use Rattle.reading.specs.declared.Record.{Record}
use Rattle.reading.specs.Header.{more, window, step, steps, opens, opening, header}
use Rattle.reading.proofs.Stages.{stop_go, stop_yes}
use Rattle.reading.proofs.HeaderPrefix.{steps_done, steps_stop}
use Rattle.reading.proofs.HeaderEnds.{Down, on, inside, left, opens_two, step_down}
use Rattle.reading.proofs.HeaderEnds.{Ok as Inner}
use Rattle.reading.proofs.FileBytes.{AllBytes}
use Rattle.reading.proofs.Frames.{Shaped}
use Rattle.reading.specs.Code.Heads.{headed}
use Rattle.std.specs.Prelude.{Ok, Err}
use Rattle.jpeg_header_state.specs.declared.Step.{Step}
use Rattle.jpeg_header_state.specs.declared.Step.TheVariants.{More, Done}
use Rattle.jpeg_header_state.specs.Segments.{stepped}
use Rattle.jpeg_header_state.proofs.Segments.{stage_more, stage_done, stage_stop}
use Rattle.jpeg_header.specs.Steps.{Inside, InsideCase}
use Rattle.reading.proofs.Accepted.{Sound, step_sound}
use Rattle.reading.proofs.Accepted as accepted

module _ (s : List ℕ) (colour : Bool) where
  -- what holds between two steps: the steps that are left give the whole header
  pub record Running (h : Header) : Type 0 where
    pub fuel : ℕ
    pub ok : Inner (length s) h
    pub shaped : Shaped h
    pub enough : left (length s) h < fuel
    pub same : header s colour ≡ steps s colour fuel (more h)

  sound_more : (h : Header) → Sound colour (more h) → Shaped h
  sound_more h (accepted.on _ f) = f

  down_more : (n m : ℕ) (h : Header) → Down n m (more h) → Inner n h × (left n h < m)
  down_more n m h (on _ o d) = (o, d)

  -- one step, out of the steps that are left
  record Next (h : Header) : Type 0 where
    fuel : ℕ
    less : left (length s) h < suc fuel
    same : header s colour ≡ steps s colour fuel (step s colour h)

  next : (h : Header) → Running h → Next h
  next h r = go r.fuel r.enough r.same
    where
      go : (k : ℕ) → left (length s) h < k → header s colour ≡ steps s colour k (more h) → Next h
      go zero l e = absurd (not-suc-le-zero l)
      go (suc k) l e = record { fuel = k; less = l; same = e }

  -- the step went on to i
  module _ (h i : Header) (r : Running h) (v : Step) (w : v ≡ More i) (e : Ok v ≡ stepped (step s colour h)) where
    down : Inner (length s) i × (left (length s) i < left (length s) h)
    down =
        down_more (length s) (left (length s) h) i
        (subst⁻¹ (Down (length s) (left (length s) h)) (stage_more v i _ w e) (step_down s colour h r.ok))

    pub run_down : left (length s) i < left (length s) h
    run_down = down.1

    pub run_more : AllBytes s → Running i
    run_more y =
        record {
          fuel = (next h r).fuel;
          ok = down.0;
          shaped = sound_more i (subst⁻¹ (Sound colour) (stage_more v i _ w e) (step_sound colour s y h r.shaped));
          enough = omega (arith, down.1, (next h r).less);
          same = (next h r).same ∙ ap (steps s colour (next h r).fuel) (sym (stage_more v i _ w e));
        }

  -- the step did not go on
  pub run_done : (h : Header) (q : Record) (v : Step) → Running h
      → v ≡ Done q
      → Ok v ≡ stepped (step s colour h)
      → Ok q ≡ headed (header s colour)
  run_done h q v r w e =
      sym (ap headed ((next h r).same ∙ ap (steps s colour (next h r).fuel) (sym (stage_done v q _ w e)) ∙ steps_done s colour (next h r).fuel q))

  pub run_stop : (h : Header) (x : Refusal) → Running h → Err x ≡ stepped (step s colour h) → Err x ≡ headed (header s colour)
  run_stop h x r e =
      sym (ap headed ((next h r).same ∙ ap (steps s colour (next h r).fuel) (sym (stage_stop x _ e)) ∙ steps_stop s colour (next h r).fuel x))

  pub run_inside : (h : Header) → Running h → Inside (length s) h
  run_inside h r = go h.case r.ok.1
    where
      go : (c : Case) → inside (length s) h.at c → InsideCase (length s) h.at c
      go Marker i = r.ok.0
      go (Quantizers e) i = i
      go (Huffman e) i = i

  pub run_start : opens s ≡ true → Running opening
  unfolding header
  run_start e =
      record {
        fuel = 2 * length s + 1;
        ok = (opens_two s (ap not e), tt);
        shaped = ((λ k. absurd (not-suc-le-zero k)), lit< tt);
        enough = omega (arith, opens_two s (ap not e));
        same = ap (steps s colour (2 * length s + 1)) (stop_go (not (opens s)) Malformed (more opening) (ap not e));
      }

  pub run_closed : opens s ≡ false → Err Malformed ≡ headed (header s colour)
  unfolding header
  run_closed e =
      let closed = ap (steps s colour (2 * length s + 1)) (stop_yes (not (opens s)) Malformed (more opening) (ap not e)) in
      sym (ap headed (closed ∙ steps_stop s colour (2 * length s + 1) Malformed))

-- a window is no longer than its bounds say
pub window_room : (s : List ℕ) (a e : ℕ) → a ≤ e → a + length (window s a e) ≤ e
window_room s a e h = rw (length-take (e - a) (drop a s)) (omega arith)
