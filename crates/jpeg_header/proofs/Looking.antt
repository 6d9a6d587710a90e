-- The loop that looks for a comment: what holds between two steps, and what each way out of a step says of the comment.
use Prim.Native.Nat.{ℕ, zero, suc, ◌+◌, ◌*◌, ◌<◌}
use mathlib.Core.Path.{◌≡◌, refl, sym, ap, ◌∙◌}
use mathlib.Core.Bool.{Bool, true, false, not, cond}
use mathlib.Core.List.{List, [], ◌∷◌, ◌++◌}
use native.Mathlib.Omega.{arith}
use native.Mathlib.Nat.{not-suc-le-zero}
use lib.ListN.{length}
use Rattle.reading.specs.declared.Refusal.{Refusal}
use Rattle.reading.specs.declared.Refusal.TheVariants.{Malformed}
use Rattle.reading.specs.declared.Header.{Header}
use Rattle.reading.specs.declared.Part.{Part}
use Rattle.reading.specs.Header.{Stage, more, done, stop, step, opens, opening}
use Rattle.reading.specs.Comments.{text_at, at_comment, passed, comments_from, comments, sought}
use Rattle.reading.proofs.Stages.{stop_go, stop_yes}
use Rattle.reading.proofs.HeaderEnds.{Room, left, opens_two}
use Rattle.reading.proofs.Comments.{comment_room}
use Rattle.reading.proofs.FileBytes.{AllBytes}
use Rattle.std.specs.Prelude.{Result, Ok, None, Some}
use Rattle.jpeg_header_state.specs.declared.Step.{Step}
use Rattle.jpeg_header_state.specs.declared.Step.TheVariants.{More}
use Rattle.jpeg_header_state.specs.Segments.{stepped}
use Rattle.jpeg_header_state.proofs.Segments.{stage_more}
use Rattle.jpeg_header.proofs.Run.{Running, run_start, run_more, run_down}

-- ---- one list before another

sought_none : (ps : List Part) (t : Bool) (p : Part) → t ≡ false → (n : ℕ) → sought (cond t (p ∷ []) [] ++ ps) n ≡ sought ps n
sought_none ps t p e n = rw e refl

sought_first : (ps : List Part) (t : Bool) (p : Part) → t ≡ true → (n : ℕ) → n ≡ 0 → sought (cond t (p ∷ []) [] ++ ps) n ≡ Some p
sought_first ps t p e n z = rw (e, z) refl

sought_later : (ps : List Part) (t : Bool) (p : Part) → t ≡ true → (n m : ℕ) → n ≡ suc m → sought (cond t (p ∷ []) [] ++ ps) n ≡ sought ps m
sought_later ps t p e n m z = rw (e, z) refl

none_from : (s : List ℕ) (k : ℕ) (st : Stage) → ((h : Header) → more h ≡ st → ⊥) → comments_from s k st ≡ []
none_from s zero st z = refl
none_from s (suc k) (more h) z = absurd (z h refl)
none_from s (suc k) (done r) z = refl
none_from s (suc k) (stop x) z = refl

none_passed : (s : List ℕ) (h : Header) (st : Stage) → ((g : Header) → more g ≡ st → ⊥) → passed s h st ≡ []
none_passed s h (more g) z = absurd (z g refl)
none_passed s h (done r) z = refl
none_passed s h (stop x) z = refl

module _ (s : List ℕ) (i : ℕ) where
  -- what holds between two steps: comment i is comment n of those over which the steps that are left go
  pub record Looking (h : Header) (n : ℕ) : Type 0 where
    pub run : Running s false h
    pub fuel : ℕ
    pub enough : left (length s) h < fuel
    pub same : sought (comments s) i ≡ sought (comments_from s fuel (more h)) n

  -- one step, out of the steps that are left
  record Next (h : Header) (n : ℕ) : Type 0 where
    fuel : ℕ
    less : left (length s) h < suc fuel
    same : sought (comments s) i ≡ sought (passed s h (step s false h) ++ comments_from s fuel (step s false h)) n

  next : (h : Header) (n : ℕ) → Looking h n → Next h n
  next h n l = go l.fuel l.enough l.same
    where
      go : (k : ℕ) → left (length s) h < k → sought (comments s) i ≡ sought (comments_from s k (more h)) n → Next h n
      go zero d e = absurd (not-suc-le-zero d)
      go (suc k) d e = record { fuel = k; less = d; same = e }

  -- the step went on to g
  module _ (h g : Header) (n : ℕ) (l : Looking h n) (v : Step) (w : v ≡ More g) (e : Ok v ≡ stepped (step s false h)) where
    abbrev here : Part
    here = text_at s h.at

    abbrev at : Bool
    at = at_comment s h.at h.case

    on : sought (comments s) i ≡ sought (cond at (here ∷ []) [] ++ comments_from s (next h n l).fuel (more g)) n
    on = (next h n l).same ∙ ap (λ st. sought (passed s h st ++ comments_from s (next h n l).fuel st) n) (sym (stage_more v g _ w e))

    pub look_down : left (length s) g < left (length s) h
    look_down = run_down s false h g l.run v w e

    goes : AllBytes s → (m : ℕ)
        → sought (cond at (here ∷ []) [] ++ comments_from s (next h n l).fuel (more g)) n ≡ sought (comments_from s (next h n l).fuel (more g)) m
        → Looking g m
    goes y m z =
        record {
          run = run_more s false h g l.run v w e y;
          fuel = (next h n l).fuel;
          enough = omega (arith, look_down, (next h n l).less);
          same = on ∙ z;
        }

    pub look_on : AllBytes s → at ≡ false → Looking g n
    look_on y a = goes y n (sought_none _ at here a n)

    -- of the comments before the one sought, one fewer is left behind the step
    pub look_past : AllBytes s → at ≡ true → (m : ℕ) → n ≡ suc m → Looking g m
    look_past y a m z = goes y m (sought_later _ at here a n m z)

    -- the segment of a comment is there
    pub look_room : at ≡ true → Room s h.at
    look_room a = comment_room s false h g a (stage_more v g _ w e)

    -- none is left to go over before this one: it is sought
    pub look_found : at ≡ true → n ≡ 0 → Some here ≡ sought (comments s) i
    look_found a z = sym (on ∙ sought_first _ at here a n z)

  -- the step did not go on
  pub look_end : (h : Header) (n : ℕ) → Looking h n → (r : Result Step Refusal)
      → r ≡ stepped (step s false h)
      → ((g : Header) → r ≡ Ok (More g) → ⊥)
      → None ≡ sought (comments s) i
  unfolding stepped
  look_end h n l r e z =
      let ends : (g : Header) → more g ≡ step s false h → ⊥ = λ g w. z g (e ∙ ap stepped (sym w)) in
      let nothing = both (none_passed s h (step s false h) ends) (none_from s (next h n l).fuel (step s false h) ends) in
      sym ((next h n l).same ∙ ap (λ ps. sought ps n) nothing)
    where
      both : {ps qs : List Part} → ps ≡ [] → qs ≡ [] → ps ++ qs ≡ []
      both p q = rw (p, q) refl

  pub look_start : opens s ≡ true → Looking opening i
  unfolding comments
  look_start e =
      record {
        run = run_start s false e;
        fuel = 2 * length s + 1;
        enough = omega (arith, opens_two s (ap not e));
        same = ap (λ st. sought (comments_from s (2 * length s + 1) st) i) (stop_go (not (opens s)) Malformed (more opening) (ap not e));
      }

  pub look_closed : opens s ≡ false → None ≡ sought (comments s) i
  unfolding comments
  look_closed e =
      sym (ap (λ st. sought (comments_from s (2 * length s + 1) st) i) (stop_yes (not (opens s)) Malformed (more opening) (ap not e))
      ∙ ap (λ ps. sought ps i) (none_from s (2 * length s + 1) (stop Malformed) (λ h w. cc)))
