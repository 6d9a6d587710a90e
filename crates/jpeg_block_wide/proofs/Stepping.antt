-- One step of a block, at a bit place and at a cursor that meet: by the plain walk.
use Prim.Native.Nat.{ℕ, ◌+◌, ◌-◌, ◌/◌, ◌^◌, ◌<◌, ◌≤◌}
use mathlib.Core.Path.{◌≡◌, refl, sym, ◌∙◌, ap, subst, subst⁻¹}
use mathlib.Core.Bool.{Bool, true, false, cond}
use mathlib.Core.Logic.{⊎_elim}
use mathlib.Core.List.{List}
use native.Mathlib.Omega.{arith}
use lib.Dec.{eqb}
use lib.IntN.{ℤ, ◌+ℤ◌}
use lib.ListN.{get_or}
use Rattle.reading.specs.declared.Bits.{Bits}
use Rattle.reading.specs.declared.Fault.{Fault}
use Rattle.std.proofs.Common.{Result, Ok, Err, Fits, w8}
use Rattle.reading.specs.Reader.{Read, got, fault, rule, ◌>>◌, give}
use Rattle.reading.specs.Bits.{one, amplitude, meaning}
use Rattle.reading.specs.Huffman.{table_at, symbol}
use Rattle.reading.specs.Block.{predictable}
use Rattle.reading.proofs.FileBytes.{AllBytes, all_bytes}
use Rattle.jpeg_block.specs.declared.Asked.TheVariants as asked
use Rattle.jpeg_block.specs.declared.Step as code
use Rattle.jpeg_block.specs.declared.Step.TheVariants.{End, Skip, Put}
use Rattle.jpeg_block.specs.Step.{ask_at, asked_for, puts, step_read, level_at, value_at, stepped}
use Rattle.jpeg_block.proofs.Steps.{Room, value_room, step_cut, step_end, step_skip, step_wrong, step_value}
use Rattle.jpeg_bits_wide.specs.declared.Wide.{Wide}
use Rattle.jpeg_bits_wide.specs.Cursor.{Meets, topped, taken, fault_at}
use Rattle.jpeg_bits_wide.proofs.Coming.{Bared, Enough}
use Rattle.jpeg_bits_wide.proofs.Meeting.{Found, alike_got, alike_fault, amplitude_meets, amplitude_stops, topped_meets}
use Rattle.jpeg_huffman_table.specs.Symbols.{plainly}
use Rattle.jpeg_huffman_table.proofs.Agreeing.{few_counts}
use Rattle.jpeg_huffman_table.proofs.Meeting.{MeetsWith, plain_stops, plain_finds}
use Rattle.jpeg_block_wide.specs.Blocks.{Reads, Agree, Inside, SameStep, StepMeets}

-- ---- a cursor

abbrev pub cursor_at : ℕ → ℕ → ℕ → Wide
cursor_at at acc left = record { at = at; acc = acc; left = left }

-- ---- agreement

pub read_at : {A : Type 0} {s : List ℕ} {x : Read Bits A} {a : A} {b : Bits} {w : Wide} → x ≡ got a b → Meets s b w → Reads s x a w
read_at {b = b} e m = record { behind = b; is = e; meets = m }

pub agree_from : {A : Type 0} (s : List ℕ) {x y : Read Bits A} (z : Read Wide A) → x ≡ y → Agree s y z → Agree s x z
agree_from s (got a w) e h = read_at (e ∙ h.is) h.meets
agree_from s (fault f) e h = e ∙ h

-- ---- a value

-- the level that it makes
level_agrees : {s : List ℕ} {q : Bits} {w : Wide} (at : ℕ) (p v : ℤ) → Meets s q w → Agree s (level_at at p v q) (level_at at p v w)
level_agrees {s} {q} {w} at p v m = go (eqb at 0) (predictable (p +ℤ v))
  where
    go :
        (t u : Bool)
        → Agree s
        (cond t (rule u >> give (puts at (p +ℤ v))) (give (puts at v)) q)
        (cond t (rule u >> give (puts at (p +ℤ v))) (give (puts at v)) w)
    go true true = read_at refl m
    go true false = refl
    go false u = read_at refl m

pub value_agrees :
    {s : List ℕ} {q : Bits} {w : Wide} (at size : ℕ) (p : ℤ) {v : ℤ} (b : Bits)
    → amplitude (one s) size b ≡ got v q
    → Meets s q w
    → Agree s (value_at (one s) at size p b) (level_at at p v w)
unfolding value_at
value_agrees {s} {q} {w} at size p {v} b e m = agree_from s (level_at at p v w) (rw e) (level_agrees at p v m)

-- a level is put at its place
level_inside :
    (place at : ℕ) (p v : ℤ) (w : Wide)
    → place ≤ at
    → at < 64
    → (r : Result (code.Step Wide) Fault)
    → step_read r ≡ level_at at p v w
    → Inside place r
level_inside place at p v w h i (Ok (End q)) e = tt
level_inside place at p v w h i (Ok (Skip q)) e = tt
level_inside place at p v w h i (Err f) e = tt
level_inside place at p v w h i (Ok (Put n z q)) e = go (eqb at 0) (predictable (p +ℤ v)) e
  where
    there : (y : ℤ) → got (puts n z) q ≡ got (puts at y) w → (place ≤ n) × (n < 64)
    there y g = let same : n ≡ at = cc in (omega arith, omega arith)

    go : (t u : Bool) → got (puts n z) q ≡ cond t (rule u >> give (puts at (p +ℤ v))) (give (puts at v)) w → (place ≤ n) × (n < 64)
    go true true g = there (p +ℤ v) g
    go true false g = let none : ◌≡◌ {A = ℕ} 0 1 = cc in absurd (let never : ⊥ = omega arith in never)
    go false u g = there v g

-- from what `level` was given to what that is
pub same_level :
    (at : ℕ) (r : Result (code.Step Wide) Fault) {p p' v v' : ℤ} {w w' : Wide}
    → step_read r ≡ level_at at p v w
    → p ≡ p'
    → v ≡ v'
    → w ≡ w'
    → step_read r ≡ level_at at p' v' w'
same_level at r {p} {p'} {v} {v'} {w} {w'} h e f g = h ∙ ap (λ x. level_at at x v w) e ∙ ap (λ x. level_at at p' x w) f ∙ ap (λ x. level_at at p' v' x) g

-- ---- a symbol by the plain walk

-- a cursor that was filled up is met by the same bit places
pub topped_moved : {s : List ℕ} → AllBytes s → {w q : Wide} → q ≡ topped s w → (b : Bits) → Meets s b w → Meets s b q
topped_moved {s} bytes e b m = subst⁻¹ (Meets s b) e (topped_meets bytes m)

-- a slice of bytes
pub file_bytes : (s : List ℕ) → ((i : ℕ) → Fits w8 (get_or s i 0)) → AllBytes s
file_bytes s h = all_bytes s (λ i. let fits = h i in omega arith)

module _ (t : List ℕ) (base : ℕ) (s : List ℕ) (w : Wide) (place : ℕ) (p : ℤ) (bytes : AllBytes s) where
  pub plain_stopped : {f : Fault} → Err f ≡ plainly (table_at t base) s w → StepMeets t base s w place p (Err f)
  plain_stopped {f} e =
      record {
        inside = tt;
        same = λ b m. step_cut t s base b place p {r = Err f} (sym (plain_stops bytes m (table_at t base) (few_counts t base) e)) refl;
      }

  module _ {x : ℕ} {q : Wide} (e : Ok (x, q) ≡ plainly (table_at t base) s w) where
    found : (b : Bits) → Meets s b w → Found (MeetsWith s 41) (symbol (one s) (table_at t base) b) x q
    found b m = plain_finds bytes m (table_at t base) (few_counts t base) e

    pub plain_ended : Ok asked.End ≡ asked_for (ask_at place x) → StepMeets t base s w place p (Ok (End q))
    plain_ended g =
        record {
          inside = tt;
          same = λ b m. let f = found b m in read_at (step_end t s base b place p {r = Ok (x, f.place)} (sym f.is) refl g refl) f.related.0;
        }

    pub plain_skipped : Ok asked.Skip ≡ asked_for (ask_at place x) → StepMeets t base s w place p (Ok (Skip q))
    plain_skipped g =
        record {
          inside = tt;
          same = λ b m. let f = found b m in read_at (step_skip t s base b place p {r = Ok (x, f.place)} (sym f.is) refl g refl) f.related.0;
        }

    pub plain_wrong : {f : Fault} → Err f ≡ asked_for (ask_at place x) → StepMeets t base s w place p (Err f)
    plain_wrong g =
        record {
          inside = tt;
          same = λ b m. let f = found b m in step_wrong t s base b place p {r = Ok (x, f.place)} (sym f.is) refl g refl;
        }

    module _ {run size : ℕ} (g : Ok (asked.Value run size) ≡ asked_for (ask_at place x)) where
      room : Room place run size
      room = value_room place x g refl

      valued : (b : Bits) (m : Meets s b w) → stepped (one s) (table_at t base) place p b ≡ value_at (one s) (place + run) size p (found b m).place
      valued b m = step_value t s base b place p {r = Ok (x, (found b m).place)} (sym (found b m).is) refl g refl

      -- its value is not all there
      pub plain_cut : q.left < size → StepMeets t base s w place p (Err (fault_at s q.at))
      unfolding value_at
      plain_cut i = record { inside = tt; same = λ b m. valued b m ∙ cut (found b m) }
        where
          none : Enough s 41 q → Bared s q.at
          none = ⊎_elim (λ k. let never : ⊥ = omega (arith, room.few) in absurd never) (λ k. k)

          cut :
              {o : Read Bits ℕ} (f : Found (MeetsWith s 41) o x q)
              → value_at (one s) (place + run) size p f.place ≡ fault (fault_at s q.at)
          cut f = rw (alike_fault (Meets s) (amplitude (one s) size f.place) (fault_at s q.at) (amplitude_stops f.related.0 size i (none f.related.1)))

      -- its value is there
      pub plain_valued :
          size ≤ q.left
          → {r : Result (code.Step Wide) Fault}
          → step_read r ≡ level_at (place + run) p (meaning size (q.acc / 2 ^ (64 - size))) (taken size q)
          → StepMeets t base s w place p r
      plain_valued i {r} l =
          record {
            inside = level_inside place (place + run) p v (taken size q) (omega arith) room.inside r l;
            same = λ b m. subst (Agree s (stepped (one s) (table_at t base) place p b)) (sym l) (agree_from s (level_at (place + run) p v (taken size q)) (valued b m) (level (found b m)));
          }
        where
          v : ℤ
          v = meaning size (q.acc / 2 ^ (64 - size))

          level :
              {o : Read Bits ℕ} (f : Found (MeetsWith s 41) o x q)
              → Agree s (value_at (one s) (place + run) size p f.place) (level_at (place + run) p v (taken size q))
          level f =
              let a = alike_got (Meets s) (amplitude (one s) size f.place) v (taken size q) (amplitude_meets f.related.0 size i) in
              value_agrees (place + run) size p f.place a.is a.related

-- at another cursor that the same bit places meet
pub step_before :
    (t : List ℕ) (base : ℕ) {s : List ℕ} (place : ℕ) {p p' : ℤ} {r : Result (code.Step Wide) Fault} {w q : Wide}
    → ((b : Bits) → Meets s b w → Meets s b q)
    → p ≡ p'
    → StepMeets t base s q place p r
    → SameStep t base s w place p' r
step_before t base {s} place {r = r} moved e h b m = subst (λ k. Agree s (stepped (one s) (table_at t base) place k b) (step_read r)) e (h.same b (moved b m))
