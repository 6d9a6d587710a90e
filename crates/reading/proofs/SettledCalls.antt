-- Demand 3 in the calls' own words. The theorems on files set limits, budget and room aside; here they are given: what settle, inspect and
-- decode answer of a file that was settled, where they are enough.
use Prim.Native.Nat.{ℕ, ◌+◌, ◌<◌, ◌≤◌}
use mathlib.Core.Path.{◌≡◌, refl, sym, ap, ◌∙◌, subst, subst⁻¹}
use mathlib.Core.Bool.{Bool, true, false, cond}
use mathlib.Core.List.{List}
use mathlib.Core.Logic.{◌↔◌}
use mathlib.Core.Option.{Option, none, some}
use native.Mathlib.Omega.{arith}
use borrow.Author.Tests.{lt-ltb, le-ltb, ltb-true, ltb-false}
use lib.Dec.{T, ltb, eqb}
use lib.IntN.{ℤ}
use lib.ListN.{length, take, drop}
use lib.Seq.{take-append_seam}
use Rattle.reading.specs.declared.Budget.{Budget}
use Rattle.reading.specs.declared.Inspection.{Inspection}
use Rattle.reading.specs.declared.Limits.{Limits}
use Rattle.reading.specs.declared.Record.{Record}
use Rattle.reading.specs.declared.Fault.{Fault}
use Rattle.reading.specs.declared.Fault.TheVariants.{RanOut, Bare, NoCode, Broken}
use Rattle.reading.specs.declared.Refusal.{Refusal}
use Rattle.reading.specs.declared.Refusal.TheVariants.{ShortRoom, NoEndCode, Scan}
use Rattle.reading.specs.Verdicts.{Verdict}
use Rattle.std.specs.declared.result.Result.TheVariants.{Ok, Err}
use Rattle.reading.specs.Tests.{◌or◌, over}
use Rattle.reading.specs.Reading.{accepted, reading, picture_of}
use Rattle.reading.specs.Settled.{settled_file}
use Rattle.reading.specs.Judging.{Judged, accepts, refuses, Judging, onward, give_or, remaining}
use Rattle.reading.specs.Calls.{fault_number, number, header_price, ReadFile, judgement, inspection, inspect, Decoded, decode, Rewritten, unsettled, rewritten, settle}
use Rattle.reading.specs.Files.{head_in, coefficients_in, settled_in, lacks_end_in}
use Rattle.reading.specs.Words.{Not, AllBytes, Enough, Alike}
use Rattle.reading.proofs.HeaderNumbers.{OfHeader, cut_short, malformed, unsupported, header_number}
use Rattle.reading.proofs.Judgement.{Way, long, poor, headless, large, poor_for_work, admitted, Judges, stopped, broken, through, found_in, judged, judges, inspects, inspect_accepted}
use Rattle.reading.proofs.Decodings.{decode_accepted, decodes}
use Rattle.reading.proofs.Written.{absurd_some, some_list}
use Rattle.reading.proofs.WholeFiles.{accepted_so, reads_alike, coefficients_alike, samples_of_lem, settles_again, equal_so, want_so}

-- what is left of a budget behind a file with this record
abbrev pub left_behind : List ℕ → Record → Budget → Budget
left_behind s r budget = remaining budget (header_price s + r.work)

-- settle behind the judgement
abbrev pub file_of : List ℕ → ReadFile → Judging (List ℕ)
file_of s f = give_or NoEndCode (settled_file s f.found f.blocks)

-- a settled file in a buffer that has room for it
abbrev pub laid : List ℕ → Budget → List ℕ → Rewritten
laid t left out = record { answer = record { verdict = Ok tt; budget = left; length = length t }; output = over t out }

-- ---- from a reading to the call

module _ (s : List ℕ) (l : Limits) (budget : Budget) (out : List ℕ) (r : Record) (ls : List (List ℤ)) (e : reading s false ≡ accepted r ls) (h : Enough s r l budget) where
  settled_into : settle s l budget out ≡ rewritten out (give_or NoEndCode (settled_file s r ls) (left_behind s r budget))
  unfolding settle
  settled_into = ap (λ m. rewritten out (onward m (file_of s))) (judges s false l budget r ls e h)

  -- with room the settled file is laid
  pub settles : (t : List ℕ) → settled_file s r ls ≡ some t → length t ≤ length out → settle s l budget out ≡ laid t (left_behind s r budget) out
  settles t f k = settled_into ∙ ap (λ o. rewritten out (give_or NoEndCode o (left_behind s r budget))) f ∙ fits
    where
      fits : rewritten out (accepts t (left_behind s r budget)) ≡ laid t (left_behind s r budget) out
      fits = rw (le-ltb (length out) (length t) k) refl

  -- 7 names the length that is needed, and leaves the buffer as it was
  pub short_room : (t : List ℕ) → settled_file s r ls ≡ some t → length out < length t → settle s l budget out ≡ unsettled ShortRoom (left_behind s r budget) (length t) out
  short_room t f k = settled_into ∙ ap (λ o. rewritten out (give_or NoEndCode o (left_behind s r budget))) f ∙ short
    where
      short : rewritten out (accepts t (left_behind s r budget)) ≡ unsettled ShortRoom (left_behind s r budget) (length t) out
      short = rw (lt-ltb (length out) (length t) k) refl

-- ---- from the call to a reading

abbrev IsAccepted : Verdict → Type 0
IsAccepted (Ok u) = Unit {0}
IsAccepted (Err x) = ⊥

-- what an accepted settle says: the file settles to the bytes that now stand first in the buffer, and limits, budget and room were enough
pub record SettledBy (s : List ℕ) (l : Limits) (budget : Budget) (out : List ℕ) : Type 0 where
  pub found : Record
  pub blocks : List (List ℤ)
  pub file : List ℕ
  pub read : reading s false ≡ accepted found blocks
  pub does : settled_in s ≡ some file
  pub enough : Enough s found l budget
  pub room : length file ≤ length out
  pub is : settle s l budget out ≡ laid file (left_behind s found budget) out

module _ (s : List ℕ) (l : Limits) (budget : Budget) (out : List ℕ) where
  pub settled_by : (settle s l budget out).answer.verdict ≡ Ok tt → SettledBy s l budget out
  unfolding settle
  settled_by v = go (judgement s false l budget) (judged s false l budget) (subst⁻¹ IsAccepted v tt)
    where
      room_test :
          (r : Record) (ls : List (List ℤ))
          → reading s false ≡ accepted r ls
          → Enough s r l budget
          → (t : List ℕ)
          → settled_file s r ls ≡ some t
          → (q : Bool)
          → ltb (length out) (length t) ≡ q
          → IsAccepted (cond q (unsettled ShortRoom (left_behind s r budget) (length t) out) (laid t (left_behind s r budget) out)).answer.verdict
          → SettledBy s l budget out
      room_test r ls e h t f true p k = absurd k
      room_test r ls e h t f false p k =
          record {
            found = r;
            blocks = ls;
            file = t;
            read = e;
            does = accepted_so (settled_file s) none s false r ls e ∙ f;
            enough = h;
            room = ltb-false (length out) (length t) p;
            is = settles s l budget out r ls e h t f (ltb-false (length out) (length t) p);
          }

      file_test :
          (r : Record) (ls : List (List ℤ))
          → reading s false ≡ accepted r ls
          → Enough s r l budget
          → (o : Option (List ℕ))
          → settled_file s r ls ≡ o
          → IsAccepted (rewritten out (give_or NoEndCode o (left_behind s r budget))).answer.verdict
          → SettledBy s l budget out
      file_test r ls e h none f k = absurd k
      file_test r ls e h (some t) f k = room_test r ls e h t f (ltb (length out) (length t)) refl k

      go : (m : Judged ReadFile) → Judges s false l budget m → IsAccepted (rewritten out (onward m (file_of s))).answer.verdict → SettledBy s l budget out
      go m (stopped x b w) k = absurd k
      go m (broken r f e h w) k = absurd k
      go m (through r ls q e h w) k = file_test r ls (rw (e, w) refl) h (settled_file s r ls) refl k

-- ---- demand 3, of the calls

-- the settled file that a call left in its buffer
abbrev pub settled_bytes : Rewritten → List ℕ
settled_bytes w = take w.answer.length w.output

module _ (s : List ℕ) (l : Limits) (budget : Budget) (out : List ℕ) (z : SettledBy s l budget out) where
  abbrev pub bytes : List ℕ
  bytes = settled_bytes (settle s l budget out)

  pub bytes_are : bytes ≡ z.file
  bytes_are = ap settled_bytes z.is ∙ take-append_seam z.file (drop (length z.file) out)

  -- they are the settled file
  pub bytes_settled : settled_in s ≡ some bytes
  bytes_settled = z.does ∙ ap some (sym bytes_are)

  -- it reads as the file does by either colour choice: with the same record and the same levels
  pub settled_reads : (colour : Bool) → reading bytes colour ≡ reading s colour
  settled_reads = reads_alike s bytes bytes_settled

  pub coefficients_kept : coefficients_in bytes ≡ coefficients_in s
  coefficients_kept = coefficients_alike s bytes bytes_settled

  -- inspect accepts the file with this record
  pub record_is : (inspect s false l budget).found ≡ z.found
  record_is = ap (λ (i : Inspection). i.found) (inspects s false l budget z.found z.blocks z.read z.enough)

  module _ (l' : Limits) (budget' : Budget) where
    -- what inspect accepts of the file it accepts of the settled file, with the same record, where limits and budget suffice
    pub settled_inspects :
        (colour : Bool) (r : Record) (ls : List (List ℤ))
        → reading s colour ≡ accepted r ls
        → Enough bytes r l' budget'
        → inspect bytes colour l' budget' ≡ record { verdict = Ok tt; budget = left_behind bytes r budget'; found = r }
    settled_inspects colour r ls e h = inspects bytes colour l' budget' r ls (settled_reads colour ∙ e) h

    -- settling it again gives the same bytes
    pub settled_again :
        Enough bytes z.found l' budget'
        → (out' : List ℕ)
        → length bytes ≤ length out'
        → settle bytes l' budget' out' ≡ laid bytes (left_behind bytes z.found budget') out'
    settled_again e out' room =
        let read : reading bytes false ≡ accepted z.found z.blocks = settled_reads false ∙ z.read in
        settles bytes l' budget' out' z.found z.blocks read e bytes
        (sym (accepted_so (settled_file bytes) none bytes false z.found z.blocks read) ∙ settles_again s bytes bytes_settled) room

-- two files with one head settle to the same bytes exactly when their coefficients are equal
pub one_picture_one_file :
    (s s' : List ℕ) (l l' : Limits) (budget budget' : Budget) (out out' : List ℕ)
    → (z : SettledBy s l budget out)
    → (z' : SettledBy s' l' budget' out')
    → head_in s ≡ head_in s'
    → settled_bytes (settle s l budget out) ≡ settled_bytes (settle s' l' budget' out') ↔ coefficients_in s ≡ coefficients_in s'
one_picture_one_file s s' l l' budget budget' out out' z z' e =
    equal_so s s' (bytes s l budget out z) (bytes s' l' budget' out' z') (bytes_settled s l budget out z) (bytes_settled s' l' budget' out' z') e

-- ---- the settled file, decoded: the same samples and the same picture with the same record

pub settled_decodes :
    (s t : List ℕ)
    → settled_in s ≡ some t
    → (r : Record) (out scratch : List ℕ) (budget budget' : Budget)
    → (decode s r out scratch budget).answer.verdict ≡ Ok tt
    → header_price t + r.work ≤ budget'.left
    → Alike (decode s r out scratch budget) (decode t r out scratch budget')
settled_decodes s t h r out scratch budget budget' v p =
    let d = decode_accepted s r out scratch budget v in
    let w = decodes t r out scratch budget' d.blocks (reads_alike s t h r.colour ∙ d.read) d.room p in
    let same = samples_of_lem s t h r.colour r d.blocks d.read in
    record {
      verdict = ap (λ (d : Decoded). d.answer.verdict) w;
      output = ap (λ (d : Decoded). d.output) w ∙ ap (λ x. over (picture_of r x) out) same ∙ sym d.picture_is;
      scratch = ap (λ (d : Decoded). d.scratch) w ∙ ap (λ x. over x scratch) same ∙ sym d.samples_are;
    }

-- ---- the ways of settle

module _ (s : List ℕ) (l : Limits) (budget : Budget) (out : List ℕ) where
  abbrev Inspects : Type 0
  Inspects = (inspect s false l budget).verdict ≡ Ok tt

  refusal_of : {x y : Refusal} → ◌≡◌ {A = Verdict} (Err x) (Err y) → x ≡ y
  refusal_of e = cc

  -- not one of settle's own numbers
  abbrev OfInspect : Verdict → Type 0
  OfInspect v = T (eqb (number v) 7 or eqb (number v) 9) → ⊥

  pub data SettleWay : Rewritten → Type 0 where
    as_inspect : (x : Refusal) (b : Budget) → inspect s false l budget ≡ inspection (refuses x b) → OfInspect (Err x) → SettleWay (unsettled x b 0 out)
    nine : (b : Budget) → Inspects → settled_in s ≡ none → SettleWay (unsettled NoEndCode b 0 out)
    seven : (t : List ℕ) (b : Budget) → Inspects → settled_in s ≡ some t → length out < length t → SettleWay (unsettled ShortRoom b (length t) out)
    done : (t : List ℕ) (b : Budget) → Inspects → settled_in s ≡ some t → length t ≤ length out → SettleWay (laid t b out)

  header_not : (x : Refusal) → OfHeader x → OfInspect (Err x)
  header_not x cut_short k = k
  header_not x malformed k = k
  header_not x unsupported k = k

  way_not : (m : Judged Record) → Way s false l budget m → OfInspect (inspection m).verdict
  way_not m (long a) k = k
  way_not m (poor a p) k = k
  way_not m (headless x a e) k = header_not x (header_number s false x e) k
  way_not m (large r a e c) k = k
  way_not m (poor_for_work r a e c q) k = k
  way_not m (admitted r e h) k = k

  fault_not : (f : Fault) → T (eqb (fault_number f) 7 or eqb (fault_number f) 9) → ⊥
  fault_not RanOut k = k
  fault_not Bare k = k
  fault_not NoCode k = k
  fault_not Broken k = k

  pub settle_way : SettleWay (settle s l budget out)
  unfolding settle inspect
  settle_way = go (judgement s false l budget) refl (judged s false l budget)
    where
      room_way :
          (t : List ℕ) (b : Budget)
          → Inspects
          → settled_in s ≡ some t
          → (q : Bool)
          → ltb (length out) (length t) ≡ q
          → SettleWay (cond q (unsettled ShortRoom b (length t) out) (laid t b out))
      room_way t b a f true p = seven t b a f (ltb-true (length out) (length t) p)
      room_way t b a f false p = done t b a f (ltb-false (length out) (length t) p)

      file_way : (b : Budget) → Inspects → (o : Option (List ℕ)) → settled_in s ≡ o → SettleWay (rewritten out (give_or NoEndCode o b))
      file_way b a none f = nine b a f
      file_way b a (some t) f = room_way t b a f (ltb (length out) (length t)) refl

      go : (m : Judged ReadFile) → judgement s false l budget ≡ m → Judges s false l budget m → SettleWay (rewritten out (onward m (file_of s)))
      go m p (stopped x b w) = as_inspect x b (ap found_in p) (way_not (refuses x b) w)
      go m p (broken r x e h w) = as_inspect (Scan x) (left_behind s r budget) (ap found_in p) (fault_not x.fault)
      go m p (through r ls q e h w) = file_way (left_behind s r budget) (ap (λ m. (found_in m).verdict) p) (settled_file s r ls) (accepted_so (settled_file s) none s false r ls (rw (e, w) refl))

  -- settle refuses as inspect does, with the same number and the same left
  not_accepted : (x : Refusal) (b : Budget) → inspect s false l budget ≡ inspection (refuses x b) → Inspects → ⊥
  not_accepted x b e a = subst⁻¹ IsAccepted (sym (ap (λ (i : Inspection). i.verdict) e) ∙ a) tt

  one_file : {t u : List ℕ} → settled_in s ≡ some t → settled_in s ≡ some u → t ≡ u
  one_file a b = some_list (sym a ∙ b)

  abbrev numbered : ℕ → Verdict → Type 0
  numbered n v = T (eqb (number v) n)

  pub settle_accepts : (settle s l budget out).answer.verdict ≡ Ok tt ↔ Inspects × ((t : List ℕ) × (settled_in s ≡ some t) × (length t ≤ length out))
  settle_accepts = go (settle s l budget out) settle_way
    where
      go : (w : Rewritten) → SettleWay w → w.answer.verdict ≡ Ok tt ↔ Inspects × ((t : List ℕ) × (settled_in s ≡ some t) × (length t ≤ length out))
      go w (as_inspect x b e n) = (λ v. absurd (subst⁻¹ IsAccepted v tt), λ k. absurd (not_accepted x b e k.0))
      go w (nine b a f) = (λ v. absurd (subst⁻¹ IsAccepted v tt), λ k. absurd (absurd_some k.1.0 (sym f ∙ k.1.1)))
      go w (seven t b a f p) = (λ v. absurd (subst⁻¹ IsAccepted v tt), λ k. let z : ⊥ = omega (arith, p, k.1.2, ap length (one_file f k.1.1)) in absurd z)
      go w (done t b a f p) = (λ v. (a, (t, f, p)), λ k. refl)

  -- it then writes the settled file over the buffer, and returns its length
  pub settle_writes :
      (t : List ℕ)
      → settled_in s ≡ some t
      → (settle s l budget out).answer.verdict ≡ Ok tt
      → ((settle s l budget out).answer.length ≡ length t) × ((settle s l budget out).output ≡ over t out)
  settle_writes t e = go (settle s l budget out) settle_way
    where
      go : (w : Rewritten) → SettleWay w → w.answer.verdict ≡ Ok tt → (w.answer.length ≡ length t) × (w.output ≡ over t out)
      go w (as_inspect x b f n) v = absurd (subst⁻¹ IsAccepted v tt)
      go w (nine b a f) v = absurd (subst⁻¹ IsAccepted v tt)
      go w (seven u b a f p) v = absurd (subst⁻¹ IsAccepted v tt)
      go w (done u b a f p) v = (ap length (one_file f e), ap (λ x. over x out) (one_file f e))

  -- 7 exactly when inspect would accept and there is a settled file that is too long; its length is named
  pub settle_seven :
      (n : ℕ)
      → ((settle s l budget out).answer.verdict ≡ Err ShortRoom) × ((settle s l budget out).answer.length ≡ n)
      ↔ Inspects × ((t : List ℕ) × (settled_in s ≡ some t) × (length t ≡ n) × (length out < n))
  settle_seven n = go (settle s l budget out) settle_way
    where
      go :
          (w : Rewritten)
          → SettleWay w
          → (w.answer.verdict ≡ Err ShortRoom) × (w.answer.length ≡ n) ↔ Inspects × ((t : List ℕ) × (settled_in s ≡ some t) × (length t ≡ n) × (length out < n))
      go w (as_inspect x b e o) = (λ v. absurd (o (subst⁻¹ (λ v. T (eqb (number v) 7 or eqb (number v) 9)) v.0 tt)), λ k. absurd (not_accepted x b e k.0))
      go w (nine b a f) = (λ v. absurd (subst⁻¹ (numbered 7) v.0 tt), λ k. absurd (absurd_some k.1.0 (sym f ∙ k.1.1)))
      go w (seven t b a f p) = (λ v. (a, (t, f, v.1, subst (λ m. length out < m) v.1 p)), λ k. (refl, ap length (one_file f k.1.1) ∙ k.1.2))
      go w (done t b a f p) = (λ v. absurd (subst⁻¹ (numbered 7) v.0 tt), λ k. let z : ⊥ = omega (arith, p, k.1.2, k.1.3, ap length (one_file f k.1.1)) in absurd z)

  -- 9 exactly when inspect would accept and some block lacks its end code, whatever the room
  pub settle_nine : AllBytes s → (settle s l budget out).answer.verdict ≡ Err NoEndCode ↔ Inspects × T (lacks_end_in s)
  settle_nine y = go (settle s l budget out) settle_way
    where
      want : Inspects → settled_in s ≡ none ↔ T (lacks_end_in s)
      want a = let i = inspect_accepted s false l budget a in want_so s y (inspect s false l budget).found i.blocks i.read

      go : (w : Rewritten) → SettleWay w → w.answer.verdict ≡ Err NoEndCode ↔ Inspects × T (lacks_end_in s)
      go w (as_inspect x b e o) = (λ v. absurd (o (subst⁻¹ (λ v. T (eqb (number v) 7 or eqb (number v) 9)) v tt)), λ k. absurd (not_accepted x b e k.0))
      go w (nine b a f) = (λ v. (a, (want a).0 f), λ k. refl)
      go w (seven t b a f p) = (λ v. absurd (subst⁻¹ (numbered 9) v tt), λ k. absurd (absurd_some t (sym ((want a).1 k.1) ∙ f)))
      go w (done t b a f p) = (λ v. absurd (subst⁻¹ (numbered 9) v tt), λ k. absurd (absurd_some t (sym ((want a).1 k.1) ∙ f)))

  refusal_is :
      (x : Refusal) (i : Inspection)
      → i.verdict ≡ Err x
      → (y : Refusal) (c : Budget)
      → i ≡ inspection (refuses y c)
      → unsettled y c 0 out ≡ unsettled x i.budget 0 out
  refusal_is x i e y c f =
      let same : y ≡ x = refusal_of (sym (ap (λ (i : Inspection). i.verdict) f) ∙ e) in
      ap (λ z. unsettled z c 0 out) same ∙ ap (λ b. unsettled x b 0 out) (sym (ap (λ (i : Inspection). i.budget) f))

  -- every other refusal of settle is inspect's, with the same left
  pub settle_as_inspect : (x : Refusal) → (inspect s false l budget).verdict ≡ Err x → settle s l budget out ≡ unsettled x (inspect s false l budget).budget 0 out
  settle_as_inspect x e = go (settle s l budget out) settle_way
    where
      go : (w : Rewritten) → SettleWay w → w ≡ unsettled x (inspect s false l budget).budget 0 out
      go w (as_inspect y c f n) = refusal_is x (inspect s false l budget) e y c f
      go w (nine c a f) = absurd (subst⁻¹ IsAccepted (sym e ∙ a) tt)
      go w (seven t c a f p) = absurd (subst⁻¹ IsAccepted (sym e ∙ a) tt)
      go w (done t c a f p) = absurd (subst⁻¹ IsAccepted (sym e ∙ a) tt)

  -- a refusal leaves the buffer as it came; only 7 names a length
  pub settle_leaves :
      (x : Refusal)
      → (settle s l budget out).answer.verdict ≡ Err x
      → ((settle s l budget out).output ≡ out) × (Not (x ≡ ShortRoom) → (settle s l budget out).answer.length ≡ 0)
  settle_leaves x = go (settle s l budget out) settle_way
    where
      go : (w : Rewritten) → SettleWay w → w.answer.verdict ≡ Err x → (w.output ≡ out) × (Not (x ≡ ShortRoom) → w.answer.length ≡ 0)
      go w (as_inspect y b e n) v = (refl, λ k. refl)
      go w (nine b a f) v = (refl, λ k. refl)
      go w (seven t b a f p) v = (refl, λ k. let same : ShortRoom ≡ x = cc in absurd (k (sym same)))
      go w (done t b a f p) v = absurd (subst IsAccepted v tt)
