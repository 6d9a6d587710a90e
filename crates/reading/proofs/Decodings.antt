-- What decode says of its answer and of the two buffers, accepted or refused.
--     decode_accepted   the record is that of these bytes, with room and price; the picture and the block samples stand over the old buffers
--     decode_refused    both buffers are as they came
--     decode_lengths    both buffers keep their lengths
--     decode_taken      the whole price was taken, or nothing
--     decode_accepts, decode_seven, decode_two, decode_eight   exactly when it is accepted, and exactly when each number comes
--     inspected_decodes   what inspect accepts is accepted with the record that it gave
use Prim.Native.Nat.{ℕ, ◌+◌, ◌/◌, ◌%◌, ◌<◌, ◌≤◌}
use mathlib.Core.Path.{◌≡◌, refl, sym, ap, ◌∙◌, subst, subst⁻¹}
use mathlib.Core.Logic.{◌⊎◌, inl, inr, ◌↔◌}
use mathlib.Core.Bool.{Bool, true, false, not, cond}
use mathlib.Core.List.{List}
use native.Mathlib.Omega.{arith}
use lib.Dec.{T, ltb, eqb}
use lib.IntN.{ℤ}
use lib.ListN.{length, drop, length-append, length-drop}
use borrow.Author.Tests.{le-ltb, ltb-false}
use Rattle.whole.specs.Lists.{length_from}
use Rattle.reading.specs.declared.Budget.{Budget}
use Rattle.reading.specs.declared.Limits.{Limits}
use Rattle.reading.specs.declared.Record.{Record}
use Rattle.reading.specs.declared.Refusal.{Refusal}
use Rattle.reading.specs.declared.Refusal.TheVariants.{OverBudget, ShortRoom, NotItsRecord}
use Rattle.reading.specs.Verdicts.{Verdict}
use Rattle.std.specs.declared.result.Result.TheVariants.{Ok, Err}
use Rattle.reading.specs.Tests.{over}
use Rattle.reading.specs.Layout.{Shape, channels_in, output_length}
use Rattle.reading.specs.Tables.{shape_of}
use Rattle.reading.specs.Reading.{Reading, accepted, refused, reading, samples_of, pixel, picture, picture_of}
use Rattle.reading.specs.Judging.{Judged, accepts, refuses, give, remaining}
use Rattle.reading.specs.Calls.{number, header_price, same, short_room, its_levels, decoding, Decoded, decoded_with, decoded, decode, inspect}
use Rattle.reading.specs.Words.{Not, ReadsAs, Roomy}
use Rattle.reading.proofs.HeaderEnds.{or_left, or_right, is_so}
use Rattle.reading.proofs.FileBytes.{AllBytes}
use Rattle.reading.proofs.Equal.{records_equal, same_self}
use Rattle.reading.proofs.Demand3.{taken_apart, accepted_record}
use Rattle.reading.proofs.Accepted.{bytes_are}
use Rattle.reading.proofs.Judgement.{tested, charged, inspect_accepts}
use Rattle.reading.proofs.Choice.{recolour, reread, reading_choice}
use Rattle.reading.proofs.Counted.{samples_counted}
use Rattle.reading.proofs.States.{header_fits}

-- ---- what is written over a buffer

pub over_length : (new old : List ℕ) → length new ≤ length old → length (over new old) ≡ length old
over_length new old h = length-append new (drop (length new) old) ∙ omega (arith, length-drop (length new) old)

pub picture_length : (p : Shape) (colour : Bool) (t : List ℕ) → length (picture p colour t) ≡ output_length p
picture_length p colour t =
    let ch = channels_in p in
    length_from (λ k. pixel p colour t (k / ch % p.width) (k / ch / p.width) (k % ch)) 0 (output_length p)

module _ (s : List ℕ) (r : Record) (out scratch : List ℕ) (budget : Budget) where
  abbrev pub price : ℕ
  price = header_price s + r.work

  -- ---- an accepted answer

  pub record Drawn (d : Decoded) : Type 0 where
    pub blocks : List (List ℤ)
    pub read : reading s r.colour ≡ accepted r blocks
    pub room : Roomy r out scratch
    pub paid : price ≤ budget.left
    pub left : d.answer.budget ≡ remaining budget price
    pub picture_is : d.output ≡ over (picture_of r (samples_of s r blocks)) out
    pub samples_are : d.scratch ≡ over (samples_of s r blocks) scratch

  -- ---- a refused one

  pub record Untouched (d : Decoded) : Type 0 where
    pub output : d.output ≡ out
    pub scratch_is : d.scratch ≡ scratch
    -- nothing was taken, or the whole price of a record that is not this file's
    pub left : (d.answer.budget ≡ budget) ⊎ ((price ≤ budget.left) × (d.answer.budget ≡ remaining budget price))

  -- ---- the ways of decode, in the order of the tests

  -- reading these bytes with the record's colour choice accepts them with this very record
  abbrev pub ItsRecord : Type 0
  ItsRecord = ReadsAs s r.colour r

  pub data Way : Judged (List (List ℤ)) → Type 0 where
    short : Not (Roomy r out scratch) → Way (refuses ShortRoom budget)
    poor : Roomy r out scratch → budget.left < price → Way (refuses OverBudget budget)
    other : Roomy r out scratch → price ≤ budget.left → Not ItsRecord → Way (refuses NotItsRecord (remaining budget price))
    its : (ls : List (List ℤ)) → Roomy r out scratch → price ≤ budget.left → reading s r.colour ≡ accepted r ls → Way (accepts ls (remaining budget price))

  roomy : short_room r out scratch ≡ false → Roomy r out scratch
  roomy t = (ltb-false (length out) r.output (or_left (ltb (length out) r.output) _ t), ltb-false (length scratch) r.scratch (or_right (ltb (length out) r.output) _ t))

  not_roomy : short_room r out scratch ≡ true → Not (Roomy r out scratch)
  not_roomy t (a, b) = subst (λ q. T (cond q false true)) (sym enough ∙ t) tt
    where
      enough : short_room r out scratch ≡ false
      enough = rw (le-ltb (length out) r.output a, le-ltb (length scratch) r.scratch b) refl

  is_accepted : Reading → Type 0
  is_accepted (accepted q ls) = Unit {0}
  is_accepted (refused x) = ⊥

  record_way : Roomy r out scratch → price ≤ budget.left → (x : Reading) → reading s r.colour ≡ x → Way (its_levels r x (remaining budget price))
  unfolding is_accepted
  record_way room paid (refused x) e = other room paid (λ z. subst is_accepted (sym z.1 ∙ e) tt)
  record_way room paid (accepted q ls) e =
      tested Way (not (same q r)) NotItsRecord (remaining budget price) (give ls)
      (λ n. other room paid (λ z. apart n (accepted_record q r ls z.0 (sym e ∙ z.1))))
      (λ n. its ls room paid (e ∙ ap (λ k. accepted k ls) (records_equal q r (is_so (same q r) n))))
    where
      apart : not (same q r) ≡ true → q ≡ r → ⊥
      apart n k = subst (λ t. T (cond t false true)) (sym (ap not (subst (λ z. same q z ≡ true) k (same_self q))) ∙ n) tt

  pub way : Way (decoding s r out scratch budget)
  way =
      tested Way (short_room r out scratch) ShortRoom budget _ (λ t. short (not_roomy t))
      (λ t. charged Way price OverBudget budget _ (poor (roomy t)) (λ u. record_way (roomy t) u (reading s r.colour) refl))

  abbrev pub Says : Verdict → Decoded → Type 0
  Says (Ok u) d = Drawn d
  Says (Err x) d = Untouched d

  abbrev said : Decoded → Type 0
  said d = Says d.answer.verdict d

  pub decode_says : said (decode s r out scratch budget)
  unfolding decode
  decode_says = go (decoding s r out scratch budget) way
    where
      go : (m : Judged (List (List ℤ))) → Way m → said (decoded s r out scratch m)
      go m (short n) = record { output = refl; scratch_is = refl; left = inl refl }
      go m (poor a p) = record { output = refl; scratch_is = refl; left = inl refl }
      go m (other a p n) = record { output = refl; scratch_is = refl; left = inr (p, refl) }
      go m (its ls a p e) = record { blocks = ls; read = e; room = a; paid = p; left = refl; picture_is = refl; samples_are = refl }

  -- ---- accepted, and 8: both ways

  abbrev is_refused : Verdict → Type 0
  is_refused (Ok u) = ⊥
  is_refused (Err x) = Unit {0}

  -- Accepted exactly when room and budget suffice and the reading accepts with this very record
  pub decode_accepts : (decode s r out scratch budget).answer.verdict ≡ Ok tt ↔ Roomy r out scratch × (price ≤ budget.left) × ItsRecord
  unfolding decode
  decode_accepts = go (decoding s r out scratch budget) way
    where
      go : (m : Judged (List (List ℤ))) → Way m → (decoded s r out scratch m).answer.verdict ≡ Ok tt ↔ Roomy r out scratch × (price ≤ budget.left) × ItsRecord
      go m (short n) = (λ v. absurd (subst is_refused v tt), λ k. absurd (n k.0))
      go m (poor a p) = (λ v. absurd (subst is_refused v tt), λ k. let z : ⊥ = omega (arith, p, k.1) in absurd z)
      go m (other a p n) = (λ v. absurd (subst is_refused v tt), λ k. absurd (n k.2))
      go m (its ls a p e) = (λ v. (a, p, (ls, e)), λ k. refl)

  abbrev numbered : ℕ → Verdict → Type 0
  numbered n v = T (eqb (number v) n)

  -- 7 exactly when a buffer is too short
  pub decode_seven : (decode s r out scratch budget).answer.verdict ≡ Err ShortRoom ↔ Not (Roomy r out scratch)
  unfolding decode
  decode_seven = go (decoding s r out scratch budget) way
    where
      go : (m : Judged (List (List ℤ))) → Way m → (decoded s r out scratch m).answer.verdict ≡ Err ShortRoom ↔ Not (Roomy r out scratch)
      go m (short n) = (λ v. n, λ k. refl)
      go m (poor a p) = (λ v. absurd (subst⁻¹ (numbered 7) v tt), λ k. absurd (k a))
      go m (other a p n) = (λ v. absurd (subst⁻¹ (numbered 7) v tt), λ k. absurd (k a))
      go m (its ls a p e) = (λ v. absurd (subst⁻¹ (numbered 7) v tt), λ k. absurd (k a))

  -- 2 exactly when there is room and the budget is below the price
  pub decode_two : (decode s r out scratch budget).answer.verdict ≡ Err OverBudget ↔ Roomy r out scratch × (budget.left < price)
  unfolding decode
  decode_two = go (decoding s r out scratch budget) way
    where
      go : (m : Judged (List (List ℤ))) → Way m → (decoded s r out scratch m).answer.verdict ≡ Err OverBudget ↔ Roomy r out scratch × (budget.left < price)
      go m (short n) = (λ v. absurd (subst⁻¹ (numbered 2) v tt), λ k. absurd (n k.0))
      go m (poor a p) = (λ v. (a, p), λ k. refl)
      go m (other a p n) = (λ v. absurd (subst⁻¹ (numbered 2) v tt), λ k. let z : ⊥ = omega (arith, p, k.1) in absurd z)
      go m (its ls a p e) = (λ v. absurd (subst⁻¹ (numbered 2) v tt), λ k. let z : ⊥ = omega (arith, p, k.1) in absurd z)

  -- 8 exactly when room and budget suffice and it does not
  pub decode_eight : (decode s r out scratch budget).answer.verdict ≡ Err NotItsRecord ↔ Roomy r out scratch × (price ≤ budget.left) × Not ItsRecord
  unfolding decode
  decode_eight = go (decoding s r out scratch budget) way
    where
      go :
          (m : Judged (List (List ℤ)))
          → Way m
          → (decoded s r out scratch m).answer.verdict ≡ Err NotItsRecord ↔ Roomy r out scratch × (price ≤ budget.left) × Not ItsRecord
      go m (short n) = (λ v. absurd (subst⁻¹ (numbered 8) v tt), λ k. absurd (n k.0))
      go m (poor a p) = (λ v. absurd (subst⁻¹ (numbered 8) v tt), λ k. let z : ⊥ = omega (arith, p, k.1) in absurd z)
      go m (other a p n) = (λ v. (a, p, n), λ k. refl)
      go m (its ls a p e) = (λ v. absurd (subst⁻¹ (numbered 8) v tt), λ k. absurd (k.2 (ls, e)))

  -- what is accepted is drawn
  pub decodes :
      (ls : List (List ℤ))
      → reading s r.colour ≡ accepted r ls
      → Roomy r out scratch
      → price ≤ budget.left
      → decode s r out scratch budget ≡ decoded_with r out scratch (remaining budget price) (samples_of s r ls)
  unfolding decode
  decodes ls e a p = rw (le-ltb (length out) r.output a.0, le-ltb (length scratch) r.scratch a.1, le-ltb budget.left price p, e, same_self r) refl

  -- the samples and the picture are those of the reading
  pub decode_draws :
      (ls : List (List ℤ))
      → reading s r.colour ≡ accepted r ls
      → (decode s r out scratch budget).answer.verdict ≡ Ok tt
      → ((decode s r out scratch budget).scratch ≡ over (samples_of s r ls) scratch) × ((decode s r out scratch budget).output ≡ over (picture_of r (samples_of s r ls)) out)
  decode_draws ls e v =
      let k = decode_accepts.0 v in
      let w = decodes ls e k.0 k.1 in
      (ap (λ (d : Decoded). d.scratch) w, ap (λ (d : Decoded). d.output) w)

  -- ---- as a reader meets it

  pub decode_accepted : (decode s r out scratch budget).answer.verdict ≡ Ok tt → Drawn (decode s r out scratch budget)
  decode_accepted e = subst (λ v. Says v (decode s r out scratch budget)) e decode_says

  pub decode_refused : (x : Refusal) → (decode s r out scratch budget).answer.verdict ≡ Err x → Untouched (decode s r out scratch budget)
  decode_refused x e = subst (λ v. Says v (decode s r out scratch budget)) e decode_says

  pub decode_taken : ((decode s r out scratch budget).answer.budget ≡ budget) ⊎ ((price ≤ budget.left) × ((decode s r out scratch budget).answer.budget ≡ remaining budget price))
  decode_taken = go (decode s r out scratch budget) (decode s r out scratch budget).answer.verdict decode_says
    where
      go : (d : Decoded) (v : Verdict) → Says v d → (d.answer.budget ≡ budget) ⊎ ((price ≤ budget.left) × (d.answer.budget ≡ remaining budget price))
      go d (Ok u) w = inr (w.paid, w.left)
      go d (Err x) w = w.left

  -- the samples are as many as the record says
  pub drawn_counted : AllBytes s → (ls : List (List ℤ)) → reading s r.colour ≡ accepted r ls → length (samples_of s r ls) ≡ r.scratch
  drawn_counted y ls e =
      let t = taken_apart s r.colour r ls e in
      samples_counted s r t.body ∙ sym (header_fits s r.colour y r t.head).accepted.scratch

  -- and so are the bytes of the picture
  pub picture_counted : AllBytes s → (ls : List (List ℤ)) → reading s r.colour ≡ accepted r ls → (t : List ℕ) → length (picture_of r t) ≡ r.output
  picture_counted y ls e t =
      let a = (header_fits s r.colour y r (taken_apart s r.colour r ls e).head).accepted in
      picture_length (shape_of r.frame) r.colour t ∙ bytes_are r.frame a.frame ∙ sym a.output

  pub decode_lengths : AllBytes s → (length (decode s r out scratch budget).output ≡ length out) × (length (decode s r out scratch budget).scratch ≡ length scratch)
  decode_lengths y = go (decode s r out scratch budget) (decode s r out scratch budget).answer.verdict decode_says
    where
      go : (d : Decoded) (v : Verdict) → Says v d → (length d.output ≡ length out) × (length d.scratch ≡ length scratch)
      go d (Ok u) w = (
        ap length w.picture_is ∙ over_length (picture_of r (samples_of s r w.blocks)) out (omega (arith, picture_counted y w.blocks w.read (samples_of s r w.blocks), w.room.0)),
        ap length w.samples_are ∙ over_length (samples_of s r w.blocks) scratch (omega (arith, drawn_counted y w.blocks w.read, w.room.1)),
      )
      go d (Err x) w = (ap length w.output, ap length w.scratch_is)

-- ---- behind inspect

-- the record that a reading accepts with has its colour choice
pub choice_is : (s : List ℕ) (colour : Bool) (r : Record) → ReadsAs s colour r → r.colour ≡ colour
choice_is s colour r (ls, e) =
    ap (λ (q : Record). q.colour)
    (accepted_record r (recolour colour r) ls ls (sym e ∙ reading_choice colour colour s ∙ ap (reread colour) e))

-- what inspect accepts decode accepts with the record that inspect gave
pub inspected_decodes :
    (s : List ℕ) (colour : Bool) (l : Limits) (budget : Budget) (r : Record) (out scratch : List ℕ) (budget' : Budget)
    → ((inspect s colour l budget).verdict ≡ Ok tt) × ((inspect s colour l budget).found ≡ r)
    → Roomy r out scratch
    → header_price s + r.work ≤ budget'.left
    → (decode s r out scratch budget').answer.verdict ≡ Ok tt
inspected_decodes s colour l budget r out scratch budget' v room paid =
    let reads = ((inspect_accepts s colour l budget r).0 v).0 in
    (decode_accepts s r out scratch budget').1 (room, paid, subst⁻¹ (λ c. ReadsAs s c r) (choice_is s colour r reads) reads)
