-- The ways through the tests and payments of a call. One law for each step of the judging language; then the ways of inspect before the
-- scan and behind it, from which all that is shown of inspect and settle follows.
--     way               the ways before the scan: at which test a file stops, what was passed before it and what is left
--     way_back          and no other is open
--     judged            the ways behind it
--     inspect_accepts   accepted with a record exactly when the reading is, and limits and budget are enough (inspect_accepted, inspects)
--     inspect_most      no answer takes more than 2n + 1 and 50 x the output limit, nor more than there is
use Prim.Native.Nat.{ℕ, ◌+◌, ◌*◌, ◌-◌, ◌^◌, ◌<◌, ◌≤◌}
use mathlib.Core.Path.{◌≡◌, refl, ap, ◌∙◌, subst, subst⁻¹}
use mathlib.Core.Bool.{Bool, true, false, cond}
use mathlib.Core.List.{List}
use mathlib.Core.Logic.{◌↔◌}
use native.Mathlib.Omega.{arith}
use lib.Dec.{leb, ltb}
use lib.IntN.{ℤ}
use lib.ListN.{length}
use borrow.Author.Tests.{lt-ltb, le-ltb, lt-leb, ltb-true, ltb-false, leb-false}
use Rattle.reading.specs.declared.Bits.{Bits}
use Rattle.reading.specs.declared.Budget.{Budget}
use Rattle.reading.specs.declared.Break.{Break}
use Rattle.reading.specs.declared.Inspection.{Inspection}
use Rattle.reading.specs.declared.Limits.{Limits}
use Rattle.reading.specs.declared.Record.{Record}
use Rattle.reading.specs.declared.Refusal.{Refusal}
use Rattle.reading.specs.declared.Refusal.TheVariants.{TooLong, OverBudget, CutShort, TooLarge, WorkOverBudget, Scan}
use Rattle.std.specs.declared.result.Result.{Result}
use Rattle.std.specs.declared.result.Result.TheVariants.{Ok, Err}
use Rattle.reading.specs.Header.{Stage, more, done, stop, header, ending}
use Rattle.reading.specs.Code.Heads.{headed}
use Rattle.reading.specs.Scan.{Scanned, whole, broke, levels}
use Rattle.reading.specs.Reading.{accepted, reading}
use Rattle.reading.specs.Judging.{Judged, accepts, refuses, Judging, onward, give, refuse, refuse_if, pay, remaining, unbroken}
use Rattle.reading.specs.Calls.{header_price, too_long, too_large, weighing, admission, ReadFile, judgement, inspection, inspect}
use Rattle.reading.specs.Words.{Begun, Within, Enough, ReadsAs}
use Rattle.reading.proofs.HeaderEnds.{or_left, or_right}
use Rattle.reading.proofs.FileBytes.{AllBytes}
use Rattle.reading.proofs.Accepted as accepted
use Rattle.reading.proofs.Demand3.{taken_apart}

-- ---- one law for each step

module _ {B : Type 0} (P : Judged B → Type 0) where
  pub tested : (t : Bool) (x : Refusal) (b : Budget) (k : Judging B) → (t ≡ true → P (refuses x b)) → (t ≡ false → P (k b)) → P (onward (refuse_if t x b) (λ _. k))
  tested true x b k f g = f refl
  tested false x b k f g = g refl

  pub charged :
      (n : ℕ) (x : Refusal) (b : Budget) (k : Judging B)
      → (b.left < n → P (refuses x b))
      → (n ≤ b.left → P (k (remaining b n)))
      → P (onward (pay n x b) (λ _. k))
  charged n x b k f g = go (ltb b.left n) refl
    where
      go : (t : Bool) → ltb b.left n ≡ t → P (onward (cond t (refuses x b) (accepts (tt {0}) (remaining b n))) (λ _. k))
      go true e = f (ltb-true b.left n e)
      go false e = g (ltb-false b.left n e)

  pub ended :
      (st : Stage) (b : Budget) (k : Record → Judging B)
      → ((x : Refusal) → headed st ≡ Err x → P (refuses x b))
      → ((r : Record) → st ≡ done r → P (k r b))
      → P (onward (ending give refuse st b) k)
  ended (more h) b k f g = f CutShort refl
  ended (done r) b k f g = g r refl
  ended (stop x) b k f g = f x refl

  pub followed :
      {A : Type 0} (m : Judged A) (k : A → Judging B)
      → ((x : Refusal) (b : Budget) → m ≡ refuses x b → P (refuses x b))
      → ((a : A) (b : Budget) → m ≡ accepts a b → P (k a b))
      → P (onward m k)
  followed (accepts a b) k f g = g a b refl
  followed (refuses x b) k f g = f x b refl

  pub scanned :
      {A : Type 0} (o : Scanned Bits A) (b : Budget) (k : A → Judging B)
      → ((w : Break) → o ≡ broke w → P (refuses (Scan w) b))
      → ((a : A) (q : Bits) → o ≡ whole a q → P (k a b))
      → P (onward (unbroken o b) k)
  scanned (whole a q) b k f g = g a q refl
  scanned (broke w) b k f g = f w refl

-- a price that is there is taken whole
pub paid_whole : (b : Budget) (n : ℕ) → n ≤ b.left → (remaining b n).left + n ≡ b.left
paid_whole b n h = omega (arith, h)

pub paid_twice : (b : Budget) (m n : ℕ) → remaining (remaining b m) n ≡ remaining b (m + n)
paid_twice b m n = ap (λ k. record { left = k }) (less b.left)
  where
    less : (k : ℕ) → k - m - n ≡ k - (m + n)
    less k = omega arith

-- ---- limits and budget

pub not_large : (l : Limits) (r : Record) → too_large l r ≡ false → Within l r
not_large l r e =
    let e1 = or_right (ltb l.side r.frame.width) _ e in
    let e2 = or_right (ltb l.side r.frame.height) _ e1 in
    record {
      width = ltb-false l.side r.frame.width (or_left (ltb l.side r.frame.width) _ e);
      height = ltb-false l.side r.frame.height (or_left (ltb l.side r.frame.height) _ e1);
      scratch = ltb-false l.output r.scratch (or_left (ltb l.output r.scratch) _ e2);
      output = ltb-false l.output r.output (or_right (ltb l.output r.scratch) _ e2);
    }

pub small_enough : (l : Limits) (r : Record) → Within l r → too_large l r ≡ false
small_enough l r w =
    rw (le-ltb l.side r.frame.width w.width, le-ltb l.side r.frame.height w.height, le-ltb l.output r.scratch w.scratch, le-ltb l.output r.output w.output) refl

-- the work of a record within the limits: 3136 for each 64 bytes of scratch, and the output
pub work_most : (colour : Bool) (l : Limits) (r : Record) → accepted.Accepted colour r → Within l r → r.work ≤ 50 * l.output
work_most colour l r a w = omega (arith, a.work, a.scratch, w.scratch, w.output)

pub not_long : (s : List ℕ) (l : Limits) → too_long s l ≡ false → (length s ≤ l.input) × (header_price s < 2 ^ 64)
not_long s l e = (
  ltb-false l.input (length s) (or_left (ltb l.input (length s)) (leb (2 ^ 64) (header_price s)) e),
  leb-false (2 ^ 64) (header_price s) (or_right (ltb l.input (length s)) (leb (2 ^ 64) (header_price s)) e),
)

pub short_enough : (s : List ℕ) (l : Limits) → length s ≤ l.input → header_price s < 2 ^ 64 → too_long s l ≡ false
short_enough s l a b = rw (le-ltb l.input (length s) a, lt-leb (2 ^ 64) (header_price s) b) refl

-- ---- the ways

-- the judgement behind the record, and inspect's answer
abbrev pub scan_behind : List ℕ → Record → Judging ReadFile
scan_behind s r = λ b. onward (unbroken (levels s r) b) (λ ls. give (record { found = r; blocks = ls }))

abbrev pub found_in : Judged ReadFile → Inspection
found_in m = inspection (onward m (λ f. give f.found))

module _ (s : List ℕ) (colour : Bool) (l : Limits) (budget : Budget) where
  -- what is left behind the header's price, and behind work
  abbrev pub behind_header : Budget
  behind_header = remaining budget (header_price s)

  abbrev pub behind_work : Record → Budget
  behind_work r = remaining budget (header_price s + r.work)

  -- the ways before the scan, in the order of the tests; each has what was passed before it
  pub data Way : Judged Record → Type 0 where
    long : too_long s l ≡ true → Way (refuses TooLong budget)
    poor : too_long s l ≡ false → budget.left < header_price s → Way (refuses OverBudget budget)
    headless : (x : Refusal) → Begun s l budget → headed (header s colour) ≡ Err x → Way (refuses x behind_header)
    large : (r : Record) → Begun s l budget → header s colour ≡ done r → too_large l r ≡ true → Way (refuses TooLarge behind_header)
    poor_for_work :
        (r : Record)
        → Begun s l budget
        → header s colour ≡ done r
        → Within l r
        → budget.left < header_price s + r.work
        → Way (refuses WorkOverBudget behind_header)
    admitted : (r : Record) → header s colour ≡ done r → Enough s r l budget → Way (accepts r (behind_work r))

  begins : too_long s l ≡ false → header_price s ≤ budget.left → Begun s l budget
  begins a p = record { input = (not_long s l a).0; counted = (not_long s l a).1; paid = p }

  pub way : Way (admission s colour l budget)
  way =
      tested Way (too_long s l) TooLong budget _ long
      (λ a. charged Way (header_price s) OverBudget budget _ (poor a)
      (λ p. ended Way (header s colour) behind_header _ (λ x e. headless x (begins a p) e)
      (λ r e. tested Way (too_large l r) TooLarge behind_header _ (large r (begins a p) e)
      (λ c. charged Way r.work WorkOverBudget behind_header (give r) (λ q. poor_for_work r (begins a p) e (not_large l r c) (omega (arith, q)))
      (λ q. subst⁻¹ (λ b. Way (accepts r b)) (paid_twice budget (header_price s) r.work)
      (admitted r e (record { input = (not_long s l a).0; counted = (not_long s l a).1; sizes = not_large l r c; price = omega (arith, p, q) })))))))

  -- a record for which limits and budget are enough is admitted
  pub admits : (r : Record) → header s colour ≡ done r → Enough s r l budget → admission s colour l budget ≡ accepts r (behind_work r)
  admits r e h = go ∙ ap (accepts r) (paid_twice budget (header_price s) r.work)
    where
      go : admission s colour l budget ≡ accepts r (remaining behind_header r.work)
      go =
          let read = le-ltb budget.left (header_price s) (omega (arith, h.price)) in
          let worked = le-ltb (budget.left - header_price s) r.work (omega (arith, h.price)) in
          rw (short_enough s l h.input h.counted, read, e, small_enough l r h.sizes, worked) refl

  abbrev is_refused : {A : Type 0} → Result A Refusal → Type 0
  is_refused (Ok u) = ⊥
  is_refused (Err x) = Unit {0}

  begun : Begun s l budget → admission s colour l budget ≡ onward (ending give refuse (header s colour) behind_header) (weighing l)
  begun a = rw (short_enough s l a.input a.counted, le-ltb budget.left (header_price s) a.paid) refl

  -- and no other way is open: what a way says is what the tests answer
  pub way_back : (m : Judged Record) → Way m → admission s colour l budget ≡ m
  way_back m (long a) = rw a refl
  way_back m (poor a p) = rw (a, lt-ltb budget.left (header_price s) p) refl
  way_back m (headless x a e) = begun a ∙ go (header s colour) e
    where
      go : (st : Stage) → headed st ≡ Err x → onward (ending give refuse st behind_header) (weighing l) ≡ refuses x behind_header
      go (more h) v = let same : CutShort ≡ x = cc in ap (λ y. refuses y behind_header) same
      go (done r) v = absurd (subst⁻¹ is_refused v tt)
      go (stop y) v = let same : y ≡ x = cc in ap (λ y. refuses y behind_header) same
  way_back m (large r a e c) = begun a ∙ rw (e, c) refl
  way_back m (poor_for_work r a e c q) = begun a ∙ rw (e, small_enough l r c, lt-ltb (budget.left - header_price s) r.work (omega (arith, q, a.paid))) refl
  way_back m (admitted r e h) = admits r e h

  -- the ways of the whole judgement: one before the scan, or the scan breaks, or it is read to its end
  pub data Judges : Judged ReadFile → Type 0 where
    stopped : (x : Refusal) (b : Budget) → Way (refuses x b) → Judges (refuses x b)
    broken : (r : Record) (x : Break) → header s colour ≡ done r → Enough s r l budget → levels s r ≡ broke x → Judges (refuses (Scan x) (behind_work r))
    through :
        (r : Record) (ls : List (List ℤ)) (q : Bits)
        → header s colour ≡ done r
        → Enough s r l budget
        → levels s r ≡ whole ls q
        → Judges (accepts (record { found = r; blocks = ls }) (behind_work r))

  pub judged : Judges (judgement s colour l budget)
  judged = on (admission s colour l budget) way
    where
      on : (m : Judged Record) → Way m → Judges (onward m (scan_behind s))
      on m (long a) = stopped TooLong budget (long a)
      on m (poor a p) = stopped OverBudget budget (poor a p)
      on m (headless x a e) = stopped x behind_header (headless x a e)
      on m (large r a e c) = stopped TooLarge behind_header (large r a e c)
      on m (poor_for_work r a e c q) = stopped WorkOverBudget behind_header (poor_for_work r a e c q)
      on m (admitted r e h) = scanned Judges (levels s r) (behind_work r) _ (λ x w. broken r x e h w) (λ ls q w. through r ls q e h w)

  -- ---- what is accepted

  -- a file that is read is judged to its end
  pub judges :
      (r : Record) (ls : List (List ℤ))
      → reading s colour ≡ accepted r ls
      → Enough s r l budget
      → judgement s colour l budget ≡ accepts (record { found = r; blocks = ls }) (behind_work r)
  judges r ls e h =
      let t = taken_apart s colour r ls e in
      ap (λ m. onward m (scan_behind s)) (admits r t.head h) ∙ ap (λ o. onward (unbroken o (behind_work r)) (λ ls. give (record { found = r; blocks = ls }))) t.body

  pub inspects :
      (r : Record) (ls : List (List ℤ))
      → reading s colour ≡ accepted r ls
      → Enough s r l budget
      → inspect s colour l budget ≡ record { verdict = Ok tt; budget = behind_work r; found = r }
  unfolding inspect
  inspects r ls e h = ap found_in (judges r ls e h)

  -- a file that is accepted was read, and limits and budget were enough
  pub record Inspected (a : Inspection) : Type 0 where
    pub blocks : List (List ℤ)
    pub head : header s colour ≡ done a.found
    pub behind : Bits
    pub scan : levels s a.found ≡ whole blocks behind
    pub read : reading s colour ≡ accepted a.found blocks
    pub enough : Enough s a.found l budget
    pub left : a.budget ≡ behind_work a.found

  pub inspect_accepted : (inspect s colour l budget).verdict ≡ Ok tt → Inspected (inspect s colour l budget)
  unfolding inspect
  inspect_accepted v = go (judgement s colour l budget) judged v
    where
      go : (m : Judged ReadFile) → Judges m → (found_in m).verdict ≡ Ok tt → Inspected (found_in m)
      go m (stopped x b w) v = absurd (subst is_refused v tt)
      go m (broken r f e h w) v = absurd (subst is_refused v tt)
      go m (through r ls q e h w) v = record { blocks = ls; head = e; behind = q; scan = w; read = rw (e, w) refl; enough = h; left = refl }

  -- accepted with this record exactly when the reading is, and limits and budget are enough for it
  pub inspect_accepts : (r : Record) → ((inspect s colour l budget).verdict ≡ Ok tt) × ((inspect s colour l budget).found ≡ r) ↔ ReadsAs s colour r × Enough s r l budget
  inspect_accepts r =
      (so, back)
    where
      so : ((inspect s colour l budget).verdict ≡ Ok tt) × ((inspect s colour l budget).found ≡ r) → ReadsAs s colour r × Enough s r l budget
      so (v, e) =
          let a = inspect_accepted v in
          subst (λ (q : Record). ReadsAs s colour q × Enough s q l budget) e ((a.blocks, a.read), a.enough)

      back : ReadsAs s colour r × Enough s r l budget → ((inspect s colour l budget).verdict ≡ Ok tt) × ((inspect s colour l budget).found ≡ r)
      back k =
          let w = inspects r k.0.0 k.0.1 k.1 in
          (ap (λ (i : Inspection). i.verdict) w, ap (λ (i : Inspection). i.found) w)

  -- ---- what is taken at most

  module _ (y : AllBytes s) where
    abbrev Most : ℕ → Type 0
    Most n = (n ≤ budget.left) × (budget.left ≤ n + (header_price s + 50 * l.output))

    abbrev left_of : {A : Type 0} → Judged A → ℕ
    left_of (accepts a b) = b.left
    left_of (refuses x b) = b.left

    work_most_of : (r : Record) → header s colour ≡ done r → Enough s r l budget → Most (behind_work r).left
    work_most_of r e h = (omega arith, omega (arith, h.price, work_most colour l r (accepted.header_accepted colour s y r e) h.sizes))

    way_most : (m : Judged Record) → Way m → Most (left_of m)
    way_most m (long a) = (omega arith, omega arith)
    way_most m (poor a p) = (omega arith, omega arith)
    way_most m (headless x a e) = (omega arith, omega (arith, a.paid))
    way_most m (large r a e c) = (omega arith, omega (arith, a.paid))
    way_most m (poor_for_work r a e c q) = (omega arith, omega (arith, a.paid))
    way_most m (admitted r e h) = work_most_of r e h

    -- what is left: the budget less at most 2n + 1 + 50 x the output limit, and never more than there was
    pub inspect_most : Most (inspect s colour l budget).budget.left
    unfolding inspect
    inspect_most = go (judgement s colour l budget) judged
      where
        go : (m : Judged ReadFile) → Judges m → Most (found_in m).budget.left
        go m (stopped x b w) = way_most (refuses x b) w
        go m (broken r f e h w) = work_most_of r e h
        go m (through r ls q e h w) = work_most_of r e h
