-- By which rule inspect refuses, exactly: `inspect_refuses` has for each refusal what was passed before it and what failed. So no answer depends on
-- the colour choice (`verdict_alike`).
use Prim.Native.Nat.{ℕ, ◌^◌, ◌<◌, ◌≤◌}
use mathlib.Core.Path.{◌≡◌, refl, sym, ap, ◌∙◌, subst, subst⁻¹}
use mathlib.Core.Bool.{Bool, true, false}
use mathlib.Core.List.{List}
use mathlib.Core.Logic.{inl, inr, ◌↔◌}
use native.Mathlib.Omega.{arith}
use lib.Dec.{T, leb, ltb}
use lib.ListN.{length, take, length-take}
use borrow.Author.Tests.{lt-ltb, le-leb, ltb-true, leb-true}
use Rattle.reading.specs.declared.Budget.{Budget}
use Rattle.reading.specs.declared.Break.{Break}
use Rattle.reading.specs.declared.Inspection.{Inspection}
use Rattle.reading.specs.declared.Limits.{Limits}
use Rattle.reading.specs.declared.Record.{Record}
use Rattle.reading.specs.declared.Refusal.{Refusal}
use Rattle.reading.specs.declared.Refusal.TheVariants.{TooLong, OverBudget, CutShort, Malformed, Unsupported, TooLarge, WorkOverBudget, ShortRoom, NotItsRecord, NoEndCode, Scan}
use Rattle.reading.specs.Verdicts.{Verdict}
use Rattle.std.specs.declared.result.Result.{Result}
use Rattle.std.specs.declared.result.Result.TheVariants.{Ok, Err}
use Rattle.reading.specs.Tests.{◌or◌}
use Rattle.reading.specs.Header.{Stage, more, done, stop, header}
use Rattle.reading.specs.Code.Heads.{headed}
use Rattle.reading.specs.Scan.{broke, levels}
use Rattle.reading.specs.Judging.{Judged, accepts, refuses, onward, give, unbroken}
use Rattle.reading.specs.Calls.{header_price, too_long, too_large, ReadFile, judgement, inspect}
use Rattle.reading.specs.Words.{Not, Long, Begun, Within, Enough, InspectRefuses, cut_at}
use Rattle.reading.proofs.Choice.{recolour, restage, reread, header_choice, reading_choice}
use Rattle.reading.proofs.HeaderEnds.{finished, header_ends}
use Rattle.reading.proofs.HeaderNumbers.{OfHeader, cut_short, malformed, unsupported, header_number}
use Rattle.reading.proofs.Judgement.{not_large, small_enough, Way, long, poor, headless, large, poor_for_work, admitted, way_back, admits}
use Rattle.reading.proofs.Judgement.{Judges, stopped, broken, through, judged, behind_work, scan_behind, found_in, inspects, Inspected, inspect_accepted}
use Rattle.reading.proofs.CutFiles.{cut_header, cut_levels}

-- ---- number 1, number 6 and the header, as tests and as statements

long_so : (s : List ℕ) (l : Limits) → too_long s l ≡ true → Long s l
long_so s l e = go (ltb l.input (length s)) refl e
  where
    go : (t : Bool) → ltb l.input (length s) ≡ t → (t or leb (2 ^ 64) (header_price s)) ≡ true → Long s l
    go true p q = inl (ltb-true l.input (length s) p)
    go false p q = inr (leb-true (2 ^ 64) (header_price s) q)

long_back : (s : List ℕ) (l : Limits) → Long s l → too_long s l ≡ true
long_back s l (inl h) = rw (lt-ltb l.input (length s) h) refl
long_back s l (inr h) = go (ltb l.input (length s)) (le-leb (2 ^ 64) (header_price s) h)
  where
    go : (t : Bool) → leb (2 ^ 64) (header_price s) ≡ true → (t or leb (2 ^ 64) (header_price s)) ≡ true
    go true e = refl
    go false e = e

not_true_false : {t : Bool} → t ≡ true → t ≡ false → ⊥
not_true_false p q = subst T (sym p ∙ q) tt

not_so : (s : List ℕ) (l : Limits) → too_long s l ≡ false → Not (Long s l)
not_so s l e k = not_true_false (long_back s l k) e

not_back : (s : List ℕ) (l : Limits) → Not (Long s l) → too_long s l ≡ false
not_back s l n = go (too_long s l) refl
  where
    go : (t : Bool) → too_long s l ≡ t → t ≡ false
    go true e = absurd (n (long_so s l e))
    go false e = refl

large_so : (l : Limits) (r : Record) → too_large l r ≡ true → Not (Within l r)
large_so l r e w = not_true_false e (small_enough l r w)

-- a header that is refused stops there
stop_so : (st : Stage) (x : Refusal) → T (finished st) → headed st ≡ Err x → st ≡ stop x
stop_so (more h) x f e = absurd f
stop_so (done r) x f e = absurd (subst⁻¹ refused_only e tt)
  where
    refused_only : Result Record Refusal → Type 0
    refused_only (Ok r) = ⊥
    refused_only (Err y) = Unit {0}
stop_so (stop y) x f e = let same : y ≡ x = cc in ap stop same

module _ (s : List ℕ) (colour : Bool) (l : Limits) (budget : Budget) where
  abbrev Refuses : Refusal → Type 0
  Refuses = InspectRefuses s colour l budget

  -- ---- what an answer says

  header_so : (x : Refusal) → OfHeader x → Begun s l budget → header s colour ≡ stop x → Refuses x
  header_so x cut_short a e = (a, e)
  header_so x malformed a e = (a, e)
  header_so x unsupported a e = (a, e)

  abbrev Says : Judged Record → Type 0
  Says (accepts r b) = Unit {0}
  Says (refuses x b) = Refuses x

  way_says : (m : Judged Record) → Way s colour l budget m → Says m
  way_says m (long a) = long_so s l a
  way_says m (poor a p) = (not_so s l a, p)
  way_says m (headless x a e) = header_so x (header_number s colour x e) a (stop_so (header s colour) x (header_ends s colour) e)
  way_says m (large r a e c) = (a, (r, e, large_so l r c))
  way_says m (poor_for_work r a e c q) = (a, (r, e, c, q))
  way_says m (admitted r e h) = tt

  refusal_of : {x y : Refusal} → ◌≡◌ {A = Verdict} (Err x) (Err y) → x ≡ y
  refusal_of e = cc

  not_accepted : {x : Refusal} → ◌≡◌ {A = Verdict} (Ok tt) (Err x) → ⊥
  not_accepted e = subst accepted_only e tt
    where
      accepted_only : Verdict → Type 0
      accepted_only (Ok u) = Unit {0}
      accepted_only (Err y) = ⊥

  so : (x : Refusal) → (inspect s colour l budget).verdict ≡ Err x → Refuses x
  unfolding inspect
  so x v = go (judgement s colour l budget) (judged s colour l budget) v
    where
      go : (m : Judged ReadFile) → Judges s colour l budget m → (found_in m).verdict ≡ Err x → Refuses x
      go m (stopped y b w) v = subst Refuses (refusal_of v) (way_says (refuses y b) w)
      go m (broken r f e h w) v = subst Refuses (refusal_of v) (r, e, h, w)
      go m (through r ls q e h w) v = absurd (not_accepted v)

  -- ---- and what gives it

  by_way : (x : Refusal) (b : Budget) → Way s colour l budget (refuses x b) → (inspect s colour l budget).verdict ≡ Err x
  unfolding inspect
  by_way x b w = ap (λ m. (found_in (onward m (scan_behind s))).verdict) (way_back s colour l budget (refuses x b) w)

  by_header : (x : Refusal) → Begun s l budget → header s colour ≡ stop x → (inspect s colour l budget).verdict ≡ Err x
  by_header x a e = by_way x _ (headless x a (ap headed e))

  by_scan : (x : Break) → Refuses (Scan x) → (inspect s colour l budget).verdict ≡ Err (Scan x)
  unfolding inspect
  by_scan x (r, e, h, w) =
      ap (λ m. (found_in (onward m (scan_behind s))).verdict) (admits s colour l budget r e h)
      ∙ ap (λ o. (found_in (onward (unbroken o (behind_work s colour l budget r)) (λ ls. give (record { found = r; blocks = ls })))).verdict) w

  large_back : (r : Record) → Not (Within l r) → too_large l r ≡ true
  large_back r n = go (too_large l r) refl
    where
      go : (t : Bool) → too_large l r ≡ t → t ≡ true
      go true e = refl
      go false e = absurd (n (not_large l r e))

  back : (x : Refusal) → Refuses x → (inspect s colour l budget).verdict ≡ Err x
  back TooLong k = by_way TooLong _ (long (long_back s l k))
  back OverBudget k = by_way OverBudget _ (poor (not_back s l k.0) k.1)
  back CutShort k = by_header CutShort k.0 k.1
  back Malformed k = by_header Malformed k.0 k.1
  back Unsupported k = by_header Unsupported k.0 k.1
  back TooLarge (a, (r, e, n)) = by_way TooLarge _ (large r a e (large_back r n))
  back WorkOverBudget (a, (r, e, c, q)) = by_way WorkOverBudget _ (poor_for_work r a e c q)
  back (Scan x) k = by_scan x k
  back ShortRoom k = absurd k
  back NotItsRecord k = absurd k
  back NoEndCode k = absurd k

  pub inspect_refuses : (x : Refusal) → (inspect s colour l budget).verdict ≡ Err x ↔ Refuses x
  inspect_refuses x = (so x, back x)

-- ---- a prefix

-- what inspect accepts, cut behind its header
module _ (s : List ℕ) (colour : Bool) (l : Limits) (budget : Budget) (c : ℕ)
    (e : (inspect s colour l budget).verdict ≡ Ok tt) (from : (inspect s colour l budget).found.start ≤ c) (less : c < length s) where
  whole_file : Inspected s colour l budget (inspect s colour l budget)
  whole_file = inspect_accepted s colour l budget e

  pub cut_inspects : (inspect (take c s) colour l budget).verdict ≡ Err (Scan (cut_at s (inspect s colour l budget).found c))
  cut_inspects =
      let r = (inspect s colour l budget).found in
      let h = whole_file.enough in
      let shorter : length (take c s) ≡ c = length-take c s ∙ omega (arith, less) in
      (inspect_refuses (take c s) colour l budget (Scan (cut_at s r c))).1 (
        r,
        cut_header s c colour r whole_file.blocks whole_file.read from less,
        record { input = omega (arith, h.input, shorter, less); counted = omega (arith, h.counted, shorter, less); sizes = h.sizes; price = omega (arith, h.price, shorter, less) },
        cut_levels s c colour r whole_file.blocks whole_file.read from less,
      )

-- ---- the colour choice

module _ (s : List ℕ) (l : Limits) (budget : Budget) (c d : Bool) where
  within_alike : (r : Record) → Within l r → Within l (recolour d r)
  within_alike r w = record { width = w.width; height = w.height; scratch = w.scratch; output = w.output }

  enough_alike : (r : Record) → Enough s r l budget → Enough s (recolour d r) l budget
  enough_alike r h = record { input = h.input; counted = h.counted; sizes = within_alike r h.sizes; price = h.price }

  stop_alike : (x : Refusal) → header s c ≡ stop x → header s d ≡ stop x
  stop_alike x e = header_choice d c s ∙ ap (restage d) e

  done_alike : (r : Record) → header s c ≡ done r → header s d ≡ done (recolour d r)
  done_alike r e = header_choice d c s ∙ ap (restage d) e

  within_back : (r : Record) → Within l (recolour d r) → Within l r
  within_back r w = record { width = w.width; height = w.height; scratch = w.scratch; output = w.output }

  levels_alike : (r : Record) (x : Break) → levels s r ≡ broke x → levels s (recolour d r) ≡ broke x
  unfolding levels
  levels_alike r x e = e

  rule_alike : (x : Refusal) → InspectRefuses s c l budget x → InspectRefuses s d l budget x
  rule_alike TooLong k = k
  rule_alike OverBudget k = k
  rule_alike CutShort (a, e) = (a, stop_alike CutShort e)
  rule_alike Malformed (a, e) = (a, stop_alike Malformed e)
  rule_alike Unsupported (a, e) = (a, stop_alike Unsupported e)
  rule_alike TooLarge (a, (r, e, n)) = (a, (recolour d r, done_alike r e, λ w. n (within_back r w)))
  rule_alike WorkOverBudget (a, (r, e, w, q)) = (a, (recolour d r, done_alike r e, within_alike r w, q))
  rule_alike (Scan x) (r, e, h, w) = (recolour d r, done_alike r e, enough_alike r h, levels_alike r x w)
  rule_alike ShortRoom k = k
  rule_alike NotItsRecord k = k
  rule_alike NoEndCode k = k

  -- what is accepted by one choice is accepted by the other
  pub accepts_alike : (inspect s c l budget).verdict ≡ Ok tt → (inspect s d l budget).verdict ≡ Ok tt
  accepts_alike v =
      let a = inspect_accepted s c l budget v in
      let r = (inspect s c l budget).found in
      ap (λ (i : Inspection). i.verdict)
      (inspects s d l budget (recolour d r) a.blocks (reading_choice d c s ∙ ap (reread d) a.read) (enough_alike r a.enough))

  pub verdict_alike : (inspect s d l budget).verdict ≡ (inspect s c l budget).verdict
  verdict_alike = go (inspect s c l budget).verdict refl
    where
      go : (v : Verdict) → (inspect s c l budget).verdict ≡ v → (inspect s d l budget).verdict ≡ v
      go (Ok u) e = accepts_alike e
      go (Err x) e = (inspect_refuses s d l budget x).1 (rule_alike x ((inspect_refuses s c l budget x).0 e))
