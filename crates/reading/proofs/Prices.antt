-- What each call takes is the listed price of its answer, and what is left and what was taken are the budget.
use Prim.Native.Nat.{ℕ, ◌+◌, ◌≤◌}
use mathlib.Core.Path.{◌≡◌, refl, sym, ap, ◌∙◌}
use mathlib.Core.Bool.{Bool, true, false, cond}
use mathlib.Core.List.{List}
use mathlib.Core.Option.{Option, none, some}
use native.Mathlib.Omega.{arith}
use lib.Dec.{ltb}
use lib.IntN.{ℤ}
use lib.ListN.{length}
use Rattle.reading.specs.declared.Budget.{Budget}
use Rattle.reading.specs.declared.Limits.{Limits}
use Rattle.reading.specs.declared.Record.{Record}
use Rattle.reading.specs.declared.Refusal.{Refusal}
use Rattle.reading.specs.declared.Refusal.TheVariants.{ShortRoom, NoEndCode}
use Rattle.reading.specs.Verdicts.{Verdict}
use Rattle.std.specs.declared.result.Result.TheVariants.{Ok, Err}
use Rattle.reading.specs.Header.{done, header, ending}
use Rattle.reading.specs.Settled.{settled_file}
use Rattle.reading.specs.Judging.{Judged, refuses, onward, give_or, remaining}
use Rattle.reading.specs.Calls.{header_price, ReadFile, judgement, inspection, inspect, decoding, decoded, decode, Rewritten, rewritten, unsettled, settle}
use Rattle.reading.specs.Comments.{has_comment}
use Rattle.reading.specs.Prices.{file_work, whole_price, file_price, decode_price}
use Rattle.reading.specs.Words.{Enough, Priced}
use Rattle.reading.proofs.HeaderNumbers.{OfHeader, cut_short, malformed, unsupported, header_number}
use Rattle.reading.proofs.Choice.{restage, header_choice}
use Rattle.reading.proofs.Judgement.{paid_whole, Way, long, poor, headless, large, poor_for_work, admitted, Judges, stopped, broken, through, found_in, judged}
use Rattle.reading.proofs.Refusals.{verdict_alike}
use Rattle.reading.proofs.Decodings as dec
use Rattle.reading.proofs.SettledCalls.{left_behind, file_of, laid}

module _ (listed : Verdict → Option ℕ) (budget : Budget) where
  nothing : (v : Verdict) → listed v ≡ some 0 → Priced listed budget v budget
  nothing v e = record { taken = 0; price = e; all = omega arith }

  taking : (v : Verdict) (n : ℕ) → n ≤ budget.left → listed v ≡ some n → Priced listed budget v (remaining budget n)
  taking v n p e = record { taken = n; price = e; all = paid_whole budget n p }

some_number : {m n : ℕ} → some m ≡ some n → m ≡ n
some_number e = cc

-- the header gives one work by either colour choice
work_is : (s : List ℕ) (colour : Bool) (r : Record) → header s colour ≡ done r → file_work s ≡ r.work
work_is s colour r e = ap (ending (λ r. r.work) (λ x. 0)) (header_choice false colour s ∙ ap (restage false) e)

-- ---- inspect and settle

module _ (s : List ℕ) (colour : Bool) (l : Limits) (budget : Budget) where
  full : (r : Record) → header s colour ≡ done r → some (whole_price s) ≡ some (header_price s + r.work)
  full r e = ap (λ n. some (header_price s + n)) (work_is s colour r e)

  abbrev Paid : Verdict → Budget → Type 0
  Paid v left = Priced (file_price s) budget v left

  -- nothing, the header's price, the whole price
  free : (v : Verdict) → file_price s v ≡ some 0 → Paid v budget
  free = nothing (file_price s) budget

  for_header : (v : Verdict) → header_price s ≤ budget.left → file_price s v ≡ some (header_price s) → Paid v (remaining budget (header_price s))
  for_header v = taking (file_price s) budget v (header_price s)

  for_whole : (v : Verdict) (r : Record) → header s colour ≡ done r → Enough s r l budget → file_price s v ≡ some (whole_price s) → Paid v (left_behind s r budget)
  for_whole v r e h p = taking (file_price s) budget v (header_price s + r.work) h.price (p ∙ full r e)

  header_priced : (x : Refusal) → OfHeader x → header_price s ≤ budget.left → Paid (Err x) (remaining budget (header_price s))
  header_priced x cut_short p = for_header _ p refl
  header_priced x malformed p = for_header _ p refl
  header_priced x unsupported p = for_header _ p refl

  way_priced : (m : Judged Record) → Way s colour l budget m → Paid (inspection m).verdict (inspection m).budget
  way_priced m (long a) = free _ refl
  way_priced m (poor a p) = free _ refl
  way_priced m (headless x a e) = header_priced x (header_number s colour x e) a.paid
  way_priced m (large r a e c) = for_header _ a.paid refl
  way_priced m (poor_for_work r a e c q) = for_header _ a.paid refl
  way_priced m (admitted r e h) = for_whole (Ok tt) r e h refl

  pub inspect_price : Paid (inspect s colour l budget).verdict (inspect s colour l budget).budget
  unfolding inspect
  inspect_price = go (judgement s colour l budget) (judged s colour l budget)
    where
      go : (m : Judged ReadFile) → Judges s colour l budget m → Paid (found_in m).verdict (found_in m).budget
      go m (stopped x b w) = way_priced (refuses x b) w
      go m (broken r f e h w) = for_whole _ r e h refl
      go m (through r ls q e h w) = for_whole (Ok tt) r e h refl

module _ (s : List ℕ) (l : Limits) (budget : Budget) where
  abbrev Settled : Rewritten → Type 0
  Settled w = Paid s false l budget w.answer.verdict w.answer.budget

  pub settle_price : (out : List ℕ) → Settled (settle s l budget out)
  unfolding settle
  settle_price out = go (judgement s false l budget) (judged s false l budget)
    where
      room_priced :
          (r : Record)
          → header s false ≡ done r
          → Enough s r l budget
          → (t : List ℕ) (q : Bool)
          → Settled (cond q (unsettled ShortRoom (left_behind s r budget) (length t) out) (laid t (left_behind s r budget) out))
      room_priced r e h t true = for_whole s false l budget (Err ShortRoom) r e h refl
      room_priced r e h t false = for_whole s false l budget (Ok tt) r e h refl

      file_priced :
          (r : Record)
          → header s false ≡ done r
          → Enough s r l budget
          → (o : Option (List ℕ))
          → Settled (rewritten out (give_or NoEndCode o (left_behind s r budget)))
      file_priced r e h none = for_whole s false l budget (Err NoEndCode) r e h refl
      file_priced r e h (some t) = room_priced r e h t (ltb (length out) (length t))

      go : (m : Judged ReadFile) → Judges s false l budget m → Settled (rewritten out (onward m (file_of s)))
      go m (stopped x b w) = way_priced s false l budget (refuses x b) w
      go m (broken r f e h w) = for_whole s false l budget _ r e h refl
      go m (through r ls q e h w) = file_priced r e h (settled_file s r ls)

  pub comment_price : (i : ℕ) → Paid s false l budget (has_comment s i l budget).verdict (has_comment s i l budget).budget
  unfolding has_comment
  comment_price i = inspect_price s false l budget

-- ---- the colour choice

-- two answers of one number leave the same
left_alike : (listed : Verdict → Option ℕ) (budget : Budget) {v w : Verdict} {a b : Budget} → w ≡ v → Priced listed budget v a → Priced listed budget w b → b ≡ a
left_alike listed budget {v} {w} {a} {b} e p q = ap (λ n. record { left = n }) same
  where
    taken : p.taken ≡ q.taken
    taken = some_number (sym p.price ∙ ap listed (sym e) ∙ q.price)

    same : b.left ≡ a.left
    same = omega (arith, p.all, q.all, taken)

-- the colour choice changes neither the answer's number nor what is left
pub inspect_choice :
    (s : List ℕ) (l : Limits) (budget : Budget) (c d : Bool)
    → ((inspect s d l budget).verdict ≡ (inspect s c l budget).verdict) × ((inspect s d l budget).budget ≡ (inspect s c l budget).budget)
inspect_choice s l budget c d =
    let e = verdict_alike s l budget c d in
    (e, left_alike (file_price s) budget e (inspect_price s c l budget) (inspect_price s d l budget))

-- ---- decode

module _ (s : List ℕ) (r : Record) (out scratch : List ℕ) (budget : Budget) where
  pub decode_price_lem : Priced (decode_price s r) budget (decode s r out scratch budget).answer.verdict (decode s r out scratch budget).answer.budget
  unfolding decode
  decode_price_lem = go (decoding s r out scratch budget) (dec.way s r out scratch budget)
    where
      go :
          (m : Judged (List (List ℤ)))
          → dec.Way s r out scratch budget m
          → Priced (decode_price s r) budget (decoded s r out scratch m).answer.verdict (decoded s r out scratch m).answer.budget
      go m (dec.short n) = nothing (decode_price s r) budget _ refl
      go m (dec.poor a p) = nothing (decode_price s r) budget _ refl
      go m (dec.other a p n) = taking (decode_price s r) budget _ (header_price s + r.work) p refl
      go m (dec.its ls a p e) = taking (decode_price s r) budget _ (header_price s + r.work) p refl
