-- What settle leaves behind its tests before the scan: the scan is settled at its place, and the head is copied before it.
use mathlib.Core.Path.{◌≡◌, refl, sym, ap, ap₂, ◌∙◌, subst⁻¹}
use mathlib.Core.Bool.{Bool, true, false, cond}
use mathlib.Core.List.{List, [], ◌∷◌, ◌++◌, append_assoc, append-nil}
use mathlib.Core.Option.{Option, none, some}
use Prim.Native.Nat.{ℕ, suc, min, ◌+◌, ◌-◌, ◌^◌, ◌<◌, ◌≤◌}
use native.Mathlib.Omega.{arith}
use borrow.Author.Tests.{lt-ltb, le-ltb, ltb-true, ltb-false, lt-leb}
use lib.Dec.{T, ltb, leb, leb→le}
use lib.IntN.{ℤ}
use lib.ListN.{length, take, drop, set, get_or, take-append-drop, drop_of_length-le, length-append, length-drop}
use lib.Seq.{set_at, drop_at, drop-cons, drop-drop, take-suc, take_all, length-take-le}
use Rattle.reading.specs.declared.Bits.{Bits}
use Rattle.reading.specs.declared.Budget.{Budget}
use Rattle.reading.specs.declared.Break.{Break}
use Rattle.reading.specs.declared.Record.{Record}
use Rattle.reading.specs.declared.Refusal.TheVariants.{ShortRoom}
use Rattle.reading.specs.declared.Unsettled.{Unsettled}
use Rattle.reading.specs.declared.Unsettled.TheVariants.{Lacking, Broke}
use Rattle.std.specs.declared.result.Result.TheVariants.{Ok, Err}
use Rattle.reading.specs.Tests.{over}
use Rattle.reading.specs.Scan.{Scanned, whole, broke}
use Rattle.reading.specs.Scan.{levels, plan_of}
use Rattle.reading.specs.Code.Scans.{nowhere, readable, scan_of, settled_read, settled_of, scan_settled, laid_over, refusal_of}
use Rattle.reading.specs.Settled.{settled_scan}
use Rattle.reading.specs.Calls.{Rewritten, unsettled}
use Rattle.reading.proofs.Counted.{scan_levels}
use Rattle.reading.proofs.Plain.{and_left}
use Rattle.jpeg_write_scan.proofs.Lengths.{settled_length}
use Rattle.jpeg_settle.specs.Refiled.{remade, scan_laid, joined, settled_into, refiled_by, refiled}

-- ---- the head copied

module _ (s out : List ℕ) (i : ℕ) where
  pub copied_length : i ≤ length s → i ≤ length out → {out' : List ℕ} → out' ≡ take i s ++ drop i out → length out' ≡ length out
  copied_length h k e = ap length e ∙ length-append (take i s) (drop i out) ∙ whole (length-take-le i s h) (length-drop i out)
    where
      whole : {m n : ℕ} → m ≡ i → n ≡ length out - i → m + n ≡ length out
      whole p q = omega (arith, p, q, k)

  pub copied_next : i < length s → i < length out → {out' : List ℕ} → out' ≡ take i s ++ drop i out → set out' i (get_or s i 0) ≡ take (i + 1) s ++ drop (i + 1) out
  copied_next h k e =
      ap (λ l. set l i (get_or s i 0)) (e ∙ ap (λ l. take i s ++ l) (drop-cons out i 0 k))
      ∙ set_at (take i s) (get_or out i 0) (drop (suc i) out) (get_or s i 0) i (length-take-le i s (omega (arith, h)))
      ∙ sym (ap (λ l. l ++ drop (suc i) out) (take-suc s i 0 h) ∙ append_assoc (take i s) (get_or s i 0 ∷ []) (drop (suc i) out))
      ∙ ap (λ k. take k s ++ drop k out) next
    where
      next : suc i ≡ i + 1
      next = omega arith

-- ---- the scan's place

-- nothing is laid over an empty part
none_laid : (t : Scanned Bits (Option (List ℕ))) → laid_over t [] ≡ []
unfolding laid_over
none_laid (whole none b) = refl
none_laid (whole (some []) b) = refl
none_laid (whole (some (x ∷ t)) b) = ap (λ q. cond q [] (over (x ∷ t) [])) (lt-ltb 0 (suc (length t)) (omega arith))
none_laid (broke f) = refl

-- the part that is lent is all that lies behind the start, and nothing where the buffer ends before it
pub laid_at :
    (start m : ℕ) (t : Scanned Bits (Option (List ℕ))) (out part : List ℕ)
    → m ≡ min start (length out)
    → part ≡ laid_over t (take (length out - m) (drop m out))
    → take m out ++ (part ++ drop (length out - m) (drop m out)) ≡ scan_laid start t out
unfolding scan_laid
laid_at start m t out part least e = go (ltb (length out) start) refl
  where
    go :
        (q : Bool)
        → ltb (length out) start ≡ q
        → take m out ++ (part ++ drop (length out - m) (drop m out)) ≡ cond q out (take start out ++ laid_over t (drop start out))
    go true q =
        let short : length out < start = ltb-true (length out) start q in
        let nothing : drop m out ≡ [] = drop_of_length-le out {i = m} (omega arith) in
        let empty : part ≡ [] = e ∙ ap (λ l. laid_over t (take (length out - m) l)) nothing ∙ ap (laid_over t) (take_all (length out - m) [] (omega arith)) ∙ none_laid t in
        let tail : drop (length out - m) (drop m out) ≡ [] = ap (drop (length out - m)) nothing ∙ drop_of_length-le [] {i = length out - m} (omega arith) in
        rw (empty, tail) (append-nil (take m out) ∙ take_all m out (omega arith))
    go false q =
        let within : start ≤ length out = ltb-false (length out) start q in
        let here : m ≡ start = omega arith in
        let few : length (drop m out) ≤ length out - m = omega (arith, length-drop m out) in
        let whole : part ≡ laid_over t (drop m out) = e ∙ ap (laid_over t) (take_all (length out - m) (drop m out) few) in
        let tail : drop (length out - m) (drop m out) ≡ [] = drop_of_length-le (drop m out) {i = length out - m} few in
        rw (tail, whole) (ap (λ l. take m out ++ l) (append-nil (laid_over t (drop m out))) ∙ ap (λ k. take k out ++ laid_over t (drop k out)) here)

kept : (start : ℕ) (out : List ℕ) (q : Bool) → cond q out (take start out ++ drop start out) ≡ out
kept start out true = refl
kept start out false = take-append-drop start out

-- a refusal leaves the buffer as it was
laid_stop : (start : ℕ) (g : Break) (out : List ℕ) → scan_laid start (broke g) out ≡ out
unfolding scan_laid laid_over
laid_stop start g out = kept start out (ltb (length out) start)

laid_none : (start : ℕ) (b : Bits) (out : List ℕ) → scan_laid start (whole none b) out ≡ out
unfolding scan_laid laid_over
laid_none start b out = kept start out (ltb (length out) start)

-- and so is one that is too short for the file
laid_not : (start : ℕ) (t : List ℕ) (b : Bits) (out : List ℕ) → length out < start + length t → scan_laid start (whole (some t) b) out ≡ out
unfolding scan_laid laid_over
laid_not start t b out h = go (ltb (length out) start) refl
  where
    go : (q : Bool) → ltb (length out) start ≡ q → cond q out (take start out ++ cond (ltb (length (drop start out)) (length t)) (drop start out) (over t (drop start out))) ≡ out
    go true e = refl
    go false e = rw (lt-ltb (length (drop start out)) (length t) (omega (arith, length-drop start out, ltb-false (length out) start e))) (take-append-drop start out)

-- else the scan lies at its place
laid_all :
    (start : ℕ) (t : List ℕ) (b : Bits) (out : List ℕ)
    → start + length t ≤ length out
    → scan_laid start (whole (some t) b) out ≡ take start out ++ (t ++ drop (length t) (drop start out))
unfolding scan_laid laid_over
laid_all start t b out h = rw (le-ltb (length out) start (omega (arith, h)), le-ltb (length (drop start out)) (length t) (omega (arith, length-drop start out, h))) refl

-- ---- the head before it

-- both are what the settled file makes of the buffer
join_is :
    (s : List ℕ) (start : ℕ) (t : List ℕ) (b : Bits) (rest : Budget) (out : List ℕ)
    → start ≤ length s
    → joined s start (length t) rest (scan_laid start (whole (some t) b) out) ≡ settled_into out rest (some (take start s ++ t))
unfolding joined
join_is s start t b rest out h = go (ltb (length out) (start + length t)) refl
  where
    -- the file's length, and what it makes of the buffer
    into : ℕ → Rewritten
    into m =
        cond (ltb (length out) m) (unsettled ShortRoom rest m out)
        (remade (record { verdict = Ok tt; budget = rest; length = m }) ((take start s ++ t) ++ drop m out))

    counted : settled_into out rest (some (take start s ++ t)) ≡ into (start + length t)
    counted = ap into (length-append (take start s) t ∙ ap (λ k. k + length t) (length-take-le start s h))

    laid : List ℕ
    laid = take start out ++ (t ++ drop (length t) (drop start out))

    go : (q : Bool) → ltb (length out) (start + length t) ≡ q
        → joined s start (length t) rest (scan_laid start (whole (some t) b) out) ≡ settled_into out rest (some (take start s ++ t))
    go true e = ap (joined s start (length t) rest) (laid_not start t b out (ltb-true (length out) (start + length t) e)) ∙ here ∙ sym (counted ∙ there)
      where
        here : joined s start (length t) rest out ≡ unsettled ShortRoom rest (start + length t) out
        here = rw e refl

        there : into (start + length t) ≡ unsettled ShortRoom rest (start + length t) out
        there = rw e refl
    go false e =
        ap (joined s start (length t) rest) (laid_all start t b out room) ∙ here
        ∙ ap (remade (record { verdict = Ok tt; budget = rest; length = start + length t })) bytes ∙ sym (counted ∙ there)
      where
        room : start + length t ≤ length out
        room = ltb-false (length out) (start + length t) e

        front : length (take start out) ≡ start
        front = length-take-le start out (omega (arith, room))

        whole : start + length t ≤ length laid
        whole = omega (arith, front, length-append (take start out) (t ++ drop (length t) (drop start out)), length-append t (drop (length t) (drop start out)))

        here : joined s start (length t) rest laid ≡ remade (record { verdict = Ok tt; budget = rest; length = start + length t }) (take start s ++ drop start laid)
        here = rw (le-ltb (length laid) (start + length t) whole) refl

        there : into (start + length t) ≡ remade (record { verdict = Ok tt; budget = rest; length = start + length t }) ((take start s ++ t) ++ drop (start + length t) out)
        there = rw e refl

        bytes : take start s ++ drop start laid ≡ (take start s ++ t) ++ drop (start + length t) out
        bytes =
            ap (λ x. take start s ++ x) (drop_at (take start out) (t ++ drop (length t) (drop start out)) start front)
            ∙ sym (append_assoc (take start s) t (drop (length t) (drop start out)))
            ∙ ap (λ x. (take start s ++ t) ++ x) (drop-drop (length t) start out)

-- ---- what is answered of a scan

-- a scan that was settled to n bytes
record Laid (o : Scanned Bits (Option (List ℕ))) (n : ℕ) : Type 0 where
  bytes : List ℕ
  place : Bits
  is : o ≡ whole (some bytes) place
  long : n ≡ length bytes

done_laid : (o : Scanned Bits (Option (List ℕ))) (n : ℕ) → Ok n ≡ scan_settled o → Laid o n
unfolding scan_settled
done_laid (whole none b) n e = cc
done_laid (whole (some t) b) n e = let same : n ≡ length t = cc in record { bytes = t; place = b; is = refl; long = same }
done_laid (broke f) n e = cc

-- ---- the file

-- a scan that was settled begins within the bytes, and is far shorter than what can be counted
module _ (s : List ℕ) (r : Record) where
  scan_within : (ls : List (List ℤ)) (a : Bits) → scan_of s r ≡ whole ls a → r.start ≤ length s
  unfolding scan_of readable
  scan_within ls a e = go (readable s r) refl e
    where
      go : (k : Bool) → readable s r ≡ k → cond k (levels s r) (broke nowhere) ≡ whole ls a → r.start ≤ length s
      go true p e = leb→le r.start (length s) (and_left (leb r.start (length s)) _ (subst⁻¹ T p tt))
      go false p e = let z : ◌≡◌ {A = ℕ} 0 1 = cc in let n : ⊥ = omega arith in absurd n

  laid_within : (t : List ℕ) (b : Bits) → settled_of s r ≡ whole (some t) b → (r.start ≤ length s) × (length t ≤ 2199023255556)
  unfolding settled_of
  laid_within t b e = go (ltb r.blocks (2 ^ 32)) refl (scan_of s r) refl e
    where
      go : (k : Bool) → ltb r.blocks (2 ^ 32) ≡ k → (x : Scanned Bits (List (List ℤ))) → scan_of s r ≡ x
          → cond k (settled_read (plan_of s r) x) (broke nowhere) ≡ whole (some t) b → (r.start ≤ length s) × (length t ≤ 2199023255556)
      go true p (whole ls a) q e =
          let same : settled_scan (plan_of s r) ls ≡ some t = cc in
          (scan_within ls a q, omega (arith, ltb-true r.blocks (2 ^ 32) p, settled_length s r ls a t (scan_levels s r q) same))
      go true p (broke g) q e = let z : ◌≡◌ {A = ℕ} 0 1 = cc in let n : ⊥ = omega arith in absurd n
      go false p x q e = let z : ◌≡◌ {A = ℕ} 0 1 = cc in let n : ⊥ = omega arith in absurd n

module _ (s : List ℕ) (r : Record) (few : length s < 2 ^ 63) where
  pub refiled_is : (rest : Budget) (out : List ℕ) → refiled s r rest out ≡ refiled_by s r rest out (settled_of s r)
  unfolding refiled
  refiled_is rest out = rw (lt-leb (2 ^ 63) (length s) few) refl

  -- a scan that is not settled
  pub file_unsettled :
      (rest : Budget) (out out' : List ℕ) (u : Unsettled)
      → Err u ≡ scan_settled (settled_of s r)
      → out' ≡ scan_laid r.start (settled_of s r) out
      → remade (record { verdict = Err (refusal_of u); budget = rest; length = 0 }) out' ≡ refiled s r rest out
  unfolding scan_settled
  file_unsettled rest out out' u e w = go (settled_of s r) refl u e
    where
      go :
          (o : Scanned Bits (Option (List ℕ)))
          → settled_of s r ≡ o
          → (u : Unsettled)
          → Err u ≡ scan_settled o
          → remade (record { verdict = Err (refusal_of u); budget = rest; length = 0 }) out' ≡ refiled s r rest out
      go (whole none b) p u e =
          let same : u ≡ Lacking = cc in
          ap₂ (λ u o. remade (record { verdict = Err (refusal_of u); budget = rest; length = 0 }) o) same (w ∙ ap (λ x. scan_laid r.start x out) p ∙ laid_none r.start b out)
          ∙ sym (refiled_is rest out ∙ ap (refiled_by s r rest out) p)
      go (whole (some t) b) p u e = cc
      go (broke f) p u e =
          let same : u ≡ Broke f = cc in
          ap₂ (λ u o. remade (record { verdict = Err (refusal_of u); budget = rest; length = 0 }) o) same (w ∙ ap (λ x. scan_laid r.start x out) p ∙ laid_stop r.start f out)
          ∙ sym (refiled_is rest out ∙ ap (refiled_by s r rest out) p)

  module _ {n : ℕ} (e : Ok n ≡ scan_settled (settled_of s r)) where
    laid : Laid (settled_of s r) n
    laid = done_laid (settled_of s r) n e

    pub file_within : (r.start ≤ length s) × (r.start + n < 2 ^ 64)
    file_within = let w = laid_within s r laid.bytes laid.place laid.is in (w.0, omega (arith, w, few, laid.long))

    pub file_done : (rest : Budget) (out : List ℕ) → joined s r.start n rest (scan_laid r.start (settled_of s r) out) ≡ refiled s r rest out
    file_done rest out =
        ap (λ k. joined s r.start k rest (scan_laid r.start (settled_of s r) out)) laid.long ∙ ap (λ x. joined s r.start (length laid.bytes) rest (scan_laid r.start x out)) laid.is
        ∙ join_is s r.start laid.bytes laid.place rest out file_within.0 ∙ sym (refiled_is rest out ∙ ap (refiled_by s r rest out) laid.is)
