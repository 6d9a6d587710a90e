-- A settled scan has no fill: behind each 255 in it stands a 0 or the code of a marker, so no two 255 stand in a row.
use Prim.Native.Nat.{ℕ, zero, suc, ◌+◌, ◌*◌, ◌-◌, ◌^◌, ◌≤◌}
use mathlib.Core.Path.{◌≡◌, refl, sym, ap, ◌∙◌, subst, subst⁻¹}
use mathlib.Core.Bool.{Bool, true, false}
use mathlib.Core.List.{List, [], ◌∷◌, ◌++◌}
use mathlib.Core.Option.{Option, none, some}
use native.Mathlib.Omega.{arith}
use lib.Dec.{eqb}
use lib.IntN.{ℤ, pos}
use lib.ListN.{length, get_or, set, take, drop}
use lib.Seq.{drop-append-add}
use borrow.Author.Tests.{ne_eqb}
use Rattle.reading.specs.declared.Record.{Record}
use Rattle.reading.specs.Bits.{fulls}
use Rattle.reading.specs.Layout.{channel_of, restart_due, restart_code}
use Rattle.reading.specs.Scan.{Plan, plan_of, no_predictors}
use Rattle.reading.specs.Settled.{Written, stuffed, padding, pack_next, pack_from, Coded, bytes_of, onto, cut, predictors, written, block_bits}
use Rattle.reading.proofs.ScanWritten.{code_not_255}
use Rattle.reading.proofs.Demand3.{Settles, Made, making, head_length}

-- no two 255 in a row
abbrev Single : List ℕ → Type 0
Single [] = Unit {0}
Single (x ∷ l) = (fulls (x ∷ l) ≤ 1) × Single l

single_from : (l : List ℕ) → Single l → (i : ℕ) → fulls (drop i l) ≤ 1
single_from [] h zero = omega arith
single_from [] h (suc i) = omega arith
single_from (x ∷ l) h zero = h.0
single_from (x ∷ l) h (suc i) = single_from l h.1 i

-- a byte other than 255, and 255 with such a byte behind it
other : (x : ℕ) (l : List ℕ) → eqb x 255 ≡ false → Single l → Single (x ∷ l)
other x l e h = (rw e (omega arith), h)

full : (x : ℕ) (l : List ℕ) → eqb x 255 ≡ false → Single l → Single (255 ∷ x ∷ l)
full x l e h = (rw e (omega arith), other x l e h)

-- ---- packed bits

stuffed_single : (x : ℕ) (l rest : List ℕ) → Single (l ++ rest) → Single (stuffed x l ++ rest)
stuffed_single x l rest h = go (eqb x 255) refl
  where
    go : (t : Bool) → eqb x 255 ≡ t → Single (stuffed x l ++ rest)
    go true e = rw e (rw e (omega arith), other 0 (l ++ rest) refl h)
    go false e = rw e (other x (l ++ rest) e h)

pack_single : (bs : List ℕ) (v n : ℕ) (rest : List ℕ) → Single rest → Single (pack_from bs v n ++ rest)
pack_single [] v n rest h = go (eqb n 8)
  where
    go : (t : Bool) → Single (padding v t n ++ rest)
    go true = h
    go false = stuffed_single (v * 2 ^ n + (2 ^ n - 1)) [] rest h
pack_single (b ∷ bs) v n rest h = go (eqb n 1) (λ w m. pack_single bs w m rest h)
  where
    go : (t : Bool) → ((w m : ℕ) → Single (pack_from bs w m ++ rest)) → Single (pack_next (2 * v + b) n (pack_from bs) t ++ rest)
    go true ih = stuffed_single (2 * v + b) (pack_from bs 0 8) rest (ih 0 8)
    go false ih = ih (2 * v + b) (n - 1)

-- ---- a scan

-- of what is written, if anything, the bytes from its marker on
abbrev Single? : Option Coded → Type 0
Single? none = Unit {0}
Single? (some c) = Single c.after

bytes_single : (c : Coded) → Single c.after → Single (bytes_of c)
bytes_single c h = pack_single c.bits 0 8 c.after h

onto_single : (w : Written) (o : Option Coded) → Single? o → Single? (onto w o)
onto_single none o h = tt
onto_single (some w) none h = tt
onto_single (some w) (some c) h = h

cut_single : (due : Bool) (code : ℕ) (o : Option Coded) → eqb code 255 ≡ false → Single? o → Single? (cut due code o)
cut_single due code none e h = tt
cut_single true code (some c) e h = full code (bytes_of c) e (bytes_single c h)
cut_single false code (some c) e h = h

written_single : (p : Plan) (k : ℕ) (ps : List ℤ) (ls : List (List ℤ)) → Single? (written p k ps ls)
written_single p k ps [] = full 217 [] refl tt
written_single p k ps (l ∷ ls) =
    let due = restart_due p.shape p.interval k in
    let code = restart_code p.shape p.interval k in
    let qs = predictors due ps in
    let c = channel_of p.shape k in
    let b = block_bits (p.channels c) (get_or qs c (pos 0)) l in
    let w = written p (suc k) (set qs c (get_or l 0 (pos 0))) ls in
    cut_single due code (onto b w) (ne_eqb code 255 (code_not_255 p.shape p.interval k))
    (onto_single b w (written_single p (suc k) (set qs c (get_or l 0 (pos 0))) ls))

-- ---- a file

-- from the first coded byte of a settled file on
pub settled_single : (s : List ℕ) (r : Record) (ls : List (List ℤ)) (t : List ℕ) → Settles s r ls t → (i : ℕ) → r.start ≤ i → fulls (drop i t) ≤ 1
settled_single s r ls t h i a = subst⁻¹ (λ l. fulls l ≤ 1) from_there (single_from (bytes_of part) (bytes_single part coded) (i - r.start))
  where
    m : Made s r ls t
    m = making s r ls t h

    part : Coded
    part = m.part

    coded : Single part.after
    coded = subst Single? m.scan (written_single (plan_of s r) 0 no_predictors ls)

    from_there : drop i t ≡ drop (i - r.start) (bytes_of part)
    from_there =
        let place : i ≡ length (take r.start s) + (i - r.start) = omega (arith, head_length s r ls t h) in
        ap (drop i) (sym m.whole) ∙ ap (λ k. drop k (take r.start s ++ bytes_of part)) place
        ∙ drop-append-add (take r.start s) (bytes_of part) (i - r.start)
