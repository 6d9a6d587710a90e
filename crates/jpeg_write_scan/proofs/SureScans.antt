-- A scan that is sure to be written: where it is read, its settled form lacks no code and has room.
use Prim.Native.Nat.{ℕ, zero, suc, ◌+◌, ◌*◌, ◌-◌, ◌≤◌, ◌<◌, ◌^◌}
use mathlib.Core.Path.{◌≡◌, refl, sym, ap, ◌∙◌, subst, subst⁻¹}
use mathlib.Core.Bool.{Bool, true, false, cond}
use mathlib.Core.List.{List, [], ◌∷◌}
use mathlib.Core.Option as math
use mathlib.Core.Option.{none, some}
use Rattle.std.specs.Prelude.{Result, Ok, Err}
use native.Mathlib.Decide.{ℕ_discrete}
use native.Mathlib.Nat.{not-suc-le-zero, suc-ne-zero}
use native.Mathlib.Omega.{arith}
use lib.Dec.{eqb, ltb}
use lib.IntN.{ℤ}
use lib.ListN.{length, get_or, take}
use borrow.Author.Tests.{ltb-false, eqb-false}
use Rattle.whole.specs.Lists.{get_d_from}
use Rattle.reading.specs.declared.Bits.{Bits}
use Rattle.reading.specs.declared.Break.{Break}
use Rattle.reading.specs.declared.Record.{Record}
use Rattle.reading.specs.declared.Unsettled.{Unsettled}
use Rattle.reading.specs.declared.Unsettled.TheVariants.{Broke}
use Rattle.reading.specs.Code.Answers.{scan_read}
use Rattle.reading.specs.Huffman.{Table, code_of}
use Rattle.reading.specs.Layout.{channel_of}
use Rattle.reading.specs.Scan.{Scanned, whole, broke}
use Rattle.reading.specs.Scan as scan
use Rattle.reading.specs.Code.Scans.{scan_of, settled_read, settled_of, scan_settled, laid_over}
use Rattle.reading.specs.Settled.{Written}
use Rattle.reading.specs.Tables.{shape_of}
use Rattle.reading.specs.Tests.{is_none}
use Rattle.reading.proofs.Counted.{scan_levels}
use Rattle.reading.proofs.FileBytes.{AllBytes}
use Rattle.reading.proofs.Sampling.{channel_in_lem, channels_are, per_some}
use Rattle.reading.proofs.SettledLength.{settled_short}
use Rattle.reading.proofs.WantOfCode.{ZeroCoded, no_want}
use Rattle.jpeg_scan_plan.specs.declared.Plan.{Plan}
use Rattle.jpeg_scan_plan.proofs.Standing.{Readable, readable_says, Ready}
use Rattle.jpeg_write_codes.specs.Words.{word_of, code_words}
use Rattle.jpeg_write_codes.specs.Sheets.{sheet, words_in, zeros_coded, sure}
use Rattle.jpeg_huffman_table.specs.Looks.{paired}
use Rattle.jpeg_write_scan.specs.Pass.{foretold}
use Rattle.jpeg_write_scan.proofs.SettledAnswers.{Passed, settled_is, stays_err, stays_short, writes_all}
use Rattle.jpeg_write_scan.proofs.SheetFilled.{words_dc, words_ac}

-- ---- what the test says

coded_each : (ws : List ℕ) (n : ℕ) → zeros_coded ws n ≡ true → (i : ℕ) → i < n → get_or ws (256 * i) 0 ≡ 0 → ⊥
unfolding zeros_coded
coded_each ws zero e i h = absurd (not-suc-le-zero h)
coded_each ws (suc n) e i h = go (eqb (get_or ws (256 * n) 0) 0) refl e (coded_each ws n)
  where
    go :
        (t : Bool)
        → eqb (get_or ws (256 * n) 0) 0 ≡ t
        → cond t false (zeros_coded ws n) ≡ true
        → (zeros_coded ws n ≡ true → (i : ℕ) → i < n → get_or ws (256 * i) 0 ≡ 0 → ⊥)
        → get_or ws (256 * i) 0 ≡ 0
        → ⊥
    go true q f ih = λ z. suc-ne-zero 0 cc
    go false q f ih = here (ℕ_discrete i n)
      where
        below : (i ≡ n → ⊥) → i < n
        below d = omega arith

        here : Dec (i ≡ n) → get_or ws (256 * i) 0 ≡ 0 → ⊥
        here (yes same) = subst⁻¹ (λ (j : ℕ). get_or ws (256 * j) 0 ≡ 0 → ⊥) same (eqb-false (get_or ws (256 * n) 0) 0 q)
        here (no d) = ih f i (below d)

module _ (r : Record) (ws : List ℕ) (coded room : ℕ) where
  sure_says : sure r ws coded room ≡ true → (2 * coded + 4 * r.blocks ≤ room) × (zeros_coded ws (2 * r.frame.channels) ≡ true)
  unfolding sure
  sure_says e = go (ltb room (2 * coded + 4 * r.blocks)) refl (ltb 4 r.frame.channels) e
    where
      go : (t : Bool)
          → ltb room (2 * coded + 4 * r.blocks) ≡ t
          → (k : Bool)
          → cond t false (cond k false (zeros_coded ws (2 * r.frame.channels))) ≡ true
          → (2 * coded + 4 * r.blocks ≤ room) × (zeros_coded ws (2 * r.frame.channels) ≡ true)
      go true q k f = absurd (suc-ne-zero 0 cc)
      go false q true f = absurd (suc-ne-zero 0 cc)
      go false q false f = (ltb-false room (2 * coded + 4 * r.blocks) q, f)

-- ---- a word for the symbol 0 is a code for it

first_in : (a : ℕ) (ws : List ℕ) → get_or (words_in a ws) 0 0 ≡ get_or ws a 0
first_in zero [] = refl
first_in zero (w ∷ ws) = refl
first_in (suc a) [] = refl
first_in (suc a) (w ∷ ws) = first_in a ws

zero_word : (t : Table) → get_or (code_words t 256) 0 0 ≡ word_of (code_of t 0)
unfolding code_words
zero_word t = get_d_from (λ y. word_of (code_of t y)) 0 256 0 0 (omega arith)

has_word : (t : Table) → (word_of (code_of t 0) ≡ 0 → ⊥) → is_none (code_of t 0) ≡ false
unfolding word_of
has_word t h = go (code_of t 0) h
  where
    go : (o : Written) → (word_of o ≡ 0 → ⊥) → is_none o ≡ false
    go none k = absurd (k refl)
    go (some w) k = refl

module _ (a : ℕ) (ws : List ℕ) (t : Table) (e : words_in a ws ≡ code_words t 256) (h : get_or ws a 0 ≡ 0 → ⊥) where
  word_coded : is_none (code_of t 0) ≡ false
  word_coded = has_word t (λ z. h (sym (first_in a ws) ∙ ap (λ (l : List ℕ). get_or l 0 0) e ∙ zero_word t ∙ z))

-- ---- a scan that is sure

-- it lacks no code, and fits
abbrev pub Roomy : Scanned Bits (math.Option (List ℕ)) → ℕ → Type 0
Roomy (whole none b) room = ⊥
Roomy (whole (some t) b) room = length t ≤ room
Roomy (broke w) room = Unit {0}

module _ {s : List ℕ} {r : Record} {n : Plan} (u : Ready s r n) {ws : List ℕ} (w : ws ≡ sheet (take n.start s) (paired n.dcs n.acs)) where
  has : Readable s r
  has = readable_says s r u.readable_is

  channel_few : (k : ℕ) → channel_of (shape_of r.frame) k < r.frame.channels
  channel_few k = omega (arith, channel_in_lem (shape_of r.frame) k (per_some r.frame has.sampling), channels_are r.frame)

  zero_coded : zeros_coded ws (2 * r.frame.channels) ≡ true → ZeroCoded (scan.plan_of s r)
  zero_coded e = record { dcs = λ k. dc (channel_of (shape_of r.frame) k) (channel_few k); acs = λ k. ac (channel_of (shape_of r.frame) k) (channel_few k) }
    where
      fourth : (c : ℕ) → c < r.frame.channels → c < 4
      fourth c h = omega (arith, has.sampling.few)

      dc : (c : ℕ) → c < r.frame.channels → is_none (code_of ((scan.plan_of s r).channels c).dc 0) ≡ false
      dc c h =
          let place : 256 * (2 * c) ≡ 512 * c = omega arith in
          subst⁻¹ (λ (t : Table). is_none (code_of t 0) ≡ false) (u.numbers.dc_is c (fourth c h))
          (word_coded (512 * c) ws _ (words_dc u.numbers w c (fourth c h)) (subst (λ (a : ℕ). get_or ws a 0 ≡ 0 → ⊥) place (coded_each ws (2 * r.frame.channels) e (2 * c) (omega arith))))

      ac : (c : ℕ) → c < r.frame.channels → is_none (code_of ((scan.plan_of s r).channels c).ac 0) ≡ false
      ac c h =
          let place : 256 * (2 * c + 1) ≡ 512 * c + 256 = omega arith in
          subst⁻¹ (λ (t : Table). is_none (code_of t 0) ≡ false) (u.numbers.ac_is c (fourth c h))
          (word_coded (512 * c + 256) ws _ (words_ac u.numbers w c (fourth c h)) (subst (λ (a : ℕ). get_or ws a 0 ≡ 0 → ⊥) place (coded_each ws (2 * r.frame.channels) e (2 * c + 1) (omega arith))))

  sure_fits : r.blocks < 2 ^ 32 → AllBytes s → (room : ℕ) → sure r ws (length s - n.start) room ≡ true → Roomy (settled_of s r) room
  sure_fits few ab room e = subst⁻¹ (λ (o : Scanned Bits (math.Option (List ℕ))). Roomy o room) (settled_is u few) (go (scan_of s r) refl)
    where
      starts : n.start ≡ r.start
      starts = ap (λ (k : Plan). k.start) u.plan_is

      go : (o : Scanned Bits (List (List ℤ))) → scan_of s r ≡ o → Roomy (settled_read (scan.plan_of s r) o) room
      go (whole ls b) f =
          let says = sure_says r ws (length s - n.start) room e in
          let l = scan_levels s r f in
          let t = no_want s r ls b ab (zero_coded says.1) l in
          subst⁻¹ (λ (o : math.Option (List ℕ)). Roomy (whole o b) room) t.1 (omega (arith, settled_short s r ls b t.0 ab l t.1, says.0, starts))
      go (broke x) g = tt

  -- what reading it tells
  module _ (few : r.blocks < 2 ^ 32) (room : ℕ) {x : Result (Unit {0}) Break} (e : x ≡ scan_read (scan_of s r)) where
    pub read_stop : {f : Break} → x ≡ Err f → Err (Broke f) ≡ foretold true room (settled_of s r)
    unfolding foretold scan_read
    read_stop {f} g = subst⁻¹ (λ (o : Scanned Bits (math.Option (List ℕ))). Err (Broke f) ≡ foretold true room o) (settled_is u few) (go (scan_of s r) e)
      where
        go : (o : Scanned Bits (List (List ℤ))) → x ≡ scan_read o → Err (Broke f) ≡ foretold true room (settled_read (scan.plan_of s r) o)
        go (whole ls b) h = absurd (suc-ne-zero 0 cc)
        go (broke k) h = let same : f ≡ k = cc in ap (λ (w : Break). Err (Broke w)) same

    pub read_done : x ≡ Ok tt → Ok room ≡ foretold true room (settled_of s r)
    unfolding foretold scan_read
    read_done g = subst⁻¹ (λ (o : Scanned Bits (math.Option (List ℕ))). Ok room ≡ foretold true room o) (settled_is u few) (go (scan_of s r) e)
      where
        go : (o : Scanned Bits (List (List ℤ))) → x ≡ scan_read o → Ok room ≡ foretold true room (settled_read (scan.plan_of s r) o)
        go (whole ls b) h = refl
        go (broke k) h = absurd (suc-ne-zero 0 cc)

-- where it is measured
pub foretold_measured : (t : Bool) (room : ℕ) (o : Scanned Bits (math.Option (List ℕ))) → t ≡ false → scan_settled o ≡ foretold t room o
unfolding foretold
foretold_measured true room o e = absurd (suc-ne-zero 0 cc)
foretold_measured false room o e = refl

-- ---- what follows for the answer and the buffer

module _ (old : List ℕ) (t : Bool) (o : Scanned Bits (math.Option (List ℕ))) {x : Result ℕ Unsettled} (e : x ≡ foretold t (length old) o) where
  pub told_err : {u : Unsettled} → x ≡ Err u → (Err u ≡ scan_settled o) × (old ≡ laid_over o old)
  unfolding foretold scan_settled laid_over
  told_err {u} g = go t o e
    where
      go : (t : Bool) (o : Scanned Bits (math.Option (List ℕ))) → x ≡ foretold t (length old) o → (Err u ≡ scan_settled o) × (old ≡ laid_over o old)
      go false o h = (sym g ∙ h, stays_err o old h g)
      go true (whole y b) h = absurd (suc-ne-zero 0 cc)
      go true (broke k) h = (sym g ∙ h, refl)

  module _ {n : ℕ} (g : x ≡ Ok n) where
    pub told_short : length old < n → (Ok n ≡ scan_settled o) × (old ≡ laid_over o old)
    unfolding foretold scan_settled laid_over
    told_short l = go t o e
      where
        go : (t : Bool) (o : Scanned Bits (math.Option (List ℕ))) → x ≡ foretold t (length old) o → (Ok n ≡ scan_settled o) × (old ≡ laid_over o old)
        go false o h = (sym g ∙ h, stays_short o old h g l)
        go true (whole y b) h = let same : n ≡ length old = cc in let y : ⊥ = omega arith in absurd y
        go true (broke k) h = absurd (suc-ne-zero 0 cc)

    told_fits : n ≤ length old → (t ≡ true → Roomy o (length old)) → {y : Result ℕ Unsettled} {new : List ℕ} → Passed o old y new → new ≡ laid_over o old
    unfolding foretold scan_settled laid_over
    told_fits l room {y} {new} a = go t o e room a
      where
        go : (t : Bool) (o : Scanned Bits (math.Option (List ℕ))) → x ≡ foretold t (length old) o → (t ≡ true → Roomy o (length old)) → Passed o old y new → new ≡ laid_over o old
        go false o h q a = writes_all o old h g l a
        go true (whole none b) h q a = absurd (q refl)
        go true (whole (some k) b) h q a = writes_all (whole (some k) b) old refl refl (q refl) a
        go true (broke k) h q a = absurd (suc-ne-zero 0 cc)

-- what was foretold to fit is written
module _ {s : List ℕ} {r : Record} {n : Plan} (u : Ready s r n) {ws : List ℕ} (w : ws ≡ sheet (take n.start s) (paired n.dcs n.acs)) (few : r.blocks < 2 ^ 32) (ab : AllBytes s) (old : List ℕ) where
  pub sure_written : {x : Result ℕ Unsettled} → x ≡ foretold (sure r ws (length s - n.start) (length old)) (length old) (settled_of s r) → {k : ℕ} → x ≡ Ok k → k ≤ length old
      → {y : Result ℕ Unsettled} {new : List ℕ} → Passed (settled_of s r) old y new → new ≡ laid_over (settled_of s r) old
  sure_written e g l a = told_fits old (sure r ws (length s - n.start) (length old)) (settled_of s r) e g l (sure_fits u w few ab (length old)) a
