-- Markers: what the tests of the code say of one, the end of a scan, and the restart before an MCU.
use mathlib.Core.List.{List}
use mathlib.Core.Path.{◌≡◌, refl, sym, ◌∙◌, ap}
use mathlib.Core.Bool.{Bool, true, false, cond, true≢false}
use Prim.Native.Nat.{ℕ, suc, ◌+◌, ◌-◌, ◌<◌, ◌≤◌, min}
use native.Mathlib.Omega.{arith}
use lib.Dec.{eqb, leb, ltb}
use lib.ListN.{length, get_or, take, drop, length-drop}
use lib.Seq.{take_all}
use Rattle.std.proofs.lemmas.List.{take_min, drop_min}
use borrow.Author.Tests.{eq-eqb, ne_eqb, lt-ltb, le-ltb, lt-leb}
use Rattle.reading.specs.declared.Bits.{Bits}
use Rattle.reading.specs.declared.Fault.{Fault}
use Rattle.reading.specs.declared.Fault.TheVariants.{Broken}
use Rattle.reading.specs.declared.ScanCursor.{ScanCursor}
use Rattle.std.specs.Prelude.{Ok, Err}
use Rattle.reading.specs.Reader.{Read, got, fault, rule}
use Rattle.reading.specs.Tests.{is_at}
use Rattle.reading.specs.Bits.{padded, fulls, mark, file, first_bit}
use Rattle.reading.specs.Layout.{due_before, restart_before}
use Rattle.reading.specs.Scan.{closed, no_predictors}
use Rattle.reading.specs.Code.Scans.{broke_at}
use Rattle.reading.proofs.Restarts.{padded_over, is_at_lem, is_out}
use Rattle.reading.proofs.Marks.{Ended, ended, unended, closed_ended, fulls_out, fulls_not, fulls_more}
use Rattle.jpeg_scan_plan.specs.Marks.{passes, closes, behind_marker, restarted, broke_in}

abbrev nothing : Unit {0}
nothing = tt

-- ---- padding and a run of 255

pub full_over : (byte left : ℕ) → 8 < left → byte < 256 → leb left 8 ≡ padded (record { at = 0; byte = byte; left = left })
full_over byte left h i = lt-leb left 8 h ∙ padded_over byte left h i

-- the bytes from a place on, as the code takes them
pub bytes_behind : (s : List ℕ) (at : ℕ) {a : ℕ} → a ≡ min at (length s) → take (length s - a) (drop a s) ≡ drop at s
bytes_behind s at {a} e =
    take_all (length s - a) (drop a s) (omega (arith, length-drop a s)) ∙ ap (λ i. drop i s) e ∙ drop_min at s

-- a run of 255
pub fulls_next : (s : List ℕ) (i : ℕ) → i < length s → get_or s i 0 ≡ 255 → fulls (drop i s) ≡ fulls (drop (i + 1) s) + 1
fulls_next s i h e = let next : suc i ≡ i + 1 = omega arith in omega (arith, fulls_more s i h e, ap (λ k. fulls (drop k s)) next)

pub ruleset runs = (fulls_out, fulls_not, fulls_next)

-- ---- a marker

module _ (s : List ℕ) (b : Bits) (code : ℕ) where
  pub mark_bare : padded b ≡ false → fault Broken ≡ mark s code b
  unfolding mark
  mark_bare e = rw e

  -- the first place that does not hold 255
  module _ (e : padded b ≡ true) {place : ℕ} (p : place ≡ b.at + fulls (drop b.at s)) where
    pub mark_none : place ≡ b.at → fault Broken ≡ mark s code b
    unfolding mark
    mark_none h = rw (e, le-ltb 0 (fulls (drop b.at s)) (omega (arith, p, h)))

    module _ (h : place ≡ b.at → ⊥) where
      some_full : ltb 0 (fulls (drop b.at s)) ≡ true
      some_full = lt-ltb 0 (fulls (drop b.at s)) (omega (arith, p, h))

      -- what is found there, whatever it is
      found : {x : Bool} → is_at s place code ≡ x → cond x (got nothing (first_bit (place + 1))) (fault Broken) ≡ mark s code b
      unfolding mark
      found {x} i = rw (e, some_full, ← p, i)

      pub mark_out : length s ≤ place → fault Broken ≡ mark s code b
      mark_out i = found (is_out s place code i)

      module _ (i : place < length s) where
        pub mark_wrong : (get_or s place 0 ≡ code → ⊥) → fault Broken ≡ mark s code b
        mark_wrong j = found (is_at_lem s place code i ∙ ne_eqb _ _ j)

        pub mark_found : get_or s place 0 ≡ code → got nothing (first_bit (place + 1)) ≡ mark s code b
        mark_found j = found (is_at_lem s place code i ∙ eq-eqb _ _ j)

pub ruleset marks = (mark_bare, mark_none, mark_out, mark_wrong, mark_found)

-- ---- the end

module _ (s : List ℕ) (b : Bits) where
  pub end_missing : fault Broken ≡ mark s 217 b → false ≡ closes s b
  unfolding closes file
  end_missing e = rw (← e)

  pub end_found : {on : ℕ} → got nothing (first_bit on) ≡ mark s 217 b → eqb on (length s) ≡ closes s b
  unfolding closes file
  end_found {on} e = rw (← e) (go (eqb on (length s)))
    where
      go : (t : Bool) → t ≡ passes (rule t (first_bit on))
      go true = refl
      go false = refl

  pub end_there : closes s b ≡ true → closed (file s) b ≡ got nothing (first_bit (length s))
  unfolding closes
  end_there e = go (closed (file s) b) (closed_ended s b) e
    where
      go : (r : Read Bits (Unit {0})) → Ended s b r → passes r ≡ true → r ≡ got nothing (first_bit (length s))
      go _ (ended h) p = refl
      go _ unended p = absurd (true≢false (sym p))

  pub end_not : closes s b ≡ false → closed (file s) b ≡ fault Broken
  unfolding closes
  end_not e = go (closed (file s) b) (closed_ended s b) e
    where
      go : (r : Read Bits (Unit {0})) → Ended s b r → passes r ≡ false → r ≡ fault Broken
      go _ (ended h) p = absurd (true≢false p)
      go _ unended p = refl

-- ---- the restart before MCU m

module _ (s : List ℕ) (interval m : ℕ) (q : ScanCursor Bits) where
  pub restart_not : due_before interval m ≡ false → Ok q ≡ restarted s interval m q
  unfolding restarted
  restart_not e = rw e

  pub restart_missing :
      due_before interval m ≡ true
      → fault Broken ≡ mark s (restart_before interval m) q.bits
      → Err Broken ≡ restarted s interval m q
  unfolding restarted
  restart_missing e h = rw (e, ← h)

  pub restart_found :
      {at : ℕ}
      → due_before interval m ≡ true
      → got nothing (first_bit at) ≡ mark s (restart_before interval m) q.bits
      → Ok (record { bits = first_bit at; predictors = no_predictors; done = q.done }) ≡ restarted s interval m q
  unfolding restarted
  restart_found e h = rw (e, ← h)

pub ruleset restarts = (restart_not, restart_missing, restart_found)

-- a restart counts no block
pub restart_done :
    (s : List ℕ) (interval m : ℕ) (q : ScanCursor Bits) {x : ScanCursor Bits}
    → Ok x ≡ restarted s interval m q
    → x.done ≡ q.done
unfolding restarted
restart_done s interval m q {x} e = go (due_before interval m) (mark s (restart_before interval m) q.bits) e
  where
    go : (t : Bool) (r : Read Bits (Unit {0})) → Ok x ≡ cond t (behind_marker q r) (Ok q) → x.done ≡ q.done
    go true (got _ b) e = cc
    go true (fault f) e = cc
    go false r e = cc

-- ---- what a fault in an MCU names

module _ (before here : ScanCursor Bits) (f : Fault) where
  pub broke_first : here.done ≡ before.done → broke_in before here f ≡ broke_at before f
  unfolding broke_in
  broke_first e = rw (eq-eqb here.done before.done e) refl

  pub broke_later : (here.done ≡ before.done → ⊥) → broke_in before here f ≡ broke_at here f
  unfolding broke_in
  broke_later n = rw (ne_eqb here.done before.done n) refl

-- ---- a quantizer's 64 bytes

pub first_bytes :
    (at k : ℕ) (t : List ℕ) {a n : ℕ}
    → a ≡ min at (length t)
    → n ≡ min (length (take (length t - a) (drop a t))) k
    → take n (take (length t - a) (drop a t)) ≡ take k (drop at t)
first_bytes at k t {a} {n} e f =
    let all : take (length t - a) (drop a t) ≡ drop a t = take_all (length t - a) (drop a t) (omega (arith, length-drop a t)) in
    let size : n ≡ min k (length (drop a t)) = omega (arith, f, ap length all) in
    ap (take n) all ∙ ap (λ i. take i (drop a t)) size ∙ take_min k (drop a t) ∙ ap (λ i. take k (drop i t)) e ∙ ap (take k) (drop_min at t)
