-- The test of a scan that is to be written, one law for each way through it.
use Prim.Native.Nat.{ℕ, zero, suc, ◌+◌, ◌*◌, ◌≤◌, ◌<◌}
use mathlib.Core.Path.{◌≡◌, refl, ap, ◌∙◌, subst}
use mathlib.Core.Bool.{Bool, true, false, cond}
use mathlib.Core.List.{List}
use native.Mathlib.Nat.{not-suc-le-zero, zero-add}
use native.Mathlib.Omega.{arith}
use lib.Dec.{eqb}
use lib.ListN.{length, get_or}
use borrow.Author.Tests.{lt-ltb, le-ltb, ne_eqb, eqb-false}
use Rattle.std.specs.Bool.{MatchBool}
use Rattle.std.specs.List.{AllWithin, HoldsAt, range_with_len}
use Rattle.std.proofs.lemmas.List.FromFn.{length-range_with_len, get_or-range_with_len}
use Rattle.reading.specs.declared.Record.{Record}
use Rattle.jpeg_write_codes.specs.Sheets.{zeros_coded, sure}

module _ (ws : List ℕ) where
  -- the symbol 0 has a word in the table that stands i-th
  abbrev Coded : ℕ → Type 0
  Coded i = get_or ws (256 * i) 0 ≡ 0 → ⊥

  coded_all : (n : ℕ) → ((i : ℕ) → i < n → Coded i) → true ≡ zeros_coded ws n
  unfolding zeros_coded
  coded_all zero h = refl
  coded_all (suc n) h = rw (ne_eqb (get_or ws (256 * n) 0) 0 (h n (omega arith))) (coded_all n (λ i l. h i (omega arith)))

  coded_lacks : (n i : ℕ) → i < n → get_or ws (256 * i) 0 ≡ 0 → false ≡ zeros_coded ws n
  unfolding zeros_coded
  coded_lacks zero i h e = absurd (not-suc-le-zero h)
  coded_lacks (suc n) i h e = go (eqb (get_or ws (256 * n) 0) 0) refl (λ l. coded_lacks n i l e)
    where
      go : (b : Bool) → eqb (get_or ws (256 * n) 0) 0 ≡ b → (i < n → false ≡ zeros_coded ws n) → false ≡ cond b false (zeros_coded ws n)
      go true p more = refl
      go false p more =
          let other : n ≡ i → ⊥ = λ q. eqb-false (get_or ws (256 * n) 0) 0 p (ap (λ (k : ℕ). get_or ws (256 * k) 0) q ∙ e) in
          more (omega arith)

  -- what a test of each of the first n tables answers
  pub coded_cases : (r : Bool) (n : ℕ)
      → MatchBool r (AllWithin Coded (range_with_len 0 n) 0 (length (range_with_len 0 n)))
      ((k : ℕ) × (k < length (range_with_len 0 n)) × HoldsAt (λ i. get_or ws (256 * i) 0 ≡ 0) (range_with_len 0 n) k)
      → r ≡ zeros_coded ws n
  coded_cases true n h =
      coded_all n
      (λ i l. subst Coded (get_or-range_with_len 0 n i 0 l ∙ zero-add i) (h i 0 (omega arith) (omega (arith, length-range_with_len 0 n))))
  coded_cases false n h =
      let l : h.0 < n = omega (arith, h.1, length-range_with_len 0 n) in
      coded_lacks n h.0 l (subst (λ (i : ℕ). get_or ws (256 * i) 0 ≡ 0) (get_or-range_with_len 0 n h.0 0 l ∙ zero-add h.0) (h.2 0))

module _ (r : Record) (ws : List ℕ) (coded room : ℕ) where
  pub sure_short : room < 2 * coded + 4 * r.blocks → false ≡ sure r ws coded room
  unfolding sure
  sure_short h = rw (lt-ltb room (2 * coded + 4 * r.blocks) h) refl

  module _ (h : 2 * coded + 4 * r.blocks ≤ room) where
    pub sure_many : 4 < r.frame.channels → false ≡ sure r ws coded room
    unfolding sure
    sure_many k = rw (le-ltb room (2 * coded + 4 * r.blocks) h, lt-ltb 4 r.frame.channels k) refl

    pub sure_room : r.frame.channels ≤ 4 → zeros_coded ws (2 * r.frame.channels) ≡ sure r ws coded room
    unfolding sure
    sure_room k = rw (le-ltb room (2 * coded + 4 * r.blocks) h, le-ltb 4 r.frame.channels k) refl
