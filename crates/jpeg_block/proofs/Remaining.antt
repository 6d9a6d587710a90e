-- The walk over a block, in the code's terms. The one idea: at each place the block is what is still to be read there, behind
-- the levels that stand, which are 0 from the place on.
use Prim.Native.Nat.{ℕ, zero, suc, ◌+◌, ◌-◌, ◌<◌, ◌≤◌}
use mathlib.Core.Path.{◌≡◌, refl, sym, ◌∙◌, ap}
use mathlib.Core.Bool.{Bool, true, false, cond}
use mathlib.Core.List.{List, [], ◌∷◌, ◌++◌, append_assoc, append-nil}
use native.Mathlib.Nat.{not-suc-le-zero}
use native.Mathlib.Numerals.{sub-one}
use native.Mathlib.Omega.{arith}
use lib.Dec.{leb, eqb}
use lib.ListN.{length, take, set, length-set}
use lib.Seq.{take_all, take-suc-set}
use lib.IntN.{ℤ, ◌+ℤ◌}
use borrow.Author.Tests.{le-leb, lt-leb, ne_eqb}
use Rattle.std.specs.Result.{is_err}
use Rattle.reading.specs.declared.Bits.{Bits}
use Rattle.reading.specs.declared.Fault.{Fault}
use Rattle.reading.specs.Reader.{Read, got, fault, Reader, onward, ◌>>=◌, give, rule}
use Rattle.reading.specs.Bits.{one, amplitude}
use Rattle.reading.specs.Huffman.{table_at, symbol}
use Rattle.reading.specs.Block.{Ask, end, skip, value, wrong, asked, answered, zeros, first, rest, block, predictable}
use Rattle.reading.specs.Code.Places.{extent, places}
use Rattle.reading.specs.Code.Answers.{said, levels_or, levels_of}
use Rattle.jpeg_block.specs.Step.{ask_at, Step, ends, skips, puts, level_at, value_at, step_for, stepped}
use Rattle.jpeg_block.proofs.Steps.{Possible, asked_possible, Puts, leads}
use Rattle.reading.proofs.Reach.{reach_all, reach_take, reach_put, Reached, reached_put}

-- two readings one after the other, the answers put together
give_twice :
    {A B : Type 0} (o : Read Bits A) (f g : A → B) (h : B → B)
    → ((a : A) → h (f a) ≡ g a)
    → onward (onward o (λ a. give (f a))) (λ b. give (h b)) ≡ onward o (λ a. give (g a))
give_twice (got a s) f g h e = ap (λ x. got x s) (e a)
give_twice (fault x) f g h e = refl

module _ (t s : List ℕ) (dc ac : ℕ) (p : ℤ) where
  abbrev later : ℕ → ℕ → Reader Bits (List ℤ)
  later n place = rest (one s) (table_at t ac) n place

  -- behind a first level
  abbrev behind : ℕ → ℤ → Reader Bits (List ℤ)
  behind n v = later n 1 >>= λ m. give (v ∷ m)

  -- what is still to be read of a block at a place, behind the levels l; n bounds the symbols that are left
  unfoldable pub remaining : ℕ → ℕ → List ℤ → Reader Bits (List ℤ)
  unfolding one symbol amplitude rest
  remaining n zero l = first (one s) (table_at t dc) p >>= behind (n - 1)
  remaining n (suc k) l = later n (suc k) >>= λ m. give (take (suc k) l ++ m)

  -- what a step leaves to be read
  abbrev led : ℕ → ℕ → List ℤ → Step → Reader Bits (List ℤ)
  led n place l ends = give l
  led n place l skips = remaining n (place + 16) l
  led n place l (puts at z) = remaining n (at + 1) (set l at z)

  begins : (b : Bits) → block (one s) (table_at t dc) (table_at t ac) p b ≡ remaining 64 0 (zeros 64) b
  unfolding block remaining
  begins b = refl

  remaining_later :
      (n place : ℕ) (l : List ℤ) (q : Bits)
      → 0 < place
      → remaining n place l q ≡ onward (later n place q) (λ m. give (take place l ++ m))
  unfolding remaining
  remaining_later n zero l q h = absurd (not-suc-le-zero h)
  remaining_later n (suc k) l q h = refl

  -- at place 64 nothing is left
  remaining_none : (n place : ℕ) (l : List ℤ) (q : Bits) → 64 ≤ place → length l ≡ 64 → remaining n place l q ≡ got l q
  unfolding rest
  remaining_none n place l q h size =
      remaining_later n place l q (omega arith) ∙ go n ∙ ap (λ m. got m q) (append-nil (take place l) ∙ take_all place l (omega arith))
    where
      go : (n : ℕ) → onward (later n place q) (λ m. give (take place l ++ m)) ≡ got (take place l ++ []) q
      go zero = refl
      go (suc n) = rw (le-leb 64 place h)

  -- ---- a step at the first place: a category and a difference

  -- the level that a difference makes, and one that a field of a category makes
  abbrev ranged : ℤ → Reader Bits ℤ
  ranged d = rule (predictable (p +ℤ d)) >>= λ _. give (p +ℤ d)

  abbrev different : ℕ → Reader Bits ℤ
  different c = amplitude (one s) c >>= ranged

  first_step : (n : ℕ) (l : List ℤ) (q : Bits) → 0 < length l → remaining n 0 l q ≡ onward (stepped (one s) (table_at t dc) 0 p q) (led (n - 1) 0 l)
  unfolding remaining stepped ask_at value_at
  first_step n l q h = start (symbol (one s) (table_at t dc) q)
    where
      level : (x : Bool) (z : ℤ) (r : Bits)
          → onward (onward (rule x r) (λ _. give z)) (behind (n - 1))
          ≡ onward (onward (rule x r) (λ _. give (puts 0 z))) (led (n - 1) 0 l)
      level true z r = ap (λ front. onward (later (n - 1) 1 r) (λ m. give (front ++ m))) (sym (take-suc-set l 0 z h))
      level false z r = refl

      difference : (o : Read Bits ℤ) → onward (onward o ranged) (behind (n - 1)) ≡ onward (onward o (level_at 0 p)) (led (n - 1) 0 l)
      difference (fault x) = refl
      difference (got d r) = level (predictable (p +ℤ d)) (p +ℤ d) r

      category : (x : Bool) (c : ℕ) (r : Bits)
          → onward (onward (rule x r) (λ _. different c)) (behind (n - 1))
          ≡ onward (step_for (one s) 0 p (cond x (value 0 c) wrong) r) (led (n - 1) 0 l)
      category true c r = difference (amplitude (one s) c r)
      category false c r = refl

      start : (o : Read Bits ℕ)
          → onward (onward o (λ c. rule (leb c 11) >>= λ _. different c)) (behind (n - 1))
          ≡ onward (onward o (λ x. step_for (one s) 0 p (ask_at 0 x))) (led (n - 1) 0 l)
      start (fault x) = refl
      start (got c r) = category (leb c 11) c r

  -- ---- a step at a later place

  module _ (n place : ℕ) (l : List ℤ) (h : 0 < place) (i : place < 64) (size : length l ≡ 64) (quiet : extent l ≤ place) where
    answer : (a : Ask) → Possible place a → (q : Bits)
        → onward (answered (one s) place (later n) a q) (λ m. give (take place l ++ m)) ≡ onward (step_for (one s) place p a q) (led n place l)
    unfolding value_at
    answer end f q = ap (λ m. got m q) (ap (λ k. take place l ++ zeros (k - place)) (sym size) ∙ reach_all l place quiet)
    answer wrong f q = refl
    answer skip f q =
        give_twice (later n (place + 16) q) (λ m. zeros 16 ++ m) (λ m. take (place + 16) l ++ m) (λ m. take place l ++ m)
        (λ m. sym (append_assoc (take place l) (zeros 16) m) ∙ ap (λ front. front ++ m) (sym (reach_take l place quiet 16 (omega arith))))
        ∙ sym (remaining_later n (place + 16) l q (omega arith))
    answer (value run k) f q = go (amplitude (one s) k q)
      where
        go : (o : Read Bits ℤ)
            → onward (onward o (λ v. later n (place + run + 1) >>= λ m. give (zeros run ++ v ∷ m))) (λ m. give (take place l ++ m))
            ≡ onward (onward o (level_at (place + run) p)) (led n place l)
        go (fault x) = refl
        go (got v r) =
            let far : eqb (place + run) 0 ≡ false = ne_eqb (place + run) 0 (λ e. let z : ⊥ = omega arith in z) in
            give_twice (later n (place + run + 1) r) (λ m. zeros run ++ v ∷ m)
            (λ m. take (place + run + 1) (set l (place + run) v) ++ m) (λ m. take place l ++ m)
            (λ m. ap (λ x. take place l ++ x) (sym (append_assoc (zeros run) (v ∷ []) m))
            ∙ sym (append_assoc (take place l) (zeros run ++ (v ∷ [])) m)
            ∙ ap (λ front. front ++ m) (sym (reach_put l place quiet run v (omega (arith, f.inside)))))
            ∙ sym (remaining_later n (place + run + 1) (set l (place + run) v) r (omega arith))
            ∙ rw far

    later_step : (q : Bits) → remaining (suc n) place l q ≡ onward (stepped (one s) (table_at t ac) place p q) (led n place l)
    unfolding rest stepped ask_at
    later_step q =
        let far : eqb place 0 ≡ false = ne_eqb place 0 (λ e. let z : ⊥ = omega arith in z) in
        remaining_later (suc n) place l q h ∙ rw (lt-leb 64 place i, far) (go (symbol (one s) (table_at t ac) q))
      where
        go : (o : Read Bits ℕ)
            → onward (onward o (λ x. answered (one s) place (later n) (asked place x))) (λ m. give (take place l ++ m))
            ≡ onward (onward o (λ x. step_for (one s) place p (asked place x))) (led n place l)
        go (fault x) = refl
        go (got x r) = answer (asked place x) (asked_possible place x) r

  -- a step at any place, by the table of that place
  one_step : (n place : ℕ) (l : List ℤ) (q : Bits) → 0 < n → place < 64 → length l ≡ 64 → extent l ≤ place
      → remaining n place l q ≡ onward (stepped (one s) (table_at t (cond (eqb place 0) dc ac)) place p q) (led (n - 1) place l)
  one_step zero place l q h i size quiet = absurd (not-suc-le-zero h)
  one_step (suc n) zero l q h i size quiet = first_step (suc n) l q (omega arith)
  one_step (suc n) (suc k) l q h i size quiet =
      let far : eqb (suc k) 0 ≡ false = ne_eqb (suc k) 0 (λ e. let z : ⊥ = omega arith in z) in
      rw (far, sub-one) (later_step n (suc k) l (omega arith) i size quiet q)

-- ---- what holds at each place

pub record Walk (t s : List ℕ) (dc ac : ℕ) (p : ℤ) (b here : Bits) (place reach : ℕ) (levels : List ℤ) : Type 0 where
  pub left : ℕ
  pub within : place ≤ 64
  pub enough : 64 ≤ place + left
  pub long : length levels ≡ 64
  pub quiet : extent levels ≤ place
  pub many : places levels ≡ reach
  pub same : block (one s) (table_at t dc) (table_at t ac) p b ≡ remaining t s dc ac p left place levels here

pub begun : (t s : List ℕ) (dc ac : ℕ) (p : ℤ) (b : Bits) → Walk t s dc ac p b b 0 1 (zeros 64)
unfolding places
begun t s dc ac p b = record {
  left = 64;
  within = omega arith;
  enough = omega arith;
  long = refl;
  quiet = omega arith;
  many = refl;
  same = begins t s dc ac p b;
}

module _ {t s : List ℕ} {dc ac : ℕ} {p : ℤ} {b here : Bits} {place reach : ℕ} {levels : List ℤ} (w : Walk t s dc ac p b here place reach levels) where
  pub at_64 : 64 ≤ place → block (one s) (table_at t dc) (table_at t ac) p b ≡ got levels here
  at_64 h = w.same ∙ remaining_none t s dc ac p w.left place levels here h w.long

  module _ (h : place < 64) {base : ℕ} (u : base ≡ cond (eqb place 0) dc ac) where
    on :
        {x : Read Bits Step}
        → stepped (one s) (table_at t base) place p here ≡ x
        → block (one s) (table_at t dc) (table_at t ac) p b ≡ onward x (led t s dc ac p (w.left - 1) place levels)
    on g =
        w.same ∙ one_step t s dc ac p w.left place levels here (omega (arith, w.enough)) h w.long w.quiet
        ∙ ap (λ o. onward o (led t s dc ac p (w.left - 1) place levels)) (ap (λ k. stepped (one s) (table_at t k) place p here) (sym u) ∙ g)

    pub stopped : {f : Fault} → stepped (one s) (table_at t base) place p here ≡ fault f → block (one s) (table_at t dc) (table_at t ac) p b ≡ fault f
    stopped g = on g

    pub ended :
        {q : Bits}
        → stepped (one s) (table_at t base) place p here ≡ got ends q
        → block (one s) (table_at t dc) (table_at t ac) p b ≡ got levels q
    ended g = on g

    module _ {q : Bits} (g : stepped (one s) (table_at t base) place p here ≡ got skips q) where
      skip_room : place ≤ 48
      skip_room = leads t s base here place p g

      pub skipped : Walk t s dc ac p b q (place + 16) reach levels
      skipped =
          record {
            left = w.left - 1;
            within = omega (arith, skip_room);
            enough = omega (arith, w.enough);
            long = w.long;
            quiet = omega (arith, w.quiet);
            many = w.many;
            same = on g;
          }

    module _ {at : ℕ} {z : ℤ} {q : Bits} (g : stepped (one s) (table_at t base) place p here ≡ got (puts at z) q) where
      pub put_room : Puts place at z
      put_room = leads t s base here place p g

      reached : Reached (set levels at z) (at + 1)
      reached = reached_put levels at z (omega (arith, put_room.inside, w.long)) (omega (arith, put_room.onwards, w.quiet)) put_room.full

      pub put : Walk t s dc ac p b q (at + 1) (at + 1) (set levels at z)
      put =
          record {
            left = w.left - 1;
            within = omega (arith, put_room.inside);
            enough = omega (arith, w.enough, put_room.onwards);
            long = length-set levels at z ∙ w.long;
            quiet = reached.quiet;
            many = reached.many;
            same = on g;
          }

-- ---- what a block leaves behind

pub left_refused : (r : Read Bits (List ℤ)) → is_err (said r) ≡ true → zeros 64 ≡ levels_of r
unfolding said levels_of levels_or
left_refused (got l b) h = cc
left_refused (fault f) h = refl

pub left_read : (r : Read Bits (List ℤ)) {l : List ℤ} → is_err (said r) ≡ false → l ≡ levels_or r l → l ≡ levels_of r
unfolding said levels_of levels_or
left_read (got l b) h e = e
left_read (fault f) h e = cc
