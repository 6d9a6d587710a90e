-- One step of the walk over a block, by the code's cases, and where it leads.
use Prim.Native.Nat.{ℕ, ◌+◌, ◌/◌, ◌%◌, ◌^◌, ◌<◌, ◌≤◌}
use mathlib.Core.Path.{◌≡◌, refl, sym, ◌∙◌, ap}
use mathlib.Core.Bool.{Bool, true, false, cond}
use mathlib.Core.List.{List}
use native.Mathlib.Nat.{not-suc-le-zero}
use native.Mathlib.Omega.{arith}
use lib.Pow.{pow_mono}
use lib.Dec.{leb, eqb}
use lib.IntN.{ℤ, pos, nat_abs, ◌+ℤ◌}
use borrow.Author.Tests.{leb-true, eqb-true, eq-eqb, ne_eqb, le-leb, lt-ltb}
use Rattle.std.specs.Prelude.{Result, Ok, Err}
use Rattle.reading.specs.declared.Bits.{Bits}
use Rattle.reading.specs.declared.Fault.{Fault}
use Rattle.reading.specs.declared.Fault.TheVariants.{Broken}
use Rattle.reading.specs.Reader.{Read, got, fault, onward, rule, ◌>>◌, give}
use Rattle.reading.specs.Bits.{one, amplitude}
use Rattle.reading.specs.Code.Fields.{short_amplitude}
use Rattle.reading.specs.Huffman.{table_at, symbol}
use Rattle.reading.specs.Block.{Ask, end, skip, value, wrong, asked, predictable}
use Rattle.reading.specs.Code.Answers.{read_of}
use Rattle.reading.proofs.Taken.{Says, asked_says}
use Rattle.jpeg_block.specs.declared.Asked.{Asked}
use Rattle.jpeg_block.specs.declared.Asked.TheVariants as asked
use Rattle.jpeg_block.specs.Step.{ask_at, asked_for, Step, ends, skips, puts, level_at, value_at, step_for, stepped}
use Rattle.jpeg_block_value.proofs.Meanings.{amplitude_short, Meant, amplitude_meant}

-- ---- what a symbol can ask for at a place

pub record Room (place run size : ℕ) : Type 0 where
  pub few : size ≤ 11
  pub inside : place + run < 64
  pub sized : 0 < place + run → 0 < size

abbrev pub Possible : ℕ → Ask → Type 0
Possible place end = Unit {0}
Possible place skip = place ≤ 48
Possible place (value run size) = Room place run size
Possible place wrong = Unit {0}

pub asked_possible : (place x : ℕ) → Possible place (asked place x)
asked_possible place x = go (asked place x) (asked_says place x)
  where
    go : (a : Ask) → Says place x a → Possible place a
    go end h = tt
    go skip h = h.1
    go (value run size) h = record { few = omega (arith, h.few); inside = h.inside; sized = λ _. h.some }
    go wrong h = tt

pub ask_possible : (place x : ℕ) → Possible place (ask_at place x)
unfolding ask_at
ask_possible place x = at_first (eqb place 0) refl
  where
    category : (t : Bool) → leb x 11 ≡ t → place ≡ 0 → Possible place (cond t (value 0 x) wrong)
    category true e z = record { few = leb-true x 11 e; inside = omega arith; sized = λ i. absurd (not-suc-le-zero (rw z at i)) }
    category false e z = tt

    at_first : (t : Bool) → eqb place 0 ≡ t → Possible place (cond t (cond (leb x 11) (value 0 x) wrong) (asked place x))
    at_first true e = category (leb x 11) refl (eqb-true place 0 e)
    at_first false e = asked_possible place x

-- of a size that a value can have, at a later place, where there is room for it
module _ (place x : ℕ) (later : place ≡ 0 → ⊥) (some : x ≡ 0 → ⊥) (other : x ≡ 240 → ⊥) (least : 1 ≤ x % 16) (most : x % 16 ≤ 10) where
  pub ask_inside : place + x / 16 < 64 → ask_at place x ≡ value (x / 16) (x % 16)
  unfolding ask_at
  ask_inside h = simp (ne_eqb place 0 later, ne_eqb x 0 some, ne_eqb x 240 other, le-leb 1 (x % 16) least, le-leb (x % 16) 10 most, lt-ltb _ _ h)

-- what an answer says of what was asked for
abbrev pub Asks : Result Asked Fault → Ask → Type 0
Asks (Ok asked.End) a = a ≡ end
Asks (Ok asked.Skip) a = a ≡ skip
Asks (Ok (asked.Value run size)) a = a ≡ value run size
Asks (Err f) a = (a ≡ wrong) × (f ≡ Broken)

pub asks : (a : Ask) {w x : Result Asked Fault} → w ≡ asked_for a → w ≡ x → Asks x a
asks a e g = rw (sym e ∙ g) at (answers a)
  where
    answers : (a : Ask) → Asks (asked_for a) a
    answers end = refl
    answers skip = refl
    answers (value run size) = refl
    answers wrong = (refl, refl)

pub value_room :
    (place x : ℕ) {w : Result Asked Fault}
    → w ≡ asked_for (ask_at place x)
    → {run size : ℕ}
    → w ≡ Ok (asked.Value run size)
    → Room place run size
value_room place x a g = rw (asks (ask_at place x) a g) at (ask_possible place x)

-- ---- a value

-- the level that it makes, at a place of any source
module _ {S : Type 0} (at : ℕ) (p v : ℤ) (q : S) where
  pub level_later : (at ≡ 0 → ⊥) → level_at at p v q ≡ got (puts at v) q
  level_later n = rw (ne_eqb at 0 n)

  pub level_first : at ≡ 0 → predictable (p +ℤ v) ≡ true → level_at at p v q ≡ got (puts at (p +ℤ v)) q
  level_first h i = rw (eq-eqb at 0 h) (ap (λ t. onward (rule t q) (λ _. give (puts at (p +ℤ v)))) i)

module _ (s : List ℕ) (b : Bits) (at size : ℕ) (p : ℤ) (few : size ≤ 11) where
  short : short_amplitude (one s) size b ≡ amplitude (one s) size b
  short = amplitude_short s b size (omega arith)

  module _ {r : Result (ℤ × Bits) Fault} (e : read_of r ≡ short_amplitude (one s) size b) where
    pub value_cut : {f : Fault} → r ≡ Err f → value_at (one s) at size p b ≡ fault f
    unfolding value_at
    value_cut g = rw (← (e ∙ short), g)

    module _ {v : ℤ} {q : Bits} (g : r ≡ Ok (v, q)) where
      pub value_small : nat_abs v < 2048
      value_small =
          let power : 2 ^ size ≤ 2 ^ 11 = pow_mono {j = 11} few in
          omega (arith, (amplitude_meant s b size few (sym (e ∙ short) ∙ ap read_of g)).small)

      pub value_is : value_at (one s) at size p b ≡ level_at at p v q
      unfolding value_at
      value_is = rw (← (e ∙ short), g)

-- ---- a symbol and its value

module _
    (t s : List ℕ) (base : ℕ) (b : Bits) (place : ℕ) (p : ℤ)
    {r : Result (ℕ × Bits) Fault} (e : read_of r ≡ symbol (one s) (table_at t base) b) where
  pub step_cut : {f : Fault} → r ≡ Err f → stepped (one s) (table_at t base) place p b ≡ fault f
  unfolding stepped
  step_cut g = rw (← e, g)

  module _ {x : ℕ} {q : Bits} (g : r ≡ Ok (x, q)) {w : Result Asked Fault} (a : w ≡ asked_for (ask_at place x)) where
    pub step_end : w ≡ Ok asked.End → stepped (one s) (table_at t base) place p b ≡ got ends q
    unfolding stepped
    step_end h = rw (← e, g) (rw (asks (ask_at place x) a h))

    pub step_skip : w ≡ Ok asked.Skip → stepped (one s) (table_at t base) place p b ≡ got skips q
    unfolding stepped
    step_skip h = rw (← e, g) (rw (asks (ask_at place x) a h))

    pub step_wrong : {f : Fault} → w ≡ Err f → stepped (one s) (table_at t base) place p b ≡ fault f
    unfolding stepped
    step_wrong h =
        let is = asks (ask_at place x) a h in
        rw (← e, g) (rw (is.0, is.1))

    pub step_value :
        {run size : ℕ}
        → w ≡ Ok (asked.Value run size)
        → stepped (one s) (table_at t base) place p b ≡ value_at (one s) (place + run) size p q
    unfolding stepped
    step_value h = rw (← e, g) (rw (asks (ask_at place x) a h))

-- ---- where a step leads

-- a level is put behind the place, and only the first can be 0
pub record Puts (place at : ℕ) (z : ℤ) : Type 0 where
  pub onwards : place ≤ at
  pub inside : at < 64
  pub full : 0 < at → z ≡ pos 0 → ⊥

abbrev pub Leads : ℕ → Read Bits Step → Type 0
Leads place (got ends b) = Unit {0}
Leads place (got skips b) = place ≤ 48
Leads place (got (puts at z) b) = Puts place at z
Leads place (fault f) = Unit {0}

step_leads : (t s : List ℕ) (base : ℕ) (b : Bits) (place : ℕ) (p : ℤ) → Leads place (stepped (one s) (table_at t base) place p b)
unfolding stepped value_at
step_leads t s base b place p = go (symbol (one s) (table_at t base) b)
  where
    first : (u : Bool) (at : ℕ) (z : ℤ) (q : Bits) → at ≡ 0 → place ≤ at → Leads place (onward (rule u q) (λ _. give (puts at z)))
    first true at z q h i = record { onwards = i; inside = omega arith; full = λ k. absurd (not-suc-le-zero (rw h at k)) }
    first false at z q h i = tt

    level : (at : ℕ) (v : ℤ) (q : Bits) → place ≤ at → at < 64 → (0 < at → v ≡ pos 0 → ⊥) → (u : Bool) → eqb at 0 ≡ u
        → Leads place (cond u (rule (predictable (p +ℤ v)) >> give (puts at (p +ℤ v))) (give (puts at v)) q)
    level at v q h i f true e = first (predictable (p +ℤ v)) at (p +ℤ v) q (eqb-true at 0 e) h
    level at v q h i f false e = record { onwards = h; inside = i; full = f }

    valued : (q : Bits) (run size : ℕ) → Room place run size → (o : Read Bits ℤ) → amplitude (one s) size q ≡ o
        → Leads place (onward o (level_at (place + run) p))
    valued q run size f (fault x) e = tt
    valued q run size f (got v q') e =
        let m : Meant v size = amplitude_meant s q size f.few e in
        level (place + run) v q' (omega arith) f.inside (λ i. m.full (f.sized i)) (eqb (place + run) 0) refl

    for : (q : Bits) (a : Ask) → Possible place a → Leads place (step_for (one s) place p a q)
    for q end f = tt
    for q skip f = f
    for q (value run size) f = valued q run size f (amplitude (one s) size q) refl
    for q wrong f = tt

    go : (o : Read Bits ℕ) → Leads place (onward o (λ x. step_for (one s) place p (ask_at place x)))
    go (fault f) = tt
    go (got x q) = for q (ask_at place x) (ask_possible place x)

pub leads :
    (t s : List ℕ) (base : ℕ) (b : Bits) (place : ℕ) (p : ℤ) {x : Read Bits Step}
    → stepped (one s) (table_at t base) place p b ≡ x
    → Leads place x
leads t s base b place p e = rw e at (step_leads t s base b place p)
