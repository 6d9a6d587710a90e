-- One step of a block, at a bit place and at a cursor that meet: by a look.
use Prim.Native.Nat.{ℕ, ◌+◌, ◌*◌, ◌-◌, ◌/◌, ◌%◌, ◌^◌, ◌<◌, ◌≤◌}
use mathlib.Core.Path.{◌≡◌, refl, sym, ◌∙◌, ap, subst, subst⁻¹}
use mathlib.Core.Bool.{Bool, true, false, cond}
use mathlib.Core.List.{List}
use native.Mathlib.Omega.{arith}
use native.Mathlib.Nat.{mod-lt, mod-eq_of_lt}
use lib.Dec.{leb, ltb, eqb, lit≤}
use lib.IntN.{ℤ}
use lib.Pow.{pow_pos, shr_lt}
use borrow.Author.Tests.{leb-true, eqb-true, ltb-true, eq-eqb, ne_eqb, lt-ltb}
use Rattle.reading.specs.declared.Bits.{Bits}
use Rattle.std.specs.Prelude.{Result, Ok}
use Rattle.reading.specs.declared.Fault.{Fault}
use Rattle.reading.specs.Bits.{one, meaning}
use Rattle.reading.specs.Huffman.{table_at, symbol}
use Rattle.reading.specs.Block.{end, value, ac_taken, dc_taken}
use Rattle.reading.specs.Tests.{◌and◌, ◌or◌}
use Rattle.jpeg_block.specs.declared.Asked.TheVariants as asked
use Rattle.jpeg_block.specs.declared.Step as code
use Rattle.jpeg_block.specs.Step.{asked_for, step_read, ask_at, ends, puts, level_at, stepped}
use Rattle.jpeg_block.proofs.Steps.{ask_inside, level_later, step_end, step_value}
use Rattle.jpeg_bits_wide.specs.declared.Wide.{Wide}
use Rattle.jpeg_bits_wide.specs.Cursor.{Meets, taken, meant_by}
use Rattle.jpeg_bits_wide.proofs.Coming.{acc_fits}
use Rattle.jpeg_bits_wide.proofs.Meeting.{Found}
use Rattle.jpeg_huffman_table.specs.Looks.{allowed, entry_at, looked, field_at}
use Rattle.jpeg_huffman_table.proofs.Entries.{field_is}
use Rattle.jpeg_huffman_table.proofs.Looking.{Entry, entry_says}
use Rattle.jpeg_huffman_table.proofs.Meeting.{symbol_allowed, symbol_looked, value_looked}
use Rattle.jpeg_block_wide.specs.Blocks.{part_of, serving, ending, Reads, Agree, FirstMeets}
use Rattle.jpeg_block_wide.proofs.Values.{means}
use Rattle.jpeg_block_wide.proofs.Stepping.{cursor_at, read_at, agree_from, same_level, value_agrees}

-- ---- where a channel's entries stand

-- no channel behind the last has entries
pub part_looks : (look : List ℕ) (c d acc : ℕ) → looked 9 look (part_of c + d) acc ≡ looked 9 look (1024 * c + d) acc
unfolding looked
part_looks look c d acc = go (ltb 3 c) refl
  where
    go : (t : Bool) → ltb 3 c ≡ t → looked 9 look (cond t 4096 (1024 * c) + d) acc ≡ looked 9 look (1024 * c + d) acc
    go true e = rw (lt-ltb 3584 (4096 + d) (omega arith), lt-ltb 3584 (1024 * c + d) (omega (arith, ltb-true 3 c e)))
    go false e = refl

-- ---- the code's tests

pub record Serves (total left size k : ℕ) : Type 0 where
  pub some : 0 < total
  pub there : total ≤ left
  pub sized : 0 < size
  pub inside : k < 64

pub serves_says : (total left size k : ℕ) → serving total left size k ≡ true → Serves total left size k
serves_says total left size k e = go (ltb 0 total) refl (ltb 0 size) refl (leb total left) refl (ltb k 64) refl e
  where
    never : false ≡ true → Serves total left size k
    never f = let none : ◌≡◌ {A = ℕ} 0 1 = cc in absurd (let z : ⊥ = omega arith in z)

    go :
        (a : Bool) → ltb 0 total ≡ a
        → (b : Bool) → ltb 0 size ≡ b
        → (c : Bool) → leb total left ≡ c
        → (d : Bool) → ltb k 64 ≡ d
        → (a and b and c and d) ≡ true
        → Serves total left size k
    go true p true q true r true s f = record { some = ltb-true 0 total p; there = leb-true total left r; sized = ltb-true 0 size q; inside = ltb-true k 64 s }
    go true p true q true r false s f = never f
    go true p true q false r d s f = never f
    go true p false q c r d s f = never f
    go false p b q c r d s f = never f

pub record Ends (total left x : ℕ) : Type 0 where
  pub some : 0 < total
  pub there : total ≤ left
  pub none : x ≡ 0

pub ends_says : (total left x : ℕ) → ending total left x ≡ true → Ends total left x
ends_says total left x e = go (ltb 0 total) refl (leb total left) refl (eqb x 0) refl e
  where
    never : false ≡ true → Ends total left x
    never f = let none : ◌≡◌ {A = ℕ} 0 1 = cc in absurd (let z : ⊥ = omega arith in z)

    go :
        (a : Bool) → ltb 0 total ≡ a
        → (b : Bool) → leb total left ≡ b
        → (c : Bool) → eqb x 0 ≡ c
        → (a and b and c) ≡ true
        → Ends total left x
    go true p true q true r f = record { some = ltb-true 0 total p; there = leb-true total left q; none = eqb-true x 0 r }
    go true p true q false r f = never f
    go true p false q c r f = never f
    go false p b q c r f = never f

-- ---- what a symbol that has an entry asks for

ask_end : (place x : ℕ) → (place ≡ 0 → ⊥) → x ≡ 0 → ask_at place x ≡ end
unfolding ask_at
ask_end place x later none = simp (ne_eqb place 0 later, eq-eqb x 0 none)

ask_category : (x : ℕ) → dc_taken x ≡ true → ask_at 0 x ≡ value 0 x
unfolding ask_at
ask_category x e = simp e

taken_few : (x : ℕ) → ac_taken x ≡ true → 0 < x % 16 → x % 16 ≤ 10
taken_few x e h = go (eqb x 0) refl (eqb x 240) refl (leb 1 (x % 16)) (leb (x % 16) 10) refl e
  where
    none : x ≡ 0 → x % 16 ≤ 10
    none z = omega arith

    full : x ≡ 240 → x % 16 ≤ 10
    full z = omega arith

    go :
        (a : Bool) → eqb x 0 ≡ a
        → (b : Bool) → eqb x 240 ≡ b
        → (c d : Bool) → leb (x % 16) 10 ≡ d
        → (a or b or (c and d)) ≡ true
        → x % 16 ≤ 10
    go true p b q c d r f = none (eqb-true x 0 p)
    go false p true q c d r f = full (eqb-true x 240 q)
    go false p false q c true r f = leb-true (x % 16) 10 r
    go false p false q true false r f = let never : ◌≡◌ {A = ℕ} 0 1 = cc in omega arith
    go false p false q false false r f = let never : ◌≡◌ {A = ℕ} 0 1 = cc in omega arith

-- ---- the symbol that a look finds, all of whose bits are there

module _
    {s : List ℕ} {b : Bits} {w : Wide} (m : Meets s b w) (first : Bool) (t : List ℕ) (base : ℕ)
    {e : ℕ} (is : e ≡ entry_at 9 first (table_at t base) (w.acc / 2 ^ 55)) (some : 0 < e / 256) (there : e / 256 ≤ w.left) where
  not_none : e ≡ 0 → ⊥
  not_none z = omega arith

  -- a code has at most 9 bits, and a value 15
  said : Entry 9 first (table_at t base) (w.acc / 2 ^ 55) (entry_at 9 first (table_at t base) (w.acc / 2 ^ 55))
  said = entry_says 9 (lit≤ tt) (w.acc / 2 ^ 55) (shr_lt 9 55 (acc_fits m.proper)) first (table_at t base) (λ z. not_none (is ∙ z))

  short : e / 256 < 64
  short = subst⁻¹ (λ n. n / 256 < 64) is (omega (arith, said.whole))

  -- what the code makes of the entry
  pub looked_value :
      meant_by (e % 16 % 16) (field_at w.acc (e / 256) (e % 16))
      ≡ meaning (e % 16) (w.acc / 2 ^ (64 - e / 256) % 2 ^ (e % 16))
  looked_value =
      ap (meant_by (e % 16 % 16)) (field_is w.acc (e / 256) (e % 16) some short (omega arith))
      ∙ means (e % 16) (w.acc / 2 ^ (64 - e / 256) % 2 ^ (e % 16)) (mod-lt (w.acc / 2 ^ (64 - e / 256)) (pow_pos (e % 16))) (omega arith)

  pub looked_cursor : cursor_at w.at (w.acc * 2 ^ (e / 256 % 64) % 2 ^ 64) (w.left - e / 256) ≡ taken (e / 256) w
  looked_cursor = ap (λ n. cursor_at w.at (w.acc * 2 ^ n % 2 ^ 64) (w.left - e / 256)) (mod-eq_of_lt short)

  -- the symbol, which may stand
  symbol_there : Found (Meets s) (symbol (one s) (table_at t base) b) (e % 256) (taken (e / 256 - e % 16) w)
  symbol_there = symbol_looked m 9 (lit≤ tt) first (table_at t base) is not_none there

  may_stand : allowed first (e % 256) ≡ true
  may_stand = symbol_allowed m 9 (lit≤ tt) first (table_at t base) is not_none there

  -- and its value
  looked_level :
      (place run : ℕ) (p : ℤ)
      → ask_at place (e % 256) ≡ value run (e % 16)
      → Agree s (stepped (one s) (table_at t base) place p b)
      (level_at (place + run) p (meaning (e % 16) (w.acc / 2 ^ (64 - e / 256) % 2 ^ (e % 16))) (taken (e / 256) w))
  looked_level place run p a =
      let q = symbol_there in
      let v = value_looked m 9 (lit≤ tt) first (table_at t base) is not_none there q.related in
      agree_from s (level_at (place + run) p (meaning (e % 16) (w.acc / 2 ^ (64 - e / 256) % 2 ^ (e % 16))) (taken (e / 256) w))
      (step_value t s base b place p {r = Ok (e % 256, q.place)} (sym q.is) refl {w = Ok (asked.Value run (e % 16))} (sym (ap asked_for a)) refl)
      (value_agrees (place + run) (e % 16) p q.place v.is v.related)

  -- the end code
  looked_end : (place : ℕ) (p : ℤ) → ask_at place (e % 256) ≡ end → e % 16 ≡ 0 → Reads s (stepped (one s) (table_at t base) place p b) ends (taken (e / 256) w)
  looked_end place p a none =
      let q = symbol_there in
      read_at (step_end t s base b place p {r = Ok (e % 256, q.place)} (sym q.is) refl {w = Ok asked.End} (sym (ap asked_for a)) refl)
      (subst (λ n. Meets s q.place (taken n w)) all q.related)
    where
      all : e / 256 - e % 16 ≡ e / 256
      all = omega arith

-- ---- at the first place and at a later one

module _ {s : List ℕ} {b : Bits} {w : Wide} (m : Meets s b w) (t : List ℕ) (base : ℕ) {e : ℕ} where
  first_looked :
      (p : ℤ)
      → e ≡ entry_at 9 true (table_at t base) (w.acc / 2 ^ 55)
      → 0 < e / 256
      → e / 256 ≤ w.left
      → Agree s (stepped (one s) (table_at t base) 0 p b)
      (level_at 0 p (meaning (e % 16) (w.acc / 2 ^ (64 - e / 256) % 2 ^ (e % 16))) (taken (e / 256) w))
  unfolding allowed
  first_looked p is some there =
      let taken : dc_taken (e % 256) ≡ true = may_stand m true t base is some there in
      let few : e % 256 ≤ 11 = leb-true (e % 256) 11 taken in
      let same : e % 256 ≡ e % 16 = omega arith in
      looked_level m true t base is some there 0 0 p (ask_category (e % 256) taken ∙ ap (value 0) same)

  module _ (is : e ≡ entry_at 9 false (table_at t base) (w.acc / 2 ^ 55)) (some : 0 < e / 256) (there : e / 256 ≤ w.left) (place : ℕ) (p : ℤ) (later : 0 < place) where
    not_first : place ≡ 0 → ⊥
    not_first z = omega arith

    pub later_looked :
        0 < e % 16
        → place + e % 256 / 16 < 64
        → Reads s (stepped (one s) (table_at t base) place p b)
        (puts (place + e % 256 / 16) (meaning (e % 16) (w.acc / 2 ^ (64 - e / 256) % 2 ^ (e % 16))))
        (taken (e / 256) w)
    unfolding allowed
    later_looked sized inside =
        subst (Agree s (stepped (one s) (table_at t base) place p b)) (level_later (place + run) p v (taken (e / 256) w) far)
        (looked_level m false t base is some there place run p (ask_inside place x not_first nonzero other (omega arith) few inside ∙ ap (value run) same))
      where
        x : ℕ
        x = e % 256

        run : ℕ
        run = e % 256 / 16

        v : ℤ
        v = meaning (e % 16) (w.acc / 2 ^ (64 - e / 256) % 2 ^ (e % 16))

        same : e % 256 % 16 ≡ e % 16
        same = omega arith

        few : e % 256 % 16 ≤ 10
        few = taken_few (e % 256) (may_stand m false t base is some there) (omega arith)

        nonzero : e % 256 ≡ 0 → ⊥
        nonzero z = omega arith

        other : e % 256 ≡ 240 → ⊥
        other z = omega arith

        far : place + e % 256 / 16 ≡ 0 → ⊥
        far z = omega arith

    pub later_end : e % 256 ≡ 0 → Reads s (stepped (one s) (table_at t base) place p b) ends (taken (e / 256) w)
    later_end none = looked_end m false t base is some there place p (ask_end place (e % 256) not_first none) (omega arith)

-- what the code makes of the first symbol, at a cursor that the same bit places meet
pub first_level :
    (t : List ℕ) (dc : ℕ) {s : List ℕ} (look : List ℕ) (from : ℕ) (p : ℤ) (r : Result (code.Step Wide) Fault) {w q : Wide}
    → ((b : Bits) → Meets s b w → Meets s b q)
    → {e : ℕ}
    → e ≡ looked 9 look from q.acc
    → 0 < e / 256
    → e / 256 ≤ q.left
    → step_read r ≡ level_at 0 p (meant_by (e % 16 % 16) (field_at q.acc (e / 256) (e % 16))) (cursor_at q.at (q.acc * 2 ^ (e / 256 % 64) % 2 ^ 64) (q.left - e / 256))
    → FirstMeets t dc look from s w p r
first_level t dc {s} look from p r {w} {q} moved {e} found some there made looks b m =
    subst (Agree s (stepped (one s) (table_at t dc) 0 p b))
    (sym (same_level 0 r {p = p} made refl (looked_value n true t dc entry some there) (looked_cursor n true t dc entry some there)))
    (first_looked n t dc p entry some there)
  where
    n : Meets s b q
    n = moved b m

    entry : e ≡ entry_at 9 true (table_at t dc) (q.acc / 2 ^ 55)
    entry = found ∙ looks q.acc (acc_fits n.proper)
