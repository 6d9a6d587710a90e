-- The walk over a table's counts, over any source of bits, in the code's terms: what is read of the code is never below the codes that were
-- passed over, and what is left of the counts, behind the symbols that were passed over, is the whole table.
use Prim.Native.Nat.{ℕ, zero, suc, ◌+◌, ◌-◌, ◌*◌, ◌^◌, ◌<◌, ◌≤◌, min}
use mathlib.Core.Path.{◌≡◌, sym, ◌∙◌, ap}
use mathlib.Core.Bool.{cond}
use mathlib.Core.List.{List, [], ◌∷◌}
use native.Mathlib.Omega.{arith}
use native.Mathlib.Nat.{not-suc-le-zero, zero-add}
use native.Mathlib.Numerals.{sub-one, add-one}
use lib.Dec.{ltb}
use lib.Pow.{pow_pos}
use lib.ListN.{length, get_or, take, drop, length-take, length-drop, drop_of_length-le}
use lib.Seq.{drop-cons, get_or-take, get_or-drop}
use borrow.Author.Tests.{lt-ltb, le-ltb}
use Rattle.reading.specs.declared.Fault.{Fault}
use Rattle.reading.specs.declared.Fault.TheVariants.{NoCode}
use Rattle.reading.specs.Reader.{got, fault, Reader, onward, ◌>>=◌, give}
use Rattle.reading.specs.Huffman.{table_at, sum, code_from, symbol}
use Rattle.reading.proofs.Readings.{onward_onward}
use Rattle.whole.specs.Powers.{grown, small}

-- ---- counts

-- the counts of so many lengths from a place on
abbrev pub counts_at : List ℕ → ℕ → ℕ → List ℕ
counts_at t at more = take more (drop at t)

-- how many symbols a table has
abbrev pub total : List ℕ → ℕ → ℕ
total t base = sum (counts_at t base 16)

counts_cons : (t : List ℕ) (at more : ℕ) → 0 < more → at < length t → counts_at t at more ≡ get_or t at 0 ∷ counts_at t (at + 1) (more - 1)
counts_cons t at zero h i = absurd (not-suc-le-zero h)
counts_cons t at (suc more) h i = rw (drop-cons t at 0 i, add-one, sub-one)

take_min : {A : Type 0} (n : ℕ) (l : List A) → take (min n (length l)) l ≡ take n l
take_min zero l = let z : min 0 (length l) ≡ 0 = omega arith in rw z
take_min (suc n) [] = let z : min (suc n) 0 ≡ 0 = omega arith in rw z
take_min (suc n) (x ∷ l) =
    let z : min (suc n) (suc (length l)) ≡ suc (min n (length l)) = omega arith in
    rw (z, take_min n l)

-- past the end of the bytes there are no counts
counts_all : (t : List ℕ) (base more : ℕ) → more ≡ min 16 (length t - base) → counts_at t base more ≡ counts_at t base 16
counts_all t base more e = rw (e, sym (length-drop base t)) (take_min 16 (drop base t))

-- where the counts that are there end, by how many there are
pub counts_end : (t : List ℕ) (base : ℕ) {n : ℕ} → base < length t → n ≡ min (length t - base) 16 → base + n ≡ min (length t) (base + 16)
counts_end t base h e = omega arith

-- the counts that are there, as the code slices them
module _ (t : List ℕ) (base : ℕ) {end : ℕ} (e : end ≡ min (length t) (base + 16)) where
  pub sliced_length : length (take (end - base) (drop base t)) ≡ min 16 (length t - base)
  sliced_length = omega (arith, length-take (end - base) (drop base t), length-drop base t)

  module _ {i : ℕ} (h : i < length (take (end - base) (drop base t))) where
    pub sliced_left : min 16 (length t - base) - i ≡ 0 → ⊥
    sliced_left = omega (arith, h, sliced_length)

    pub sliced_count : get_or (take (end - base) (drop base t)) i 0 ≡ get_or t (base + i) 0
    sliced_count =
        get_or-take (end - base) (drop base t) i 0 (omega (arith, length-take (end - base) (drop base t))) ∙ get_or-drop base t i 0

-- ---- the walk

module _ {S : Type 0} (next : Reader S ℕ) where
  -- the symbol at place i of a table
  abbrev symbol_of : List ℕ → ℕ → ℕ → Reader S ℕ
  symbol_of t base i = give (get_or (table_at t base).symbols i 0)

  -- the symbol, from a length on: `more` lengths are left, the count of the next one is at `at`; v was read, f follows the last code of
  -- the length before, `index` symbols stand before
  unfoldable pub walked : (t : List ℕ) (base more at v f index : ℕ) → Reader S ℕ
  walked t base more at v f index = code_from next (counts_at t at more) v f index >>= symbol_of t base

  pub symbol_none : (t : List ℕ) (base : ℕ) (b : S) → length t ≤ base → symbol next (table_at t base) b ≡ fault NoCode
  unfolding symbol
  symbol_none t base b h = rw (drop_of_length-le t h)

  -- the code with one bit more, w: it is one of this length, or the next length is tried
  abbrev tried : (t : List ℕ) (more at f index w : ℕ) → Reader S ℕ
  tried t more at f index w =
      cond (ltb w (2 * f + get_or t at 0)) (give (index + (w - 2 * f)))
      (code_from next (counts_at t (at + 1) (more - 1)) w (2 * f + get_or t at 0) (index + get_or t at 0))

  walked_step :
      (t : List ℕ) (base more at v f index : ℕ) (q : S)
      → 0 < more
      → at < length t
      → walked t base more at v f index q ≡ onward (next q) (λ x. tried t more at f index (2 * v + x) >>= symbol_of t base)
  unfolding walked
  walked_step t base more at v f index q h i =
      rw (counts_cons t at more h i) (onward_onward (next q) (λ x. tried t more at f index (2 * v + x)) (symbol_of t base))

-- what holds before each bit: `past` is how far the code so far lies past those of the lengths before
pub record Ahead {S : Type 0} (next : Reader S ℕ) (t : List ℕ) (base : ℕ) (b here : S) (past at place more : ℕ) : Type 0 where
  pub code : ℕ
  pub follows : ℕ
  pub index : ℕ
  pub gap : code ≡ follows + past
  pub stands : place ≡ base + 16 + index
  pub few : more ≤ 16
  pub inside : at + more ≤ length t
  pub below : code < 2 ^ (16 - more)
  pub whole : index + sum (counts_at t at more) ≡ total t base
  pub some : index ≤ 255 * (16 - more)
  pub same : symbol next (table_at t base) b ≡ walked next t base more at code follows index here

pub begun :
    {S : Type 0} (next : Reader S ℕ) (t : List ℕ) (base : ℕ) (b : S) (more : ℕ)
    → base < length t
    → more ≡ min 16 (length t - base)
    → Ahead next t base b b 0 base (base + 16) more
unfolding symbol walked
begun next t base b more h e =
    record {
      code = 0;
      follows = 0;
      index = 0;
      gap = omega arith;
      stands = omega arith;
      few = omega arith;
      inside = omega arith;
      below = pow_pos _;
      whole = zero-add _ ∙ ap sum (counts_all t base more e);
      some = omega arith;
      same = rw (counts_all t base more e);
    }

module _
    {S : Type 0} {next : Reader S ℕ} {t : List ℕ} {base : ℕ} {b here : S} {past at place more : ℕ}
    (a : Ahead next t base b here past at place more) where
  pub no_code : more ≡ 0 → symbol next (table_at t base) b ≡ fault NoCode
  unfolding walked
  no_code e = a.same ∙ rw e

  module _ (h : more ≡ 0 → ⊥) where
    left : 0 < more
    left = omega arith

    pub there : at < length t
    there = omega (arith, left, a.inside)

    pub no_bit : {f : Fault} → next here ≡ fault f → symbol next (table_at t base) b ≡ fault f
    no_bit g = a.same ∙ walked_step next t base more at a.code a.follows a.index here left there ∙ rw g

    counts_left : sum (counts_at t at more) ≡ get_or t at 0 + sum (counts_at t (at + 1) (more - 1))
    counts_left = rw (counts_cons t at more left there)

    module _ {x : ℕ} {after : S} (g : next here ≡ got x after) (one : x < 2) where
      split : 2 * a.code + x ≡ 2 * a.follows + (2 * past + x)
      split = omega (arith, a.gap)

      grows : 2 * a.code + x < 2 ^ (16 - (more - 1))
      grows = grown 16 more left a.few a.below one

      pub code_small : 2 * past + x < 65536
      code_small = omega (arith, split, small 16 (more - 1) {v = 2 * a.code + x} (omega arith) grows)

      after_bit : symbol next (table_at t base) b ≡ onward (tried next t more at a.follows a.index (2 * a.code + x) after) (symbol_of next t base)
      after_bit = a.same ∙ walked_step next t base more at a.code a.follows a.index here left there ∙ rw g

      -- a code of this length
      pub found : 2 * past + x < get_or t at 0 → symbol next (table_at t base) b ≡ got (get_or t (place + (2 * past + x)) 0) after
      found m =
          let i = a.index + (2 * a.code + x - 2 * a.follows) in
          let among : i < total t base = omega (arith, counts_left, a.whole, split, m) in
          let stands : base + 16 + i ≡ place + (2 * past + x) = omega (arith, a.stands, split) in
          after_bit
          ∙ rw (lt-ltb (2 * a.code + x) (2 * a.follows + get_or t at 0) (omega (arith, split, m)))
          (ap (λ y. got y after)
          (get_or-take (total t base) (drop (base + 16) t) i 0 among ∙ get_or-drop (base + 16) t i 0 ∙ ap (λ y. get_or t y 0) stands))

      -- no code of this length
      pub passed :
          get_or t at 0 < 256
          → get_or t at 0 ≤ 2 * past + x
          → Ahead next t base b after (2 * past + x - get_or t at 0) (at + 1) (place + get_or t at 0) (more - 1)
      unfolding walked
      passed byte m =
          record {
            code = 2 * a.code + x;
            follows = 2 * a.follows + get_or t at 0;
            index = a.index + get_or t at 0;
            gap = omega (arith, split, m);
            stands = omega (arith, a.stands);
            few = omega (arith, a.few);
            inside = omega (arith, left, a.inside);
            below = grows;
            whole = omega (arith, counts_left, a.whole);
            some = omega (arith, left, byte, a.few, a.some);
            same = after_bit ∙ rw (le-ltb (2 * a.code + x) (2 * a.follows + get_or t at 0) (omega (arith, split, m)));
          }

      -- the same, for a count and places that equal these
      pub passed_as :
          {count at' more' : ℕ}
          → count ≡ get_or t at 0
          → at' ≡ at + 1
          → more' ≡ more - 1
          → count < 256
          → count ≤ 2 * past + x
          → Ahead next t base b after (2 * past + x - count) at' (place + count) more'
      passed_as c a m byte le = rw (c, a, m) (passed (omega arith) (omega arith))
