-- A block symbol by symbol: what stands next is a symbol and a field, and then the block from a later place on.
use Prim.Native.Nat.{ℕ, zero, suc, ◌+◌, ◌*◌, ◌-◌, ◌/◌, ◌%◌, ◌<◌, ◌≤◌}
use mathlib.Core.Path.{◌≡◌, refl, sym, ap, ◌∙◌, subst}
use mathlib.Core.Bool.{Bool, true, false, cond, true≢false}
use mathlib.Core.List.{List, [], ◌∷◌}
use mathlib.Core.Option.{none, some}
use native.Mathlib.Omega.{arith}
use native.Mathlib.Numerals.{add-one}
use native.Mathlib.Nat.{not-suc-le-zero, zero-add, add-zero}
use lib.Dec.{eqb, leb}
use lib.IntN.{ℤ, pos, nat_abs, ◌-ℤ◌}
use lib.ListN.{length, get_or, drop, drop_of_length-le, length-drop}
use lib.Seq.{drop-cons, drop-drop, get_or-drop}
use borrow.Author.Tests.{ne_eqb, le-leb, leb-true, leb-false, eqb-true, eqb-false}
use Rattle.reading.specs.Huffman.{bits_of}
use Rattle.reading.specs.Settled.{Written, Coder, ◌then◌, size, field_of, value_bits, skips, level_bits, rest_bits, block_by}
use Rattle.jpeg_write_codes.specs.Words.{coder_of, word_bits, word_code}
use Rattle.jpeg_write_symbols.specs.declared.Turn.{Turn}
use Rattle.jpeg_write_symbols.specs.Turns.{zeros_of, zeros_at, over, value_at, plain_turn, value_turn, turn_at}
use Rattle.jpeg_write_symbols.proofs.Turning.{category_few, turn_end, turn_skip, value_turn_lem, turn_value}
use Rattle.jpeg_write_scan.specs.Steps.{onwards, words_at, word_at}
use Rattle.jpeg_write_scan.proofs.Writing.{then_nil, then_nothing, then_assoc}

-- ---- the words at a place

module _ (dc ac : List ℕ) (k x : ℕ) where
  pub word_first : k ≡ 0 → get_or dc x 0 ≡ word_at dc ac k x
  unfolding words_at
  word_first e = rw e

  pub word_later : (k ≡ 0 → ⊥) → get_or ac x 0 ≡ word_at dc ac k x
  unfolding words_at
  word_later e = go k e
    where
      go : (k : ℕ) → (k ≡ 0 → ⊥) → get_or ac x 0 ≡ get_or (words_at dc ac k) x 0
      go zero e = absurd (e refl)
      go (suc k) e = refl

-- where the block goes on, and how much is left of it
pub record Fits (l : List ℤ) (k run : ℕ) (t : Turn) : Type 0 where
  pub few : t.size ≤ 12
  pub later : 0 < t.place
  pub within : t.place ≤ length l
  pub low : t.run ≤ t.place
  pub less : 2 * (length l - t.place) + t.run < 2 * (length l - k) + run

module _ (n k run : ℕ) where
  over_is : over n k run ≡ true → (n ≤ k) × (run ≡ 0)
  unfolding over
  over_is e = go (leb n k) refl e
    where
      go : (t : Bool) → leb n k ≡ t → cond t (eqb run 0) false ≡ true → (n ≤ k) × (run ≡ 0)
      go true f e = (leb-true n k f, eqb-true run 0 e)
      go false f e = absurd (true≢false (sym e))

  over_not : over n k run ≡ false → n ≤ k → 0 < run
  unfolding over
  over_not e h = let apart : run ≡ 0 → ⊥ = eqb-false run 0 (sym (ap (λ (t : Bool). cond t (eqb run 0) false) (le-leb n k h)) ∙ e) in omega arith

turn_fits : (l : List ℤ) (p : ℤ) (k run : ℕ) → 0 < length l → k ≤ length l → run ≤ k → over (length l) k run ≡ false → Fits l k run (turn_at l p k run)
turn_fits l p k run full h low e = go (leb (length l) k) refl (leb 16 run) refl
  where
    go : (a : Bool) → leb (length l) k ≡ a → (b : Bool) → leb 16 run ≡ b → Fits l k run (turn_at l p k run)
    go true f b g =
        subst (Fits l k run) (turn_end l p k run (leb-true (length l) k f))
        (record { few = omega arith; later = omega (arith, leb-true (length l) k f); within = h; low = omega arith; less = omega (arith, over_not (length l) k run e (leb-true (length l) k f)) })
    go false f true g =
        subst (Fits l k run) (turn_skip l p k run (leb-false (length l) k f) (leb-true 16 run g))
        (record { few = omega arith; later = omega (arith, leb-true 16 run g); within = h; low = omega arith; less = omega (arith, leb-true 16 run g) })
    go false f false g =
        subst (Fits l k run) (turn_value l p k run (leb-false (length l) k f) {d = value_at l p k} (leb-false 16 run g) refl refl refl refl)
        (record {
          few = category_few (nat_abs (value_at l p k));
          later = omega arith;
          within = omega (arith, leb-false (length l) k f);
          low = omega arith;
          less = omega (arith, leb-false (length l) k f);
        })

-- ---- zeros

zeros_of_few : (l : List ℤ) → zeros_of l ≤ length l
unfolding zeros_of
zeros_of_few [] = omega arith
zeros_of_few (v ∷ l) = go (eqb (nat_abs v) 0) (zeros_of_few l)
  where
    go : (t : Bool) → zeros_of l ≤ length l → cond t (suc (zeros_of l)) 0 ≤ suc (length l)
    go true h = omega arith
    go false h = omega arith

zeros_few : (l : List ℤ) (k : ℕ) → zeros_at l k ≤ length l - k
unfolding zeros_at
zeros_few l zero = omega arith
zeros_few l (suc k) = subst (λ n. zeros_of (drop (suc k) l) ≤ n) (length-drop (suc k) l) (zeros_of_few (drop (suc k) l))

-- behind the zeros stands the end, or a level that is not zero
zeros_stop : (l : List ℤ) → zeros_of l < length l → nat_abs (get_or l (zeros_of l) (pos 0)) ≡ 0 → ⊥
unfolding zeros_of
zeros_stop [] h e = not-suc-le-zero h
zeros_stop (v ∷ l) h e = go (eqb (nat_abs v) 0) refl (zeros_stop l) h e
  where
    go : (t : Bool) → eqb (nat_abs v) 0 ≡ t → (zeros_of l < length l → nat_abs (get_or l (zeros_of l) (pos 0)) ≡ 0 → ⊥)
        → cond t (suc (zeros_of l)) 0 < suc (length l) → nat_abs (get_or (v ∷ l) (cond t (suc (zeros_of l)) 0) (pos 0)) ≡ 0 → ⊥
    go true f ih h e = ih (omega arith) e
    go false f ih h e = eqb-false (nat_abs v) 0 f e

-- the level at a place is written: it is the first, or not zero
unfoldable pub Ready : List ℤ → ℕ → Type 0
Ready l k = 0 < k → k < length l → nat_abs (get_or l k (pos 0)) ≡ 0 → ⊥

zeros_ready : (l : List ℤ) (k : ℕ) → Ready l (k + zeros_at l k)
unfolding Ready zeros_at
zeros_ready l zero h i e = not-suc-le-zero h
zeros_ready l (suc k) h i e =
    zeros_stop (drop (suc k) l) (subst (λ n. zeros_of (drop (suc k) l) < n) (sym (length-drop (suc k) l)) (omega arith))
    (ap nat_abs (get_or-drop (suc k) l (zeros_of (drop (suc k) l)) (pos 0)) ∙ e)

-- ---- the block from a place on

-- the zeros before a level wait for it
rest_zeros : (c : Coder) (l : List ℤ) (run : ℕ) → rest_bits c l run ≡ rest_bits c (drop (zeros_of l) l) (run + zeros_of l)
unfolding zeros_of
rest_zeros c [] run = ap (rest_bits c []) (sym (add-zero run))
rest_zeros c (v ∷ l) run = go (eqb (nat_abs v) 0) refl (rest_zeros c l (suc run))
  where
    more : (r n : ℕ) → suc r + n ≡ r + suc n
    more r n = omega arith

    go : (t : Bool) → eqb (nat_abs v) 0 ≡ t → rest_bits c l (suc run) ≡ rest_bits c (drop (zeros_of l) l) (suc run + zeros_of l)
        → level_bits c run v (rest_bits c l) (eqb (nat_abs v) 0) ≡ rest_bits c (drop (cond t (suc (zeros_of l)) 0) (v ∷ l)) (run + cond t (suc (zeros_of l)) 0)
    go true e ih = ap (level_bits c run v (rest_bits c l)) e ∙ ih ∙ ap (rest_bits c (drop (zeros_of l) l)) (more run (zeros_of l))
    go false e ih = ap (rest_bits c (v ∷ l)) (sym (add-zero run))

module _ (dc ac : List ℕ) (p : ℤ) (l : List ℤ) where
  pub onwards_block : (run : ℕ) → onwards dc ac p l 0 run ≡ block_by (coder_of dc) (coder_of ac) p l
  unfolding onwards
  onwards_block run = refl

  rest_of : (k run : ℕ) → 0 < k → onwards dc ac p l k run ≡ rest_bits (coder_of ac) (drop k l) run
  unfolding onwards
  rest_of zero run h = absurd (not-suc-le-zero h)
  rest_of (suc k) run h = refl

  onwards_zeros : (k run : ℕ) → onwards dc ac p l k run ≡ onwards dc ac p l (k + zeros_at l k) (run + zeros_at l k)
  unfolding onwards zeros_at
  onwards_zeros zero run = refl
  onwards_zeros (suc k) run =
      rest_zeros (coder_of ac) (drop (suc k) l) run
      ∙ ap (λ m. rest_bits (coder_of ac) m (run + zeros_of (drop (suc k) l))) (drop-drop (zeros_of (drop (suc k) l)) (suc k) l)
      ∙ sym (rest_of (suc k + zeros_of (drop (suc k) l)) (run + zeros_of (drop (suc k) l)) (omega arith))

  -- at the end of the levels
  pub onwards_over : (k run : ℕ) → 0 < length l → over (length l) k run ≡ true → onwards dc ac p l k run ≡ some []
  onwards_over k run full e =
      let o = over_is (length l) k run e in
      rest_of k run (omega (arith, o.0))
      ∙ ap (λ m. rest_bits (coder_of ac) m run) (drop_of_length-le l o.0)
      ∙ ap (rest_bits (coder_of ac) []) o.1

-- a symbol with no field
plain_code : (ws : List ℕ) (x : ℕ) (r : Written) → coder_of ws x then r ≡ word_code (get_or ws x 0) 0 0 then r
unfolding coder_of word_code
plain_code ws x r = ap (λ (a : Written). a then r) (sym (then_nothing (word_bits (get_or ws x 0))))

-- a symbol with the field of a value
value_code : (ws : List ℕ) (x : ℕ) (d : ℤ) (r : Written) → coder_of ws x then some (value_bits d) then r ≡ word_code (get_or ws x 0) (field_of (size d) d) (size d) then r
unfolding coder_of word_code
value_code ws x d r = sym (then_assoc (word_bits (get_or ws x 0)) (some (bits_of (size d) (field_of (size d) d))) r)

module _ (c : Coder) (v : ℤ) (r : Written) where
  -- a level behind fewer than sixteen zeros
  unfoldable near : ℕ → Written
  near j = c (16 * j + size v) then some (value_bits v) then r

  -- a level behind any number of zeros
  unfoldable far : ℕ → Written
  far run = skips c (run / 16) then near (run % 16)

  far_more : (run : ℕ) → 16 ≤ run → far run ≡ c 240 then far (run - 16)
  unfolding far
  far_more run h = ap (λ n. skips c n then near (run % 16)) down ∙ ap (λ n. skips c (suc ((run - 16) / 16)) then near n) rest ∙ then_assoc (c 240) (skips c ((run - 16) / 16)) (near ((run - 16) % 16))
    where
      down : run / 16 ≡ suc ((run - 16) / 16)
      down = omega arith

      rest : run % 16 ≡ (run - 16) % 16
      rest = omega arith

  far_near : (run : ℕ) → run < 16 → far run ≡ near run
  unfolding far
  far_near run h = ap (λ n. skips c n then near (run % 16)) none ∙ ap (λ n. some [] then near n) all ∙ then_nil (near run)
    where
      none : run / 16 ≡ 0
      none = omega arith

      all : run % 16 ≡ run
      all = omega arith

module _ (dc ac : List ℕ) (p : ℤ) (l : List ℤ) (k run : ℕ) where
  -- what stands next, by a turn
  unfoldable Stands : Turn → Type 0
  Stands t = onwards dc ac p l k run ≡ word_code (word_at dc ac k t.symbol) t.field t.size then onwards dc ac p l t.place t.run

  at_end : 0 < k → 0 < run → length l ≤ k → Stands (plain_turn 0 k 0)
  unfolding Stands
  at_end a b h =
      rest_of dc ac p l k run a ∙ ap (λ m. rest_bits (coder_of ac) m run) past ∙ go run b
      ∙ plain_code ac 0 (some [])
      ∙ ap (λ w. word_code w 0 0 then some []) (word_later dc ac k 0 (λ e. apart e))
      ∙ ap (λ (r : Written). word_code (word_at dc ac k 0) 0 0 then r) (sym (rest_of dc ac p l k 0 a ∙ ap (λ m. rest_bits (coder_of ac) m 0) past))
    where
      past : drop k l ≡ []
      past = drop_of_length-le l h

      apart : k ≡ 0 → ⊥
      apart e = omega arith

      go : (run : ℕ) → 0 < run → rest_bits (coder_of ac) [] run ≡ coder_of ac 0 then some []
      go zero h = absurd (not-suc-le-zero h)
      go (suc run) h = sym (then_nothing (coder_of ac 0))

  module _ (a : 0 < k) (h : k < length l) (n : nat_abs (get_or l k (pos 0)) ≡ 0 → ⊥) where
    apart : k ≡ 0 → ⊥
    apart e = omega arith

    level_far : (run : ℕ) → onwards dc ac p l k run ≡ far (coder_of ac) (get_or l k (pos 0)) (rest_bits (coder_of ac) (drop (suc k) l) 0) run
    unfolding far near
    level_far run =
        rest_of dc ac p l k run a ∙ ap (λ m. rest_bits (coder_of ac) m run) (drop-cons l k (pos 0) h)
        ∙ ap (level_bits (coder_of ac) run (get_or l k (pos 0)) (rest_bits (coder_of ac) (drop (suc k) l))) (ne_eqb (nat_abs (get_or l k (pos 0))) 0 n)

    at_skip : 16 ≤ run → Stands (plain_turn 240 k (run - 16))
    unfolding Stands
    at_skip g =
        level_far run ∙ far_more (coder_of ac) (get_or l k (pos 0)) (rest_bits (coder_of ac) (drop (suc k) l) 0) run g
        ∙ ap (λ (r : Written). coder_of ac 240 then r) (sym (level_far (run - 16)))
        ∙ plain_code ac 240 (onwards dc ac p l k (run - 16))
        ∙ ap (λ w. word_code w 0 0 then onwards dc ac p l k (run - 16)) (word_later dc ac k 240 apart)

    at_level : run < 16 → Stands (value_turn run (get_or l k (pos 0)) k)
    unfolding Stands value_turn near
    at_level g =
        level_far run ∙ far_near (coder_of ac) (get_or l k (pos 0)) (rest_bits (coder_of ac) (drop (suc k) l) 0) run g
        ∙ value_code ac (16 * run + size (get_or l k (pos 0))) (get_or l k (pos 0)) (rest_bits (coder_of ac) (drop (suc k) l) 0)
        ∙ ap (λ w. word_code w (field_of (size (get_or l k (pos 0))) (get_or l k (pos 0))) (size (get_or l k (pos 0))) then rest_bits (coder_of ac) (drop (suc k) l) 0)
        (word_later dc ac k (16 * run + size (get_or l k (pos 0))) apart)
        ∙ ap (λ (r : Written). word_code (word_at dc ac k (16 * run + size (get_or l k (pos 0)))) (field_of (size (get_or l k (pos 0))) (get_or l k (pos 0))) (size (get_or l k (pos 0))) then r)
        (sym next)
      where
        next : onwards dc ac p l (k + 1) 0 ≡ rest_bits (coder_of ac) (drop (suc k) l) 0
        next = rest_of dc ac p l (k + 1) 0 (omega arith) ∙ ap (λ n. rest_bits (coder_of ac) (drop n l) 0) (add-one k)

at_first : (dc ac : List ℕ) (p : ℤ) (l : List ℤ) → 0 < length l → Stands dc ac p l 0 0 (value_turn 0 (value_at l p 0) 0)
unfolding Stands value_turn value_at onwards words_at
at_first dc ac p [] h = absurd (not-suc-le-zero h)
at_first dc ac p (v ∷ l) h =
    then_assoc (coder_of dc (size (v -ℤ p))) (some (value_bits (v -ℤ p))) (rest_bits (coder_of ac) l 0)
    ∙ value_code dc (size (v -ℤ p)) (v -ℤ p) (rest_bits (coder_of ac) l 0)
    ∙ ap (λ x. word_code (get_or dc x 0) (field_of (size (v -ℤ p)) (v -ℤ p)) (size (v -ℤ p)) then rest_bits (coder_of ac) l 0) (sym (zero-add (size (v -ℤ p))))

stands : (dc ac : List ℕ) (p : ℤ) (l : List ℤ) (k run : ℕ) → 0 < length l → run ≤ k → Ready l k → over (length l) k run ≡ false → Stands dc ac p l k run (turn_at l p k run)
unfolding Ready value_at
stands dc ac p l zero zero full low ready e = subst (Stands dc ac p l 0 0) (value_turn_lem l p 0 0 full (omega arith)) (at_first dc ac p l full)
stands dc ac p l zero (suc run) full low ready e = absurd (not-suc-le-zero low)
stands dc ac p l (suc k) run full low ready e = go (leb (length l) (suc k)) refl (leb 16 run) refl
  where
    go : (a : Bool) → leb (length l) (suc k) ≡ a → (b : Bool) → leb 16 run ≡ b → Stands dc ac p l (suc k) run (turn_at l p (suc k) run)
    go true f b g =
        let past = leb-true (length l) (suc k) f in
        subst (Stands dc ac p l (suc k) run) (turn_end l p (suc k) run past)
        (at_end dc ac p l (suc k) run (omega arith) (over_not (length l) (suc k) run e past) past)
    go false f true g =
        let h = leb-false (length l) (suc k) f in
        subst (Stands dc ac p l (suc k) run) (turn_skip l p (suc k) run h (leb-true 16 run g))
        (at_skip dc ac p l (suc k) run (omega arith) h (ready (omega arith) h) (leb-true 16 run g))
    go false f false g =
        let h = leb-false (length l) (suc k) f in
        subst (Stands dc ac p l (suc k) run) (value_turn_lem l p (suc k) run h (leb-false 16 run g))
        (at_level dc ac p l (suc k) run (omega arith) h (ready (omega arith) h) (leb-false 16 run g))

-- ---- in the code's terms

-- the place and the run behind z zeros
pub record Behind (dc ac : List ℕ) (p : ℤ) (l : List ℤ) (k run z : ℕ) : Type 0 where
  pub within : k + z ≤ length l
  pub low : run + z ≤ k + z
  pub less : 2 * (length l - (k + z)) + (run + z) ≤ 2 * (length l - k) + run
  pub ready : Ready l (k + z)
  pub same : onwards dc ac p l k run ≡ onwards dc ac p l (k + z) (run + z)

pub zeros_behind : (dc ac : List ℕ) (p : ℤ) (l : List ℤ) (k run : ℕ) {z : ℕ} → k ≤ length l → run ≤ k → z ≡ zeros_at l k → Behind dc ac p l k run z
zeros_behind dc ac p l k run {z} h low e =
    subst (Behind dc ac p l k run) (sym e)
    (record {
      within = omega (arith, zeros_few l k);
      low = omega arith;
      less = omega (arith, zeros_few l k);
      ready = zeros_ready l k;
      same = onwards_zeros dc ac p l k run;
    })

module _ (p : ℤ) (l : List ℤ) (k run : ℕ) {t : Turn} {b : Bool} (full : 0 < length l) (low : run ≤ k) (o : b ≡ over (length l) k run) (e : b ≡ false) (f : t ≡ turn_at l p k run) where
  pub turn_within : k ≤ length l → Fits l k run t
  turn_within h = subst (Fits l k run) (sym f) (turn_fits l p k run full h low (sym o ∙ e))

  -- a turn writes a word's code and a field, and the block goes on where it says
  pub onwards_turn : (dc ac : List ℕ) {w : ℕ} → Ready l k → w ≡ word_at dc ac k t.symbol → onwards dc ac p l k run ≡ word_code w t.field t.size then onwards dc ac p l t.place t.run
  unfolding Stands
  onwards_turn dc ac {w} ready g =
      subst (Stands dc ac p l k run) (sym f) (stands dc ac p l k run full low ready (sym o ∙ e))
      ∙ ap (λ w. word_code w t.field t.size then onwards dc ac p l t.place t.run) (sym g)

-- no level at all
pub block_empty : (dc ac : List ℕ) (p : ℤ) (l : List ℤ) → length l ≡ 0 → block_by (coder_of dc) (coder_of ac) p l ≡ none
block_empty dc ac p [] h = refl
block_empty dc ac p (v ∷ l) h = let z : ⊥ = omega arith in absurd z

-- one turn of the loop, behind the zeros at its place: where the block goes on, and what it writes before that
pub record Goes (dc ac : List ℕ) (p : ℤ) (l : List ℤ) (k run : ℕ) (t : Turn) (w : ℕ) : Type 0 where
  pub few : t.size ≤ 12
  pub within : t.place ≤ length l
  pub low : t.run ≤ t.place
  pub less : 2 * (length l - t.place) + t.run < 2 * (length l - k) + run
  pub same : onwards dc ac p l k run ≡ word_code w t.field t.size then onwards dc ac p l t.place t.run

module _ (dc ac : List ℕ) (p : ℤ) (l : List ℤ) (k run : ℕ) {z : ℕ} (full : 0 < length l) (h : k ≤ length l) (low : run ≤ k) (e : z ≡ zeros_at l k) where
  behind : Behind dc ac p l k run z
  behind = zeros_behind dc ac p l k run h low e

  pub goes : {t : Turn} {w : ℕ} → false ≡ over (length l) (k + z) (run + z) → t ≡ turn_at l p (k + z) (run + z) → w ≡ word_at dc ac (k + z) t.symbol → Goes dc ac p l k run t w
  goes f g i =
      let fits = turn_within p l (k + z) (run + z) full behind.low f refl g behind.within in
      record {
        few = fits.few;
        within = fits.within;
        low = fits.low;
        less = omega (arith, fits.less, behind.less);
        same = behind.same ∙ onwards_turn p l (k + z) (run + z) full behind.low f refl g dc ac behind.ready i;
      }

  pub ends : true ≡ over (length l) (k + z) (run + z) → onwards dc ac p l k run ≡ some []
  ends f = behind.same ∙ onwards_over dc ac p l (k + z) (run + z) full (sym f)
