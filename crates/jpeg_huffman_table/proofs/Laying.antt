-- The entries of four channels part by part, each for the first levels of a channel or for its later ones: one part more at each turn, and
-- where a part stands in the whole.
use Prim.Native.Nat.{ℕ, zero, suc, ◌+◌, ◌*◌, ◌-◌, ◌%◌, ◌<◌, ◌≤◌}
use mathlib.Core.Path.{◌≡◌, refl, sym, ap, ap₂, ◌∙◌}
use mathlib.Core.Bool.{Bool, true, false}
use mathlib.Core.List.{List, [], ◌++◌, append_assoc, append-nil}
use native.Mathlib.Omega.{arith}
use native.Mathlib.Nat.{not-suc-le-zero, le_of_suc-le-suc, add-zero}
use lib.Dec.{eqb}
use lib.ListN.{length, get_or, take, drop, replicate, length-append}
use lib.Seq.{take_at, drop_at, drop-append-add, paste}
use borrow.Rule.Slice.PartMut.{put_mid}
use Rattle.whole.specs.Lists.{length_from}
use Rattle.reading.specs.Huffman.{Table, table_at}
use Rattle.jpeg_huffman_table.specs.Looks.{entry_at, entries, channel_looks, looks, paired}

entries_length : (first : Bool) (t : Table) → length (entries 9 first t) ≡ 512
unfolding entries
entries_length first t = length_from (entry_at 9 first t) 0 512

module _ (t bases : List ℕ) where
  -- part j: the even ones are for first levels
  unfoldable pub part : ℕ → List ℕ
  part j = entries 9 (eqb (j % 2) 0) (table_at t (get_or bases j 0))

  pub part_length : (j : ℕ) → length (part j) ≡ 512
  unfolding part
  part_length j = entries_length (eqb (j % 2) 0) (table_at t (get_or bases j 0))

  -- n parts from part j on
  unfoldable pub parts : ℕ → ℕ → List ℕ
  parts j zero = []
  parts j (suc n) = part j ++ parts (suc j) n

  parts_length : (j n : ℕ) → length (parts j n) ≡ 512 * n
  unfolding parts
  parts_length j zero = refl
  parts_length j (suc n) = omega (arith, length-append (part j) (parts (suc j) n), part_length j, parts_length (suc j) n)

  -- one part more, behind the others
  parts_more : (j n : ℕ) → parts j (suc n) ≡ parts j n ++ part (j + n)
  unfolding parts
  parts_more j zero = append-nil (part j) ∙ ap part (sym (add-zero j))
  parts_more j (suc n) =
      ap (λ l. part j ++ l) (parts_more (suc j) n)
      ∙ sym (append_assoc (part j) (parts (suc j) n) (part (suc j + n)))
      ∙ ap (λ k. (part j ++ parts (suc j) n) ++ part k) next
    where
      next : suc j + n ≡ j + suc n
      next = omega arith

  -- the part that stands i-th
  pub part_there : (j n i : ℕ) (zs : List ℕ) → i < n → take 512 (drop (512 * i) (parts j n ++ zs)) ≡ part (j + i)
  unfolding parts
  part_there j zero i zs h = absurd (not-suc-le-zero h)
  part_there j (suc n) zero zs h =
      ap (λ l. take 512 l) (append_assoc (part j) (parts (suc j) n) zs)
      ∙ take_at (part j) (parts (suc j) n ++ zs) 512 (part_length j)
      ∙ ap part (sym (add-zero j))
  part_there j (suc n) (suc i) zs h =
      ap₂ (λ k l. take 512 (drop k l)) place (append_assoc (part j) (parts (suc j) n) zs)
      ∙ ap (λ l. take 512 l) (drop-append-add (part j) (parts (suc j) n ++ zs) (512 * i))
      ∙ part_there (suc j) n i zs (le_of_suc-le-suc h)
      ∙ ap part next
    where
      place : 512 * suc i ≡ length (part j) + 512 * i
      place = omega (arith, part_length j)

      next : suc j + i ≡ j + suc i
      next = omega arith

  -- ---- on the way

  abbrev zeros : ℕ → List ℕ
  zeros n = replicate n 0

  zeros_less : (n m : ℕ) → drop n (zeros m) ≡ zeros (m - n)
  zeros_less zero m = ap zeros less
    where
      less : m ≡ m - 0
      less = omega arith
  zeros_less (suc n) zero = ap zeros less
    where
      less : 0 ≡ 0 - suc n
      less = omega arith
  zeros_less (suc n) (suc m) = zeros_less n m ∙ ap zeros less
    where
      less : m - n ≡ suc m - suc n
      less = omega arith

  -- the first j parts are there, and all behind them is 0
  pub record Laid (j : ℕ) (look : List ℕ) : Type 0 where
    pub few : j ≤ 8
    pub is : look ≡ parts 0 j ++ zeros (512 * (8 - j))

  pub laid_none : (look : List ℕ) → look ≡ zeros 4096 → Laid 0 look
  unfolding parts
  laid_none look e = record { few = omega arith; is = e }

  module _ {j : ℕ} {look : List ℕ} (l : Laid j look) (less : j < 8) where
    -- with a part that was put behind the others
    behind : {y : List ℕ} → y ≡ part j → {r : List ℕ} → r ≡ (parts 0 j ++ y) ++ drop 512 (zeros (512 * (8 - j))) → Laid (j + 1) r
    behind {y} e g =
        record {
          few = omega arith;
          is = g ∙ ap₂ (λ p q. p ++ q) front (zeros_less 512 (512 * (8 - j)) ∙ ap zeros left);
        }
      where
        front : parts 0 j ++ y ≡ parts 0 (j + 1)
        front = ap (λ p. parts 0 j ++ p) (e ∙ ap part here) ∙ sym (parts_more 0 j) ∙ ap (parts 0) next
          where
            here : j ≡ 0 + j
            here = omega arith

            next : suc j ≡ j + 1
            next = omega arith

        left : 512 * (8 - j) - 512 ≡ 512 * (8 - (j + 1))
        left = omega arith

    -- a part filled
    pub laid_filled :
        {m : ℕ}
        → m ≡ 512
        → {y : List ℕ}
        → y ≡ entries 9 (eqb (j % 2) 0) (table_at t (get_or bases j 0))
        → {r : List ℕ}
        → r ≡ put_mid (512 * j) m look y
        → Laid (j + 1) r
    unfolding part
    laid_filled {m} d {y} e g =
        behind e
        (g ∙ ap (λ k. take (512 * j) look ++ (y ++ drop k (drop (512 * j) look))) d
        ∙ ap (λ k. take (512 * j) k ++ (y ++ drop 512 (drop (512 * j) k))) l.is
        ∙ ap₂ (λ p q. p ++ (y ++ drop 512 q)) (take_at (parts 0 j) rest (512 * j) (parts_length 0 j)) (drop_at (parts 0 j) rest (512 * j) (parts_length 0 j))
        ∙ sym (append_assoc (parts 0 j) y (drop 512 rest)))
      where
        rest : List ℕ
        rest = zeros (512 * (8 - j))

    -- a part copied from one that is the same
    pub laid_copied :
        {m : ℕ}
        → m ≡ 512
        → (i : ℕ)
        → i < j
        → i % 2 ≡ j % 2
        → get_or bases i 0 ≡ get_or bases j 0
        → {r : List ℕ}
        → r ≡ paste look (512 * j) (drop (512 * i) look) m
        → Laid (j + 1) r
    unfolding part
    laid_copied {m} d i h even same g =
        behind copied
        (g ∙ ap (paste look (512 * j) (drop (512 * i) look)) d ∙ ap₂ (λ p q. (p ++ take 512 (drop (512 * i) look)) ++ q)
        (ap (take (512 * j)) l.is ∙ take_at (parts 0 j) rest (512 * j) (parts_length 0 j))
        (ap₂ drop (ap (λ k. k + 512) (sym (parts_length 0 j))) l.is ∙ drop-append-add (parts 0 j) rest 512))
      where
        rest : List ℕ
        rest = zeros (512 * (8 - j))

        copied : take 512 (drop (512 * i) look) ≡ part j
        copied =
            ap (λ k. take 512 (drop (512 * i) k)) l.is ∙ part_there 0 j i rest h ∙ ap part here
            ∙ ap₂ (λ k p. entries 9 (eqb k 0) (table_at t p)) even same
          where
            here : 0 + i ≡ i
            here = omega arith

-- ---- the whole

module _ (t dcs acs : List ℕ) where
  pub looks_parts : looks t dcs acs ≡ parts t (paired dcs acs) 0 8
  unfolding looks channel_looks parts part
  looks_parts = ap (both 0) (ap (both 1) (ap (both 2) (joined 3 []) ∙ joined 2 _) ∙ joined 1 _) ∙ joined 0 _
    where
      first : ℕ → List ℕ
      first c = entries 9 true (table_at t (get_or dcs c 0))

      later : ℕ → List ℕ
      later c = entries 9 false (table_at t (get_or acs c 0))

      both : ℕ → List ℕ → List ℕ
      both c l = (first c ++ later c) ++ l

      joined : (c : ℕ) (l : List ℕ) → both c l ≡ first c ++ (later c ++ l)
      joined c l = append_assoc (first c) (later c) l

  pub laid_all : {bases look : List ℕ} {j : ℕ} → bases ≡ paired dcs acs → Laid t bases j look → 8 ≤ j → look ≡ looks t dcs acs
  laid_all {bases} {look} {j} e l h =
      l.is ∙ ap₂ (λ b k. parts t b 0 k ++ zeros t b (512 * (8 - k))) e all
      ∙ append-nil (parts t (paired dcs acs) 0 8)
      ∙ sym looks_parts
    where
      all : j ≡ 8
      all = omega (arith, l.few)
