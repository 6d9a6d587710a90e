-- Four data bytes as one number, and that they are four bytes more.
use Rattle.std.proofs.Common.{◌≡◌, ℕ, ◌+◌, ◌-◌, ◌*◌, ◌%◌, ◌^◌, ◌<◌, ◌≤◌, Bool, true, false, cond, ◌||◌, ◌==◌, List, [], ◌∷◌, length}
use Rattle.std.proofs.Common.{get_or, take, drop, Some, None, w32, sym, refl, ap, ◌∙◌, ap₂, add_assoc, mul_assoc, add-mul, arith}
use Rattle.std.proofs.Common.{pow-add, shl_exact, ltb-false, le-ltb, lt-ltb, le-leb, drop-cons, slice_range, add-one}
use Rattle.std.proofs.lemmas.List.{take_rest}
use Rattle.std.specs.Prelude as Std
use Rattle.std.specs.List.{list_any}
use Rattle.std.specs.Int.{from_be_bytes}
use Rattle.std.proofs.lemmas.Option.{same_Some}
use native.Mathlib.Nat.{mod-add-mod}
use borrow.Author.Tests.{lt-leb, eqb-false}
use Rattle.jpeg_bits_wide.specs.declared.Wide.{Wide}
use Rattle.jpeg_bits_wide.specs.Cursor.{joined, byte_more, bytes_more, filled, word_at, topped}
use Rattle.jpeg_bits_wide.proofs.Filling.{more_data, cursor}

-- ---- the number

-- one of four tests holds, or none: the chain of the tests goes the same way
chained : {A : Type 0} (u p q r t : Bool) (n x : A) → u ≡ p || (q || (r || (t || false)))
    → cond u n x ≡ cond p n (cond q n (cond r n (cond t n x)))
chained u true q r t n x h = rw h refl
chained u false true r t n x h = rw h refl
chained u false false true t n x h = rw h refl
chained u false false false true n x h = rw h refl
chained u false false false false n x h = rw h refl

one_of : (s : List ℕ) (i j : ℕ) → j ≡ i + 1 → i < length s → drop i s ≡ get_or s i 0 ∷ drop j s
one_of s i j e h = drop-cons s i 0 h ∙ ap (λ k. get_or s i 0 ∷ drop k s) (sym (e ∙ add-one i))

module _ (s : List ℕ) (at : ℕ) where
  pub word_short : length s < at + 4 → None ≡ word_at s at
  unfolding word_at
  word_short h = rw (lt-ltb _ _ h)

  module _ (room : at + 4 ≤ length s) where
    four_of : take 4 (drop at s) ≡ get_or s at 0 ∷ get_or s (at + 1) 0 ∷ get_or s (at + 2) 0 ∷ get_or s (at + 3) 0 ∷ []
    four_of =
        rw (
          one_of s at (at + 1) refl (omega arith),
          one_of s (at + 1) (at + 2) (omega arith) (omega arith),
          one_of s (at + 2) (at + 3) (omega arith) (omega arith),
          one_of s (at + 3) (at + 4) (omega arith) (omega arith),
        )

    module _ {rest bytes : List ℕ} (from : rest ≡ slice_range s at (length s)) (is : bytes ≡ take 4 rest) where
      bytes_are : bytes ≡ get_or s at 0 ∷ get_or s (at + 1) 0 ∷ get_or s (at + 2) 0 ∷ get_or s (at + 3) 0 ∷ []
      bytes_are = is ∙ ap (take 4) (from ∙ take_rest s at) ∙ four_of

      pub word_marked : true ≡ list_any (λ x. x == 255) bytes → None ≡ word_at s at
      unfolding word_at
      word_marked h =
          rw (le-ltb _ _ room)
          (chained true (get_or s at 0 == 255) (get_or s (at + 1) 0 == 255) (get_or s (at + 2) 0 == 255) (get_or s (at + 3) 0 == 255) None _
          (rw bytes_are at h))

      pub word_whole : false ≡ list_any (λ x. x == 255) bytes → Some (from_be_bytes w32 bytes) ≡ word_at s at
      unfolding word_at
      word_whole h =
          rw (le-ltb _ _ room)
          (rw bytes_are
          (chained false (get_or s at 0 == 255) (get_or s (at + 1) 0 == 255) (get_or s (at + 2) 0 == 255) (get_or s (at + 3) 0 == 255) None _
          (rw bytes_are at h)))

-- what a number says
pub record Four (s : List ℕ) (at v : ℕ) : Type 0 where
  pub room : at + 4 ≤ length s
  pub first : get_or s at 0 ≡ 255 → ⊥
  pub second : get_or s (at + 1) 0 ≡ 255 → ⊥
  pub third : get_or s (at + 2) 0 ≡ 255 → ⊥
  pub fourth : get_or s (at + 3) 0 ≡ 255 → ⊥
  pub is : v ≡ get_or s at 0 * 16777216 + get_or s (at + 1) 0 * 65536 + get_or s (at + 2) 0 * 256 + get_or s (at + 3) 0

under : (t : Bool) (x : Std.Option ℕ) {v : ℕ} → cond t None x ≡ Some v → (t ≡ false) × (x ≡ Some v)
under true x h = cc
under false x h = (refl, h)

pub four : (s : List ℕ) (at : ℕ) {v : ℕ} → word_at s at ≡ Some v → Four s at v
unfolding word_at
four s at {v} h =
    let p = under _ _ h in
    let q = under _ _ p.1 in
    let r = under _ _ q.1 in
    let t = under _ _ r.1 in
    let u = under _ _ t.1 in
    record {
      room = ltb-false _ _ p.0;
      first = eqb-false _ _ q.0;
      second = eqb-false _ _ r.0;
      third = eqb-false _ _ t.0;
      fourth = eqb-false _ _ u.0;
      is = sym (same_Some _ _ u.1);
    }

-- ---- four bytes more

sums : (x a b c d m : ℕ) → ((((x + a) % m + b) % m + c) % m + d) % m ≡ (x + (a + b + c + d)) % m
sums x a b c d m =
    mod-add-mod (((x + a) % m + b) % m + c) m d
    ∙ ap (λ k. k % m) (add_assoc (((x + a) % m + b) % m) c d)
    ∙ mod-add-mod ((x + a) % m + b) m (c + d)
    ∙ ap (λ k. k % m) (add_assoc ((x + a) % m) b (c + d))
    ∙ mod-add-mod (x + a) m (b + (c + d))
    ∙ ap (λ k. k % m) (regrouped x a b c d)
  where
    regrouped : (x a b c d : ℕ) → x + a + (b + (c + d)) ≡ x + (a + b + c + d)
    regrouped x a b c d = omega arith

-- a byte j + q places up
raised : (x j q : ℕ) {p : ℕ} → p ≡ j + q → x * 2 ^ p ≡ x * 2 ^ j * 2 ^ q
raised x j q e = ap (λ k. x * 2 ^ k) e ∙ ap (λ k. x * k) (pow-add 2 j q) ∙ sym (mul_assoc x (2 ^ j) (2 ^ q))

gathered : (a b c d p : ℕ) → a * 16777216 * p + b * 65536 * p + c * 256 * p + d * p ≡ (a * 16777216 + b * 65536 + c * 256 + d) * p
gathered a b c d p =
    sym
    (add-mul (a * 16777216 + b * 65536 + c * 256) d p
    ∙ ap (λ k. k + d * p) (add-mul (a * 16777216 + b * 65536) (c * 256) p ∙ ap (λ k. k + c * 256 * p) (add-mul (a * 16777216) (b * 65536) p)))

module _ (s : List ℕ) (at acc left : ℕ) (few : left < 32) {v : ℕ} (f : Four s at v) where
  -- the bytes one after the other
  abbrev one : Wide
  one = joined (cursor at acc left) (get_or s at 0) (at + 1)

  abbrev two : Wide
  two = joined one (get_or s (at + 1) 0) (at + 2)

  abbrev three : Wide
  three = joined two (get_or s (at + 2) 0) (at + 3)

  abbrev all : Wide
  all = joined three (get_or s (at + 3) 0) (at + 4)

  step : (w : Wide) (p : ℕ) → w.at ≡ p → w.left ≤ 56 → p < length s → (get_or s p 0 ≡ 255 → ⊥) → byte_more s w ≡ joined w (get_or s p 0) (p + 1)
  step w p e room there n =
      more_data s w room (rw e there) (λ x. n (sym (ap (λ k. get_or s k 0) e) ∙ x))
      ∙ ap (λ k. joined w (get_or s k 0) (k + 1)) e

  four_more : bytes_more s 4 (cursor at acc left) ≡ all
  unfolding bytes_more
  four_more =
      let p1 : at + 1 + 1 ≡ at + 2 = omega arith in
      let p2 : at + 2 + 1 ≡ at + 3 = omega arith in
      let p3 : at + 3 + 1 ≡ at + 4 = omega arith in
      ap (λ w. byte_more s (byte_more s (byte_more s w))) (step (cursor at acc left) at refl (omega arith) (omega (arith, f.room)) f.first)
      ∙ ap (λ w. byte_more s (byte_more s w)) (step one (at + 1) refl (omega arith) (omega (arith, f.room)) f.second ∙ ap (λ k. joined one (get_or s (at + 1) 0) k) p1)
      ∙ ap (λ w. byte_more s w) (step two (at + 2) refl (omega arith) (omega (arith, f.room)) f.third ∙ ap (λ k. joined two (get_or s (at + 2) 0) k) p2)
      ∙ (step three (at + 3) refl (omega arith) (omega (arith, f.room)) f.fourth ∙ ap (λ k. joined three (get_or s (at + 3) 0) k) p3)

  all_acc : all.acc ≡ (acc + v * 2 ^ (32 - left)) % 2 ^ 64
  all_acc =
      sums acc _ _ _ _ (2 ^ 64)
      ∙ ap (λ k. (acc + k) % 2 ^ 64)
      (ap₂ (λ x y. x + y)
      (ap₂ (λ x y. x + y)
      (ap₂ (λ x y. x + y) (raised (get_or s at 0) 24 (32 - left) (omega arith)) (raised (get_or s (at + 1) 0) 16 (32 - left) (omega arith)))
      (raised (get_or s (at + 2) 0) 8 (32 - left) (omega arith)))
      (ap (λ k. get_or s (at + 3) 0 * 2 ^ k) same)
      ∙ gathered (get_or s at 0) (get_or s (at + 1) 0) (get_or s (at + 2) 0) (get_or s (at + 3) 0) (2 ^ (32 - left))
      ∙ ap (λ k. k * 2 ^ (32 - left)) (sym f.is))
    where
      same : 56 - (left + 8 + 8 + 8) ≡ 32 - left
      same = omega arith

  pub four_bytes : bytes_more s 4 (cursor at acc left) ≡ cursor (at + 4) ((acc + v * 2 ^ (32 - left)) % 2 ^ 64) (left + 32)
  four_bytes = four_more ∙ ap₂ (λ x y. cursor (at + 4) x y) all_acc (omega arith)

-- ---- `topped`

module _ (s : List ℕ) (w : Wide) where
  pub topped_enough : 32 ≤ w.left → w ≡ topped s w
  unfolding topped
  topped_enough h = rw (le-leb _ _ h)

  module _ (few : w.left < 32) where
    pub topped_word :
        {v : ℕ}
        → v < 4294967296
        → word_at s w.at ≡ Some v
        → cursor (w.at + 4) ((w.acc + v * 2 ^ (32 - w.left) % 2 ^ 64) % 2 ^ 64) (w.left + 32) ≡ topped s w
    unfolding topped
    topped_word {v} small e =
        rw (lt-leb _ _ few, e, shl_exact 32 (32 - w.left) 64 small (omega arith)) (sym (four_bytes s w.at w.acc w.left few (four s w.at e)))

    pub topped_filled : word_at s w.at ≡ None → filled s w ≡ topped s w
    unfolding topped
    topped_filled e = rw (lt-leb _ _ few, e)
