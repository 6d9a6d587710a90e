-- The two passes: how large their sums are, what each turn of a pass adds, and that one pass after the other is the definition. Assumes
-- nothing.
use mathlib.Core.Path.{◌≡◌, refl, sym, ◌∙◌, ap, ap₂}
use mathlib.Core.Bool.{Bool, true, false, cond}
use mathlib.Core.List.{List, []}
use Prim.Native.Nat.{ℕ, zero, suc, ◌+◌, ◌-◌, ◌*◌, ◌/◌, ◌%◌, ◌^◌, ◌≤◌, ◌<◌, zero-le}
use native.Mathlib.Decide.{ℕ_discrete}
use native.Mathlib.Omega.{arith}
use borrow.Author.Tests.{ltb-true, ltb-false, leb-true, leb-false}
use lib.Dec.{leb, ltb}
use lib.ListN.{length, get_or-map}
use lib.IntN.{ℤ, pos, negsuc, nat_abs, ◌+ℤ◌}
use lib.Signed.{shr_z}
use Rattle.whole.specs.Expressions.{at, Within, dot, dot_cong}
use Rattle.whole.specs.Lists.{from, get_d_from, is_list_of, list_of, list_of_cong}
use Rattle.reading.specs.Colour.{to_byte}
use Rattle.reading.specs.Transform.{basis, weights, line, row, plane, clamped, sample_of, samples}
use Rattle.jpeg_transform.specs.Passes.{place, spaced, lines, puts, rowed, rows_of, in_steps, columned, columns_of}
use Rattle.reading.proofs.DoubleSum.{weights_short}
pub use Rattle.reading.proofs.DoubleSum.{line_small, row_small}
use Rattle.jpeg_transform.proofs.Stores.{place_is, length_puts, puts_same, puts_other}

-- ---- one line

line_cong : (f g : ℕ → ℤ) (x : ℕ) → ((j : ℕ) → j < 8 → f j ≡ g j) → line f x ≡ line g x
line_cong f g x h = dot_cong f g (weights x) 0 (λ j p q. h j (omega (arith, weights_short x)))

lines_at : (f : ℕ → ℤ) (x : ℕ) → at (lines f) x ≡ line f x
unfolding lines
lines_at f x = get_or-map (λ ks. dot ks f 0) basis x []

pub length_lines : (f : ℕ → ℤ) → length (lines f) ≡ 8
unfolding lines basis
length_lines f = refl

-- of small inputs
pub lines_small : (f : ℕ → ℤ) {xs : List ℤ} → ((i : ℕ) → nat_abs (f i) ≤ 2 ^ 40) → xs ≡ lines f → Within (2 ^ 57) xs
lines_small f small e = record { each = λ i. rw (e, lines_at f i) (line_small f (2 ^ 40) small i) }

pub rows_small : {B : ℕ} {c : List ℤ} → Within B c → Within (B * 131072) (rows_of c)
unfolding rows_of from
rows_small {B} {c} h = record { each = go 0 64 }
  where
    go : (i n k : ℕ) → nat_abs (at (from (λ j. row c (j / 8) (j % 8)) i n) k) ≤ B * 131072
    go i zero k = zero-le
    go i (suc n) zero = row_small h (i / 8) (i % 8)
    go i (suc n) (suc k) = go (suc i) n k

-- ---- the first pass: the rows before place i are done, the others are as they were

pub record RowsTo (c : List ℤ) (i : ℕ) (t : List ℤ) : Type 0 where
  pub long : length t ≡ 64
  pub even : i % 8 ≡ 0
  pub done : (j : ℕ) → j < i → at t j ≡ row c (j / 8) (j % 8)
  pub left : (j : ℕ) → i ≤ j → at t j ≡ at c j

-- the row at i, where i is a multiple of 8 and the row is as it was
row_here : (c t : List ℤ) (i u : ℕ) → i % 8 ≡ 0 → ((j : ℕ) → i ≤ j → at t j ≡ at c j) → line (spaced t i 1) u ≡ row c (i / 8) u
unfolding row
row_here c t i u e h = line_cong (spaced t i 1) (λ w. at c (8 * (i / 8) + w)) u
    (λ w p. ap (at t) (place_is i 1 w) ∙ h (i + w * 1) (omega arith) ∙ ap (at c) (omega arith))

pub rows_next : {c t : List ℤ} {i : ℕ} → RowsTo c i t → i < 64 → RowsTo c (i + 8) (rowed t i)
unfolding rowed
rows_next {c} {t} {i} d h = record {
  long = length_puts t p f 8 ∙ d.long;
  even = omega (arith, d.even);
  done = λ j q. done j q (ltb j i) refl;
  left = λ j q. puts_other t p f 8 j (pos 0) (λ u r e. apart u r (e ∙ place_is i 1 u) q) ∙ d.left j (omega arith);
}
  where
    p : ℕ → ℕ
    p = place i 1

    f : ℕ → ℤ
    f = at (lines (spaced t i 1))

    apart : {j : ℕ} (u : ℕ) → u < 8 → j ≡ i + u * 1 → i + 8 ≤ j → ⊥
    apart u r e q = omega arith

    done : (j : ℕ) → j < i + 8 → (b : Bool) → ltb j i ≡ b → at (puts t p f 8) j ≡ row c (j / 8) (j % 8)
    done j q true b = puts_other t p f 8 j (pos 0) (λ u r e. before u (e ∙ place_is i 1 u) (ltb-true j i b)) ∙ d.done j (ltb-true j i b)
      where
        before : (u : ℕ) → j ≡ i + u * 1 → j < i → ⊥
        before u e r = omega arith
    done j q false b =
        ap (at (puts t p f 8)) (here ∙ sym (place_is i 1 (j - i)))
        ∙ puts_same t p f 8 (j - i) (pos 0) less (rw (place_is i 1 (j - i), d.long) room)
        (λ v r e. own v (sym (place_is i 1 (j - i)) ∙ e ∙ place_is i 1 v))
        ∙ lines_at (spaced t i 1) (j - i) ∙ row_here c t i (j - i) d.even d.left ∙ ap₂ (row c) above beside
      where
        past : i ≤ j
        past = ltb-false j i b

        here : j ≡ i + (j - i) * 1
        here = omega (arith, past)

        less : j - i < 8
        less = omega (arith, q)

        room : i + (j - i) * 1 < 64
        room = omega (arith, q, h, d.even)

        own : (v : ℕ) → i + (j - i) * 1 ≡ i + v * 1 → j - i ≡ v
        own v e = omega arith

        above : i / 8 ≡ j / 8
        above = omega (arith, past, q, d.even)

        beside : j - i ≡ j % 8
        beside = omega (arith, past, q, d.even)

pub rows_done : {c t : List ℤ} {i : ℕ} → RowsTo c i t → 64 ≤ i → t ≡ rows_of c
unfolding rows_of
rows_done {c} {t} {i} d h = is_list_of (pos 0) t 64 (λ j. row c (j / 8) (j % 8)) d.long (λ j q. d.done j (omega arith))

-- no place of a block is above the bound of a done row
pub rows_within : {B : ℕ} {c t : List ℤ} {i : ℕ} → Within B c → RowsTo c i t → Within (B * 131072) t
rows_within {B} {c} {t} {i} h d = record { each = λ j. go j (ltb j i) refl }
  where
    go : (j : ℕ) (b : Bool) → ltb j i ≡ b → nat_abs (at t j) ≤ B * 131072
    go j true b = rw (d.done j (ltb-true j i b)) (row_small h (j / 8) (j % 8))
    go j false b = rw (d.left j (ltb-false j i b)) (omega (arith, h.each j))

-- ---- the second pass: the columns before x are there, in steps

-- the number at place j, of a block whose rows are transformed
abbrev steps_at : List ℤ → ℕ → ℤ
steps_at t j = in_steps (line (λ v. at t (8 * v + j % 8)) (j / 8))

pub record ColumnsTo (t : List ℤ) (x : ℕ) (steps : List ℤ) : Type 0 where
  pub long : length steps ≡ 64
  pub done : (j : ℕ) → j < 64 → j % 8 < x → at steps j ≡ in_steps (line (λ v. at t (8 * v + j % 8)) (j / 8))

pub columns_next : {t steps : List ℤ} {x : ℕ} → ColumnsTo t x steps → x < 8 → ColumnsTo t (x + 1) (columned t x steps)
unfolding columned
columns_next {t} {steps} {x} d h = record {
  long = length_puts steps p f 8 ∙ d.long;
  done = λ j q r. done j q r (ℕ_discrete (j % 8) x);
}
  where
    p : ℕ → ℕ
    p = place x 8

    f : ℕ → ℤ
    f = λ y. in_steps (at (lines (spaced t x 8)) y)

    done : (j : ℕ) → j < 64 → j % 8 < x + 1 → Dec (j % 8 ≡ x) → at (puts steps p f 8) j ≡ steps_at t j
    done j q r (no ne) = puts_other steps p f 8 j (pos 0) (λ u s e. ne (there u (e ∙ place_is x 8 u))) ∙ d.done j q (omega arith)
      where
        there : (u : ℕ) → j ≡ x + u * 8 → j % 8 ≡ x
        there u e = omega (arith, h)
    done j q r (yes e) =
        ap (at (puts steps p f 8)) (here ∙ sym (place_is x 8 (j / 8)))
        ∙ puts_same steps p f 8 (j / 8) (pos 0) less (rw (place_is x 8 (j / 8), d.long) fits)
        (λ v s g. own v (sym (place_is x 8 (j / 8)) ∙ g ∙ place_is x 8 v))
        ∙ ap in_steps (lines_at (spaced t x 8) (j / 8)
        ∙ line_cong (spaced t x 8) (λ v. at t (8 * v + j % 8)) (j / 8) (λ v s. ap (at t) (place_is x 8 v ∙ swap v)))
      where
        here : j ≡ x + j / 8 * 8
        here = omega (arith, e)

        less : j / 8 < 8
        less = omega (arith, q)

        fits : x + j / 8 * 8 < 64
        fits = omega (arith, e, q)

        own : (v : ℕ) → x + j / 8 * 8 ≡ x + v * 8 → j / 8 ≡ v
        own v g = omega arith

        swap : (v : ℕ) → x + v * 8 ≡ 8 * v + j % 8
        swap v = omega (arith, e)

pub columns_done : {t steps : List ℤ} {x : ℕ} → ColumnsTo t x steps → 8 ≤ x → steps ≡ columns_of t
unfolding columns_of
columns_done {t} {steps} d h = is_list_of (pos 0) steps 64 (steps_at t) d.long (λ j q. d.done j q (omega arith))

-- ---- the clamp

-- the byte nearest to a number of steps is the sample
pub byte_of_steps : (v : ℤ) → to_byte (in_steps v) ≡ sample_of v
unfolding to_byte in_steps clamped
byte_of_steps v = go (v +ℤ pos 137975824384)
  where
    go : (z : ℤ) → to_byte (shr_z z 1073741824) ≡ clamped z
    go (negsuc n) = refl
    go (pos n) = tests (leb n 0) refl (leb 273804165120 n) refl (ltb (n / 1073741824) 0) refl (ltb 255 (n / 1073741824)) refl
      where
        none : n ≤ 0 → n / 1073741824 ≡ 0
        none h = omega arith

        full : 273804165120 ≤ n → n / 1073741824 ≤ 255 → n / 1073741824 ≡ 255
        full h k = omega arith

        not_full : n < 273804165120 → 255 < n / 1073741824 → ⊥
        not_full h k = omega arith

        not_none : n ≤ 0 → 255 < n / 1073741824 → ⊥
        not_none h k = omega arith

        never : n / 1073741824 < 0 → ⊥
        never h = omega arith

        tests : (a : Bool) → leb n 0 ≡ a → (b : Bool) → leb 273804165120 n ≡ b → (c : Bool) → ltb (n / 1073741824) 0 ≡ c → (d : Bool)
            → ltb 255 (n / 1073741824) ≡ d
            → cond c 0 (cond d 255 (n / 1073741824)) ≡ cond a 0 (cond b 255 (n / 1073741824))
        tests a p b q true r d s = absurd (never (ltb-true (n / 1073741824) 0 r))
        tests true p b q false r true s = absurd (not_none (leb-true n 0 p) (ltb-true 255 (n / 1073741824) s))
        tests true p b q false r false s = none (leb-true n 0 p)
        tests false p true q false r true s = refl
        tests false p true q false r false s = full (leb-true 273804165120 n q) (ltb-false 255 (n / 1073741824) s)
        tests false p false q false r true s = absurd (not_full (leb-false 273804165120 n q) (ltb-true 255 (n / 1073741824) s))
        tests false p false q false r false s = refl

-- ---- the two passes, one after the other, are the definition

pub both : (c : List ℤ) → list_of 64 (λ k. to_byte (at (columns_of (rows_of c)) k)) ≡ samples c
unfolding columns_of rows_of samples plane
both c = list_of_cong 64 (λ k. to_byte (at (columns_of (rows_of c)) k)) (λ k. sample_of (plane c (k / 8) (k % 8)))
    (λ k h. ap to_byte (steps k h) ∙ byte_of_steps (plane c (k / 8) (k % 8)))
  where
    one : (k : ℕ) → k < 64 → line (λ v. at (rows_of c) (8 * v + k % 8)) (k / 8) ≡ plane c (k / 8) (k % 8)
    one k h =
        line_cong (λ v. at (rows_of c) (8 * v + k % 8)) (λ v. row c v (k % 8)) (k / 8)
        (λ v p. get_d_from (λ j. row c (j / 8) (j % 8)) 0 64 (8 * v + k % 8) (pos 0) (omega arith) ∙ ap₂ (row c) (above v) (beside v))
      where
        above : (v : ℕ) → (0 + (8 * v + k % 8)) / 8 ≡ v
        above v = omega arith

        beside : (v : ℕ) → (0 + (8 * v + k % 8)) % 8 ≡ k % 8
        beside v = omega arith

    steps : (k : ℕ) → k < 64 → at (columns_of (rows_of c)) k ≡ in_steps (plane c (k / 8) (k % 8))
    steps k h = get_d_from (steps_at (rows_of c)) 0 64 k (pos 0) h ∙ ap (steps_at (rows_of c)) same ∙ ap in_steps (one k h)
      where
        same : 0 + k ≡ k
        same = omega arith
