-- Bits put into bytes: as many at once as a byte still wants, and what a byte then is.
use Prim.Native.Nat.{ℕ, zero, suc, ◌+◌, ◌*◌, ◌-◌, ◌/◌, ◌%◌, ◌^◌, ◌<◌, ◌≤◌, min}
use mathlib.Core.Path.{◌≡◌, refl, sym, ap, ap₂, ◌∙◌}
use mathlib.Core.Bool.{Bool, true, false, cond}
use mathlib.Core.List.{List, [], ◌∷◌, ◌++◌}
use native.Mathlib.Omega.{arith}
use native.Mathlib.Nat.{not-suc-le-zero, add-zero, add-suc, mod-lt}
use lib.Dec.{eqb, ltb}
use lib.Pow.{pow_pos, pow_mono, shr-shr}
use lib.ListN.{set}
use borrow.Author.Tests.{eq-eqb, ne_eqb, ltb-true, ltb-false}
use Rattle.reading.specs.Huffman.{bits_of}
use Rattle.whole.specs.Powers.{one_more, grown_by}
use Rattle.jpeg_write_bits.specs.declared.Pen.{Pen}
use Rattle.jpeg_write_bits.specs.Page.{Spot, spot, byte_at, stuffed_at, Page, page, fresh, paged, spot_of, put_next, put_from, put_all}

-- ---- a byte

-- stored where there is room, and counted up to the last place
pub byte_is : (out : List ℕ) (at x : ℕ) {stored : List ℕ} {next : ℕ} → at < 18446744073709551616 → stored ≡ set out at x → next ≡ min (at + 1) 18446744073709551615
    → spot stored next ≡ byte_at (spot out at) x
unfolding byte_at
byte_is out at x h e f = rw (e, f) (ap (spot (set out at x)) (go (ltb at 18446744073709551615) refl))
  where
    go : (b : Bool) → ltb at 18446744073709551615 ≡ b → min (at + 1) 18446744073709551615 ≡ cond b (at + 1) at
    go true e = omega (arith, ltb-true at 18446744073709551615 e)
    go false e = omega (arith, ltb-false at 18446744073709551615 e)

pub stuffed_full : (s : Spot) (x : ℕ) → x ≡ 255 → stuffed_at s x ≡ byte_at (byte_at s x) 0
unfolding stuffed_at
stuffed_full s x e = rw (eq-eqb x 255 e)

pub stuffed_data : (s : Spot) (x : ℕ) → (x ≡ 255 → ⊥) → stuffed_at s x ≡ byte_at s x
unfolding stuffed_at
stuffed_data s x e = rw (ne_eqb x 255 e)

-- ---- bits, and then others

from_append : (xs ys : List ℕ) (s : Spot) (v m : ℕ) → put_from (xs ++ ys) s v m ≡ put_all (put_from xs s v m) ys
unfolding put_from put_all
from_append [] ys s v m = refl
from_append (x ∷ xs) ys s v m = go (eqb m 1) (λ s w n. from_append xs ys s w n)
  where
    go : (t : Bool) → ((s : Spot) (w n : ℕ) → put_from (xs ++ ys) s w n ≡ put_all (put_from xs s w n) ys) → put_next (2 * v + x) m s (put_from (xs ++ ys)) t ≡ put_all (put_next (2 * v + x) m s (put_from xs) t) ys
    go true ih = ih (stuffed_at s (2 * v + x)) 0 8
    go false ih = ih s (2 * v + x) (m - 1)

pub all_append : (q : Page) (xs ys : List ℕ) → put_all q (xs ++ ys) ≡ put_all (put_all q xs) ys
unfolding put_all
all_append q xs ys = from_append xs ys (spot_of q) q.pen.value q.pen.missing

pub all_none : (q : Page) → put_all q [] ≡ q
unfolding put_all put_from
all_none q = refl

-- ---- several bits at once

-- fewer bits than are missing
from_part : (n x : ℕ) (s : Spot) (v m : ℕ) → n < m → put_from (bits_of n x) s v m ≡ paged s (v * 2 ^ n + x % 2 ^ n) (m - n)
unfolding put_from
from_part zero x s v m h = ap₂ (paged s) (omega arith) (omega arith)
from_part (suc n) x s v m h =
    rw (ne_eqb m 1 (λ e. apart e)) (from_part n x s (2 * v + x / 2 ^ n % 2) (m - 1) (omega arith) ∙ ap₂ (paged s) (one_more n v x) (omega arith))
  where
    apart : m ≡ 1 → ⊥
    apart e = omega arith

-- as many bits as are missing
from_full : (m k x : ℕ) (s : Spot) (v : ℕ) → put_from (bits_of (suc (k + m)) x) s v (suc m) ≡ put_from (bits_of k x) (stuffed_at s (v * 2 ^ suc m + x / 2 ^ k % 2 ^ suc m)) 0 8
unfolding put_from
from_full zero k x s v =
    rw (add-zero k) (ap (λ b. put_from (bits_of k x) (stuffed_at s b) 0 8) (omega arith))
from_full (suc m) k x s v =
    rw (add-suc k m, ne_eqb (suc (suc m)) 1 (λ e. apart e), less)
    (from_full m k x s (2 * v + x / 2 ^ suc (k + m) % 2)
    ∙ ap (λ b. put_from (bits_of k x) (stuffed_at s b) 0 8) (rw (← (add-suc k m), ← (shr-shr x k (suc m))) (one_more (suc m) v (x / 2 ^ k))))
  where
    apart : suc (suc m) ≡ 1 → ⊥
    apart e = omega arith

    less : suc (suc m) - 1 ≡ suc m
    less = omega arith

from_byte : (m k x : ℕ) (s : Spot) (v : ℕ) → 0 < m → m ≤ k → put_from (bits_of k x) s v m ≡ put_from (bits_of (k - m) x) (stuffed_at s (v * 2 ^ m + x / 2 ^ (k - m) % 2 ^ m)) 0 8
from_byte zero k x s v h l = absurd (not-suc-le-zero h)
from_byte (suc m) k x s v h l = ap (λ n. put_from (bits_of n x) s v (suc m)) same ∙ from_full m (k - suc m) x s v
  where
    same : k ≡ suc ((k - suc m) + m)
    same = omega arith

-- ---- what a byte is, and what waits for one

-- v is what there is of a byte of which m bits are missing
pub record Begun (v m : ℕ) : Type 0 where
  pub some : 0 < m
  pub few : m ≤ 8
  pub low : v < 2 ^ (8 - m)

pub begun_none : Begun 0 8
begun_none = record { some = omega arith; few = omega arith; low = omega arith }

-- with k bits more it is below 256
module _ {v m : ℕ} (b : Begun v m) (k : ℕ) (h : k ≤ m) {q : ℕ} (e : q ≡ 2 ^ k) where
  with_bits : (y : ℕ) → y < 2 ^ k → v * q + y < 256
  with_bits y l =
      let most : 2 ^ (8 - (m - k)) ≤ 2 ^ 8 = pow_mono {j = 8} (omega arith) in
      rw e (omega (arith, most, grown_by 8 m k h b.few b.low l))

  pub with_low : (x : ℕ) → v * q + x % q < 256
  with_low x = with_bits (x % q) (rw e (mod-lt x (pow_pos k)))

  pub with_ones : v * q + (q - 1) < 256
  with_ones = with_bits (q - 1) (omega (arith, e, pow_pos k))

  pub product_small : v * q < 256
  product_small = omega (arith, with_low 0)

-- ---- the loop over the bytes of x

-- behind a pen k bits of x are still to come
module _ {t : Page} (k x : ℕ) (out : List ℕ) (p : Pen) (same : t ≡ put_all (page out p) (bits_of k x)) where
  -- as many as its byte wants
  pub put_more : {q r : ℕ} {next : List ℕ} {at : ℕ} {pen : Pen} → 0 < p.missing → p.missing ≤ k → q ≡ 2 ^ p.missing → r ≡ 2 ^ (k - p.missing)
      → spot next at ≡ stuffed_at (spot out p.at) (p.value * q + x / r % q) → pen ≡ fresh at → t ≡ put_all (page next pen) (bits_of (k - p.missing) x)
  unfolding put_all
  put_more {next = next} {at} h l e f g i =
      rw i (same ∙ from_byte p.missing k x (spot out p.at) p.value h l ∙ ap (λ (s : Spot). put_from (bits_of (k - p.missing) x) s 0 8) (rw (← e, ← f) (sym g)))

  -- the last of them
  pub put_last : {q : ℕ} → k < p.missing → q ≡ 2 ^ k → page out (record { at = p.at; value = p.value * q + x % q; missing = p.missing - k }) ≡ t
  unfolding put_all
  put_last l e = rw e (sym (same ∙ from_part k x (spot out p.at) p.value p.missing l))
