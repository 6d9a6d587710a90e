-- Bytes one after the other; the padding and a marker behind it; and bits that are put, with others packed behind them.
use Prim.Native.Nat.{ℕ, suc, ◌+◌, ◌*◌, ◌-◌, ◌^◌, ◌≤◌}
use mathlib.Core.Path.{◌≡◌, refl, sym, ap, ◌∙◌, subst⁻¹}
use mathlib.Core.Bool.{Bool, true, false, cond}
use mathlib.Core.List.{List, [], ◌∷◌, ◌++◌}
use native.Mathlib.Omega.{arith}
use native.Mathlib.Numerals.{add-one}
use lib.Dec.{eqb}
use lib.ListN.{length, set}
use lib.Seq.{sets}
use borrow.Author.Tests.{eq-eqb, ne_eqb, lt-ltb}
use Rattle.reading.specs.Settled.{stuffed, pack_next, pack_from}
use Rattle.jpeg_write_bits.specs.declared.Pen.{Pen}
use Rattle.jpeg_write_bits.specs.Page.{Spot, spot, byte_at, stuffed_at, bytes_at, Page, page, fresh, paged, spot_of, put_next, put_from, put_all, pack_at, closed_at, proper, Proper, restarted, end_at}
use Rattle.jpeg_write_bits.proofs.Propers.{fresh_proper}

-- ---- bytes

-- bytes one after the other, and then others
pub bytes_append : (s : Spot) (xs ys : List ℕ) → bytes_at s (xs ++ ys) ≡ bytes_at (bytes_at s xs) ys
unfolding bytes_at
bytes_append s [] ys = refl
bytes_append s (x ∷ xs) ys = bytes_append (byte_at s x) xs ys

bytes_stuffed : (s : Spot) (x : ℕ) (l : List ℕ) → bytes_at s (stuffed x l) ≡ bytes_at (stuffed_at s x) l
unfolding bytes_at stuffed_at
bytes_stuffed s x l = go (eqb x 255)
  where
    go : (t : Bool) → bytes_at s (cond t (x ∷ 0 ∷ l) (x ∷ l)) ≡ bytes_at (cond t (byte_at (byte_at s x) 0) (byte_at s x)) l
    go true = refl
    go false = refl

pub two_bytes : (s : Spot) (a b : ℕ) → byte_at (byte_at s a) b ≡ bytes_at s (a ∷ b ∷ [])
unfolding bytes_at
two_bytes s a b = refl

-- where all fits, the bytes are laid over those that were there, and counted
pub bytes_laid : (xs out : List ℕ) (at : ℕ) → at + length xs ≤ 18446744073709551615 → bytes_at (spot out at) xs ≡ spot (sets out at xs) (at + length xs)
unfolding bytes_at byte_at
bytes_laid [] out at h = ap (λ n. spot out n) (omega arith)
bytes_laid (x ∷ xs) out at h =
    rw (lt-ltb at 18446744073709551615 (omega arith), add-one at)
    (bytes_laid xs (set out at x) (suc at) (omega arith) ∙ ap (λ n. spot (sets out at (x ∷ xs)) n) (omega arith))

-- ---- the padding and a marker

pub closed_full : (q : Page) → q.pen.missing ≡ 8 → spot_of q ≡ closed_at q
unfolding closed_at pack_at bytes_at
closed_full q e = rw (eq-eqb q.pen.missing 8 e)

pub closed_pad : (q : Page) {r : ℕ} → (q.pen.missing ≡ 8 → ⊥) → r ≡ 2 ^ q.pen.missing → stuffed_at (spot_of q) (q.pen.value * r + (r - 1)) ≡ closed_at q
unfolding closed_at pack_at bytes_at
closed_pad q {r} n e =
    rw (e, ne_eqb q.pen.missing 8 n) (sym (bytes_stuffed (spot_of q) (q.pen.value * 2 ^ q.pen.missing + (2 ^ q.pen.missing - 1)) []))

module _ (q : Page) (h : proper q.pen ≡ false) where
  pub restart_not : (code : ℕ) → q ≡ restarted q code
  unfolding restarted
  restart_not code = rw h

  pub end_not : spot_of q ≡ end_at q
  unfolding end_at
  end_not = rw h

module _ (q : Page) (h : Proper q.pen) where
  pub restarted_is : (code : ℕ) → restarted q code ≡ paged (bytes_at (closed_at q) (255 ∷ code ∷ [])) 0 8
  unfolding restarted
  restarted_is code = rw h

  pub restart_is : (code : ℕ) {out : List ℕ} {at : ℕ} {p : Pen} → spot out at ≡ bytes_at (closed_at q) (255 ∷ code ∷ []) → p ≡ fresh at → page out p ≡ restarted q code
  restart_is code {out} {at} {p} e f = rw f (ap (λ (s : Spot). paged s 0 8) e ∙ sym (restarted_is code))

  pub restarted_proper : (code : ℕ) → Proper (restarted q code).pen
  restarted_proper code = subst⁻¹ (λ (r : Page). Proper r.pen) (restarted_is code) (fresh_proper _)

  pub end_is : bytes_at (closed_at q) (255 ∷ 217 ∷ []) ≡ end_at q
  unfolding end_at
  end_is = rw h

-- ---- bits, and others packed behind them

-- packing bits is putting them, and packing the others behind them
pack_from_lem : (bs cs : List ℕ) (s : Spot) (v m : ℕ) → bytes_at s (pack_from (bs ++ cs) v m) ≡ pack_at (put_from bs s v m) cs
unfolding pack_at put_from
pack_from_lem [] cs s v m = refl
pack_from_lem (b ∷ bs) cs s v m = go (eqb m 1) (λ s w n. pack_from_lem bs cs s w n)
  where
    go : (t : Bool) → ((s : Spot) (w n : ℕ) → bytes_at s (pack_from (bs ++ cs) w n) ≡ pack_at (put_from bs s w n) cs) → bytes_at s (pack_next (2 * v + b) m (pack_from (bs ++ cs)) t) ≡ pack_at (put_next (2 * v + b) m s (put_from bs) t) cs
    go true ih = bytes_stuffed s (2 * v + b) (pack_from (bs ++ cs) 0 8) ∙ ih (stuffed_at s (2 * v + b)) 0 8
    go false ih = ih s (2 * v + b) (m - 1)

pub pack_put : (q : Page) (bs cs : List ℕ) → pack_at q (bs ++ cs) ≡ pack_at (put_all q bs) cs
unfolding pack_at put_all
pack_put q bs cs = pack_from_lem bs cs (spot_of q) q.pen.value q.pen.missing
