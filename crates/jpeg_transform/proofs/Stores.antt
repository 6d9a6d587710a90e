-- Lists by their places after several stores, and a buffer whose front is written byte by byte. Assumes nothing.
use mathlib.Core.Path.{◌≡◌, refl, sym, ◌∙◌, ap, subst}
use mathlib.Core.Bool.{Bool, true, false}
use mathlib.Core.List.{List, ◌++◌}
use Prim.Native.Nat.{ℕ, zero, suc, ◌+◌, ◌-◌, ◌*◌, ◌≤◌, ◌<◌}
use native.Mathlib.Decide.{ℕ_discrete, dec_lt}
use native.Mathlib.Omega.{arith}
use native.Mathlib.Numerals.{add-one}
use borrow.Author.Tests.{ltb-true, ltb-false}
use lib.Dec.{ltb}
use lib.ListN.{length, get_or, set, take, drop, replicate, length-set, length-append, length-drop, get_or-append}
use lib.Seq.{get_or-set_same, get_or-set_other, ext_get_or, get_or-append-add, get_or-append_right, get_or-take, get_or-drop, length-take-le}
use lib.IntN.{ℤ, pos}
use Rattle.whole.specs.Expressions.{at}
use Rattle.whole.specs.Lists.{from, list_of, length_from, get_d_from}
use Rattle.reading.specs.Tests.{over}
use Rattle.jpeg_transform.specs.Passes.{place, puts}

pub place_is : (i s u : ℕ) → place i s u ≡ i + u * s
place_is i s zero = omega arith
place_is i s (suc u) = refl

module _ {A : Type 0} (l : List A) (p : ℕ → ℕ) (f : ℕ → A) where
  pub length_puts : (n : ℕ) → length (puts l p f n) ≡ length l
  unfolding puts
  length_puts zero = refl
  length_puts (suc n) = length-set (puts l p f n) (p n) (f n) ∙ length_puts n

  -- where nothing was stored
  pub puts_other : (n j : ℕ) (d : A) → ((u : ℕ) → u < n → j ≡ p u → ⊥) → get_or (puts l p f n) j d ≡ get_or l j d
  unfolding puts
  puts_other zero j d h = refl
  puts_other (suc n) j d h = get_or-set_other (puts l p f n) (p n) j (f n) d (h n (omega arith)) ∙ puts_other n j d (λ u q. h u (omega arith))

  -- where f u was stored, at a place of its own
  pub puts_same : (n u : ℕ) (d : A) → u < n → p u < length l → ((v : ℕ) → v < n → p u ≡ p v → u ≡ v) → get_or (puts l p f n) (p u) d ≡ f u
  unfolding puts
  puts_same zero u d h q own = absurd (none h)
    where
      none : u < 0 → ⊥
      none h = omega arith
  puts_same (suc n) u d h q own = go (ℕ_discrete u n) (λ r. puts_same n u d r q (λ v s e. own v (omega arith) e))
    where
      go : Dec (u ≡ n) → (u < n → get_or (puts l p f n) (p u) d ≡ f u) → get_or (set (puts l p f n) (p n) (f n)) (p u) d ≡ f u
      go (yes e) earlier = subst (λ v. get_or (set (puts l p f n) (p n) (f n)) (p v) d ≡ f v) (sym e)
          (get_or-set_same (puts l p f n) (p n) (f n) d (rw (length_puts n) (subst (λ v. p v < length l) e q)))
      go (no ne) earlier = get_or-set_other (puts l p f n) (p n) (p u) (f n) d (λ e. ne (own n (omega arith) e)) ∙ earlier (omega arith)

-- one store more
pub puts_next : {A : Type 0} (l : List A) (i s : ℕ) (f : ℕ → A) (n j : ℕ) (m : List A) (x : A) → m ≡ puts l (place i s) f n → j ≡ i + n * s → x ≡ f n
    → set m j x ≡ puts l (place i s) f (n + 1)
unfolding puts
puts_next l i s f n j m x e h g = rw (e, h, g, add-one, place_is i s n) refl

-- a part of a list written over by the n numbers xs
pub puts_part : (l xs : List ℤ) (i n : ℕ) {k : ℕ} → k ≡ n → length xs ≡ n → i + n ≤ length l
    → take i l ++ (xs ++ drop k (drop i l)) ≡ puts l (place i 1) (at xs) n
puts_part l xs i n same e room =
    ap (λ k. take i l ++ (xs ++ drop k (drop i l))) same ∙
    ext_get_or (pos 0) (take i l ++ (xs ++ drop n (drop i l))) (puts l (place i 1) (at xs) n) (long ∙ sym (length_puts l (place i 1) (at xs) n))
    (λ j h. go j (dec_lt j i) (dec_lt j (i + n)))
  where
    front : length (take i l) ≡ i
    front = length-take-le i l (omega arith)

    long : length (take i l ++ (xs ++ drop n (drop i l))) ≡ length l
    long = simp (length-append, length-drop) (omega (arith, front))

    inner : (j : ℕ) → i ≤ j → get_or (take i l ++ (xs ++ drop n (drop i l))) j (pos 0) ≡ get_or (xs ++ drop n (drop i l)) (j - i) (pos 0)
    inner j p = get_or-append_right (take i l) (xs ++ drop n (drop i l)) j (pos 0) (omega (arith, front))
        ∙ ap (λ k. get_or (xs ++ drop n (drop i l)) (j - k) (pos 0)) front

    go : (j : ℕ) → Dec (j < i) → Dec (j < i + n)
        → get_or (take i l ++ (xs ++ drop n (drop i l))) j (pos 0) ≡ get_or (puts l (place i 1) (at xs) n) j (pos 0)
    go j (yes p) q =
        get_or-append (take i l) (xs ++ drop n (drop i l)) (pos 0) j (omega (arith, front)) ∙ get_or-take i l j (pos 0) p
        ∙ sym (puts_other l (place i 1) (at xs) n j (pos 0) (λ u h r. omega (arith, r, place_is i 1 u)))
    go j (no p) (yes q) =
        let here : place i 1 (j - i) ≡ j = place_is i 1 (j - i) ∙ omega arith in
        inner j (omega arith) ∙ get_or-append xs (drop n (drop i l)) (pos 0) (j - i) (omega (arith, e))
        ∙ sym (puts_same l (place i 1) (at xs) n (j - i) (pos 0) (omega arith) (rw here (omega arith))
        (λ v h r. omega (arith, r, place_is i 1 (j - i), place_is i 1 v)))
        ∙ ap (λ k. get_or (puts l (place i 1) (at xs) n) k (pos 0)) here
    go j (no p) (no q) =
        inner j (omega arith) ∙ get_or-append_right xs (drop n (drop i l)) (j - i) (pos 0) (omega (arith, e))
        ∙ get_or-drop n (drop i l) (j - i - length xs) (pos 0) ∙ get_or-drop i l (n + (j - i - length xs)) (pos 0)
        ∙ ap (λ k. get_or l k (pos 0)) (omega (arith, e))
        ∙ sym (puts_other l (place i 1) (at xs) n j (pos 0) (λ u h r. omega (arith, r, place_is i 1 u)))

-- a buffer that holds f at its first n places and what it held behind them
over_is : (l old : List ℕ) (n : ℕ) (f : ℕ → ℕ) → length l ≡ length old → n ≤ length old
    → ((j : ℕ) → j < n → get_or l j 0 ≡ f j) → ((j : ℕ) → n ≤ j → get_or l j 0 ≡ get_or old j 0) → l ≡ over (list_of n f) old
over_is l old n f e h front back =
    ext_get_or 0 l (over (list_of n f) old) (e ∙ sym long) (λ j p. each j (ltb j n) refl)
  where
    size : length (list_of n f) ≡ n
    size = length_from f 0 n

    long : length (over (list_of n f) old) ≡ length old
    long = length-append (list_of n f) (drop (length (list_of n f)) old) ∙ rest
      where
        rest : length (list_of n f) + length (drop (length (list_of n f)) old) ≡ length old
        rest = omega (arith, size, h, length-drop (length (list_of n f)) old)

    each : (j : ℕ) (t : Bool) → ltb j n ≡ t → get_or l j 0 ≡ get_or (over (list_of n f) old) j 0
    each j true t =
        front j (ltb-true j n t) ∙ ap f same ∙ sym (get_d_from f 0 n j 0 (ltb-true j n t))
        ∙ sym (get_or-append (list_of n f) (drop (length (list_of n f)) old) 0 j (omega (arith, size, ltb-true j n t)))
      where
        same : j ≡ 0 + j
        same = omega arith
    each j false t =
        back j (ltb-false j n t) ∙ ap (λ m. get_or old m 0) (split j (ltb-false j n t)) ∙ sym (get_or-drop (length (list_of n f)) old (j - n) 0)
        ∙ sym (get_or-append-add (list_of n f) (drop (length (list_of n f)) old) (j - n) 0)
        ∙ ap (λ m. get_or (over (list_of n f) old) m 0) (sym (split j (ltb-false j n t)))
      where
        split : (j : ℕ) → n ≤ j → j ≡ length (list_of n f) + (j - n)
        split j q = omega (arith, size, q)

-- the first 64 bytes of a buffer filled with one
pub filled : {xs : List ℕ} {b d : ℕ} (old : List ℕ) → xs ≡ replicate 64 b → b ≡ d → xs ++ drop 64 old ≡ over (list_of 64 (λ k. d)) old
unfolding from
filled old e h = rw (e, h) refl

-- ---- a loop over the first 64 bytes of a buffer: k of them hold f, and what stands behind the 64 is as it was

pub record Front (f : ℕ → ℕ) (old : List ℕ) (k : ℕ) (out : List ℕ) : Type 0 where
  pub inside : k ≤ 64
  pub long : length out ≡ length old
  pub done : (j : ℕ) → j < k → get_or out j 0 ≡ f j
  pub left : (j : ℕ) → 64 ≤ j → get_or out j 0 ≡ get_or old j 0

module _ {f : ℕ → ℕ} {old : List ℕ} where
  pub front_all : {k : ℕ} {out : List ℕ} → Front f old k out → 64 ≤ k → 64 ≤ length old → out ≡ over (list_of 64 f) old
  front_all {k} {out} d h room = over_is out old 64 f d.long room (λ j p. d.done j (omega (arith, h))) d.left
