-- Laws of pictures written into a buffer row by row: that rows of pixels make a list by its places (k / channels % width,
-- k / channels / width, k % channels); and the stores that the code makes.
use Prim.Native.Nat.{ℕ, zero, suc, ◌+◌, ◌*◌, ◌-◌, ◌/◌, ◌%◌, ◌<◌, ◌≤◌}
use mathlib.Core.Path.{◌≡◌, refl, sym, ap, ap₂, ◌∙◌, subst}
use mathlib.Core.List.{List, ◌++◌}
use native.Mathlib.Omega.{arith}
use native.Mathlib.Decide.{dec_lt}
use native.Mathlib.Numerals.{add-one}
use native.Mathlib.Nat.{add-zero, zero-add, mod-lt, zero-mul, mul-one, suc-mul, div-add-mod', div-lt_iff_lt-mul}
use lib.Arith.{digits_div, digits_mod}
use lib.ListN.{length, get_or, set, take, drop, replicate, length-drop, length-append, get_or-append}
use lib.Seq.{get_or-append-add, get_or-drop, get_or-take, length-take-le, ext_get_or}
use Rattle.std.proofs.lemmas.List.{length-replicate, get_or-replicate}
use Rattle.whole.specs.Lists.{list_of, length_from, get_d_from}
use Rattle.reading.specs.Tests.{over}
use Rattle.jpeg_render_row.specs.Drawn.{written, pixels}
use Rattle.jpeg_render_row.proofs.Drawing.{length_written, written_in, written_before, written_behind, written_cong, written_join}
use Rattle.jpeg_render.specs.Drawn.{rows}

-- a list from its first place on is what was written, and then the old tail
written_over : (f : ℕ → ℕ) (n : ℕ) (d : List ℕ) → n ≤ length d → written f 0 n d ≡ list_of n f ++ drop n d
written_over f n d l = ext_get_or 0 (written f 0 n d) (list_of n f ++ drop n d) same each
  where
    same : length (written f 0 n d) ≡ length (list_of n f ++ drop n d)
    same = simp (length_written, length-append, length_from, length-drop) (omega arith)

    each : (i : ℕ) → i < length (written f 0 n d) → get_or (written f 0 n d) i 0 ≡ get_or (list_of n f ++ drop n d) i 0
    each i h = go (dec_lt i n)
      where
        go : Dec (i < n) → get_or (written f 0 n d) i 0 ≡ get_or (list_of n f ++ drop n d) i 0
        go (yes p) =
            subst (λ k. get_or (written f 0 n d) k 0 ≡ f i) (zero-add i) (written_in f 0 n d i p (omega arith))
            ∙ sym (get_or-append (list_of n f) (drop n d) 0 i (omega (arith, length_from f 0 n))
            ∙ get_d_from f 0 n i 0 p ∙ ap f (zero-add i))
        go (no p) =
            let q : n + (i - n) ≡ i = omega arith in
            let e : length (list_of n f) + (i - n) ≡ i = omega (arith, length_from f 0 n) in
            written_behind f 0 n d i (omega arith)
            ∙ sym (subst (λ k. get_or (list_of n f ++ drop n d) k 0 ≡ get_or (drop n d) (i - n) 0) e (get_or-append-add (list_of n f) (drop n d) (i - n) 0)
            ∙ get_or-drop n d (i - n) 0 ∙ ap (λ k. get_or d k 0) q)

-- ---- rows

-- pixel by pixel or byte by byte
pixels_are : (p : ℕ → ℕ → ℕ) (channels a n : ℕ) (d : List ℕ) → 0 < channels
    → pixels p channels a n d ≡ written (λ k. p (k / channels) (k % channels)) a (n * channels) d
unfolding pixels written
pixels_are p channels a zero d h = ap (λ k. written (λ j. p (j / channels) (j % channels)) a k d) (sym (zero-mul channels))
pixels_are p channels a (suc n) d h =
    ap (written (p n) (a + n * channels) channels) (pixels_are p channels a n d h)
    ∙ written_cong (p n) (λ i. f (n * channels + i)) (a + n * channels) channels (written f a (n * channels) d) here
    ∙ written_join f a (n * channels) channels d
    ∙ ap (λ k. written f a k d) (sym (suc-mul n channels))
  where
    f : ℕ → ℕ
    f k = p (k / channels) (k % channels)

    here : (i : ℕ) → i < channels → p n i ≡ f (n * channels + i)
    here i l = ap₂ p (sym (digits_div n l)) (sym (digits_mod n l))

rows_are : (p : ℕ → ℕ → ℕ → ℕ) (channels width n : ℕ) (d : List ℕ) → 0 < channels
    → rows p channels width n d ≡ written (λ k. p (k / channels / width) (k / channels % width) (k % channels)) 0 (n * (width * channels)) d
unfolding rows written
rows_are p channels width zero d h =
    ap (λ k. written (λ j. p (j / channels / width) (j / channels % width) (j % channels)) 0 k d) (sym (zero-mul (width * channels)))
rows_are p channels width (suc n) d h =
    ap (pixels (p n) channels (n * (width * channels)) width) (rows_are p channels width n d h)
    ∙ pixels_are (p n) channels (n * (width * channels)) width (written f 0 (n * (width * channels)) d) h
    ∙ written_cong (λ k. p n (k / channels) (k % channels)) (λ i. f (n * (width * channels) + i)) (n * (width * channels)) (width * channels)
    (written f 0 (n * (width * channels)) d) here
    ∙ ap (λ k. written (λ i. f (n * (width * channels) + i)) k (width * channels) (written f 0 (n * (width * channels)) d)) (sym (zero-add (n * (width * channels))))
    ∙ written_join f 0 (n * (width * channels)) (width * channels) d
    ∙ ap (λ k. written f 0 k d) (sym (suc-mul n (width * channels)))
  where
    f : ℕ → ℕ
    f k = p (k / channels / width) (k / channels % width) (k % channels)

    here : (i : ℕ) → i < width * channels → p n (i / channels) (i % channels) ≡ f (n * (width * channels) + i)
    here i l =
        let x : i / channels < width = (div-lt_iff_lt-mul h).1 l in
        let e : n * (width * channels) + i ≡ (n * width + i / channels) * channels + i % channels = omega (arith, div-add-mod' i channels) in
        let q : (n * (width * channels) + i) / channels ≡ n * width + i / channels = ap (λ k. k / channels) e ∙ digits_div (n * width + i / channels) (mod-lt i h) in
        let r : (n * (width * channels) + i) % channels ≡ i % channels = ap (λ k. k % channels) e ∙ digits_mod (n * width + i / channels) (mod-lt i h) in
        rw (q, r, digits_div n x, digits_mod n x)

pub no_rows : (p : ℕ → ℕ → ℕ → ℕ) (channels width : ℕ) (d : List ℕ) → rows p channels width 0 d ≡ d
unfolding rows
no_rows p channels width d = refl

pub row_more : (p : ℕ → ℕ → ℕ → ℕ) (channels width n : ℕ) (d e : List ℕ) → e ≡ rows p channels width n d
    → pixels (p n) channels (n * (width * channels)) width e ≡ rows p channels width (n + 1) d
unfolding rows
row_more p channels width n d e before = rw (add-one n) (ap (pixels (p n) channels (n * (width * channels)) width) before)

-- the rows of a picture, over an old buffer
pub rows_over : (p : ℕ → ℕ → ℕ → ℕ) (channels width n k : ℕ) (d : List ℕ) → 0 < channels → k ≡ n * (width * channels) → k ≤ length d
    → rows p channels width n d ≡ over (list_of k (λ i. p (i / channels / width) (i / channels % width) (i % channels))) d
rows_over p channels width n k d h e l =
    rows_are p channels width n d h
    ∙ ap (λ j. written f 0 j d) (sym e)
    ∙ written_over f k d l
    ∙ ap (λ j. list_of k f ++ drop j d) (sym (length_from f 0 k))
  where
    f : ℕ → ℕ
    f i = p (i / channels / width) (i / channels % width) (i % channels)

-- ---- the code's stores

-- channel by channel
pub written_none : (f : ℕ → ℕ) (a : ℕ) (d : List ℕ) → d ≡ written f a 0 d
unfolding written
written_none f a d = refl

pub written_next : (f : ℕ → ℕ) (a n : ℕ) (d e : List ℕ) {x : ℕ} → e ≡ written f a n d → x ≡ f n → set e (a + n) x ≡ written f a (n + 1) d
unfolding written
written_next f a n d e p q = rw (add-one n, p, q)

one_of : (f : ℕ → ℕ) (a n : ℕ) (d : List ℕ) {x : ℕ} → x ≡ f 0 → set d (a + n) x ≡ written f (a + n * 1) 1 d
unfolding written
one_of f a n d p = rw (add-zero, mul-one, p)

-- ---- a part of a buffer that is written at once

read_behind : (u v : List ℕ) (i k : ℕ) → i ≡ length u + k → get_or (u ++ v) i 0 ≡ get_or v k 0
read_behind u v i k e = rw e (get_or-append-add u v k 0)

-- a list in the place of a part of the buffer that is as long
pub put_written : (f : ℕ → ℕ) (a n : ℕ) (d ys : List ℕ) → a + n ≤ length d → length ys ≡ n → ((i : ℕ) → i < n → get_or ys i 0 ≡ f i)
    → take a d ++ (ys ++ drop n (drop a d)) ≡ written f a n d
put_written f a n d ys room many says =
    ext_get_or 0 (take a d ++ (ys ++ drop n (drop a d))) (written f a n d) same (λ i _. each i (dec_lt i a))
  where
    front : length (take a d) ≡ a
    front = length-take-le a d (omega arith)

    same : length (take a d ++ (ys ++ drop n (drop a d))) ≡ length (written f a n d)
    same = simp (length_written, length-append, length-drop) (omega (arith, front, many))

    behind : (k : ℕ) → Dec (k < n) → get_or (ys ++ drop n (drop a d)) k 0 ≡ get_or (written f a n d) (a + k) 0
    behind k (yes p) = get_or-append ys (drop n (drop a d)) 0 k (omega (arith, many)) ∙ says k p ∙ sym (written_in f a n d k p room)
    behind k (no p) =
        let e : k ≡ length ys + (k - n) = omega (arith, many) in
        let here : a + (n + (k - n)) ≡ a + k = omega arith in
        read_behind ys (drop n (drop a d)) k (k - n) e
        ∙ get_or-drop n (drop a d) (k - n) 0
        ∙ get_or-drop a d (n + (k - n)) 0
        ∙ ap (λ j. get_or d j 0) here
        ∙ sym (written_behind f a n d (a + k) (omega arith))

    each : (i : ℕ) → Dec (i < a) → get_or (take a d ++ (ys ++ drop n (drop a d))) i 0 ≡ get_or (written f a n d) i 0
    each i (yes p) =
        get_or-append (take a d) (ys ++ drop n (drop a d)) 0 i (omega (arith, front)) ∙ get_or-take a d i 0 p ∙ sym (written_before f a n d i p)
    each i (no p) =
        let e : i ≡ length (take a d) + (i - a) = omega (arith, front) in
        let here : a + (i - a) ≡ i = omega arith in
        read_behind (take a d) (ys ++ drop n (drop a d)) i (i - a) e
        ∙ behind (i - a) (dec_lt (i - a) n)
        ∙ ap (λ j. get_or (written f a n d) j 0) here

-- n bytes copied from a place of one list to a place of another
pub copied : (s d ys : List ℕ) (from a k l n : ℕ) → from + n ≤ length s → a + n ≤ length d → k ≡ n → l ≡ n → ys ≡ take k (drop from s)
    → take a d ++ (ys ++ drop l (drop a d)) ≡ written (λ j. get_or s (from + j) 0) a n d
copied s d ys from a k l n read room p q e =
    rw (q, e, p)
    (put_written (λ j. get_or s (from + j) 0) a n d (take n (drop from s)) room
    (length-take-le n (drop from s) (omega (arith, length-drop from s)))
    (λ i h. get_or-take n (drop from s) i 0 h ∙ get_or-drop from s i 0))

-- one byte at n places
pub filled : (x a k l n : ℕ) (d ys : List ℕ) → a + n ≤ length d → k ≡ n → l ≡ n → ys ≡ replicate (length (take k (drop a d))) x
    → take a d ++ (ys ++ drop l (drop a d)) ≡ written (λ _. x) a n d
filled x a k l n d ys room p q e =
    let many : length (take n (drop a d)) ≡ n = length-take-le n (drop a d) (omega (arith, length-drop a d)) in
    rw (q, e, p, many)
    (put_written (λ _. x) a n d (replicate n x) room (length-replicate n x) (λ i h. get_or-replicate n i x 0 h))

-- pixels of one channel are bytes
pub pixels_one : (p : ℕ → ℕ → ℕ) (a n : ℕ) (d : List ℕ) → written (λ i. p i 0) a n d ≡ pixels p 1 a n d
unfolding written pixels
pixels_one p a zero d = refl
pixels_one p a (suc n) d =
    one_of (p n) a n (written (λ i. p i 0) a n d) refl ∙ ap (written (p n) (a + n * 1) 1) (pixels_one p a n d)

-- n pixels of one channel, written one by one from the start of a buffer
pub front_next : (f : ℕ → ℕ) (n : ℕ) (d e : List ℕ) {x : ℕ} → e ≡ written f 0 n d → x ≡ f n → set e n x ≡ written f 0 (n + 1) d
front_next f n d e {x} p q = ap (λ k. set e k x) (sym (zero-add n)) ∙ written_next f 0 n d e p q

pub front_pixels : (s d : List ℕ) (from k n : ℕ) {e : List ℕ} → e ≡ written (λ j. get_or s (from + j) 0) 0 k d → k ≡ n
    → e ≡ pixels (λ i c. get_or s (from + i) 0) 1 0 n d
front_pixels s d from k n p q = p ∙ ap (λ m. written (λ j. get_or s (from + j) 0) 0 m d) q ∙ pixels_one (λ i c. get_or s (from + i) 0) 0 n d
