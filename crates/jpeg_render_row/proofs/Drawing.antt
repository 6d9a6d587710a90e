-- Laws of buffers with pixels written into them: one more byte, one pixel, more pixels, and pixels written into a part of a buffer.
use Prim.Native.Nat.{ℕ, zero, suc, ◌+◌, ◌*◌, ◌<◌, ◌≤◌}
use mathlib.Core.Path.{◌≡◌, refl, sym, ap, ap₂, ◌∙◌}
use mathlib.Core.List.{List, [], ◌∷◌, ◌++◌}
use native.Mathlib.Omega.{arith}
use native.Mathlib.Decide.{ℕ_discrete}
use native.Mathlib.Numerals.{add-one}
use native.Mathlib.Nat.{add_assoc, add-zero, zero-add, add-suc, suc-add}
use lib.ListN.{length, get_or, set, take, drop, length-set, length-drop, take-append-drop}
use lib.Seq.{get_or-set_same, get_or-set_other, set-append_left, length-take-le}
use Rattle.jpeg_render_row.specs.Drawn.{written, pixels}

-- ---- written

pub length_written : (f : ℕ → ℕ) (a n : ℕ) (d : List ℕ) → length (written f a n d) ≡ length d
unfolding written
length_written f a zero d = refl
length_written f a (suc n) d = length-set (written f a n d) (a + n) (f n) ∙ length_written f a n d

-- what is written is read
pub written_in : (f : ℕ → ℕ) (a n : ℕ) (d : List ℕ) (i : ℕ)
    → i < n
    → a + n ≤ length d
    → get_or (written f a n d) (a + i) 0 ≡ f i
unfolding written
written_in f a zero d i h l = let z : ⊥ = omega arith in absurd z
written_in f a (suc n) d i h l = go (ℕ_discrete i n) (λ p. written_in f a n d i p (omega arith))
  where
    go : Dec (i ≡ n) → (i < n → get_or (written f a n d) (a + i) 0 ≡ f i) → get_or (set (written f a n d) (a + n) (f n)) (a + i) 0 ≡ f i
    go (yes e) before = rw e (get_or-set_same (written f a n d) (a + n) (f n) 0 (omega (arith, length_written f a n d)))
    go (no e) before = get_or-set_other (written f a n d) (a + n) (a + i) (f n) 0 (omega arith) ∙ before (omega arith)

-- and all else is as it was
pub written_before : (f : ℕ → ℕ) (a n : ℕ) (d : List ℕ) (i : ℕ) → i < a → get_or (written f a n d) i 0 ≡ get_or d i 0
unfolding written
written_before f a zero d i h = refl
written_before f a (suc n) d i h = get_or-set_other (written f a n d) (a + n) i (f n) 0 (omega arith) ∙ written_before f a n d i h

pub written_behind : (f : ℕ → ℕ) (a n : ℕ) (d : List ℕ) (i : ℕ) → a + n ≤ i → get_or (written f a n d) i 0 ≡ get_or d i 0
unfolding written
written_behind f a zero d i h = refl
written_behind f a (suc n) d i h = get_or-set_other (written f a n d) (a + n) i (f n) 0 (omega arith) ∙ written_behind f a n d i (omega arith)

pub written_cong : (f g : ℕ → ℕ) (a n : ℕ) (d : List ℕ) → ((i : ℕ) → i < n → f i ≡ g i) → written f a n d ≡ written g a n d
unfolding written
written_cong f g a zero d h = refl
written_cong f g a (suc n) d h = ap₂ (λ l x. set l (a + n) x) (written_cong f g a n d (λ i p. h i (omega arith))) (h n (omega arith))

pub written_join : (f : ℕ → ℕ) (a m n : ℕ) (d : List ℕ) → written (λ i. f (m + i)) (a + m) n (written f a m d) ≡ written f a (m + n) d
unfolding written
written_join f a m zero d = rw add-zero
written_join f a m (suc n) d = rw (add-suc m n) (ap₂ (λ l k. set l k (f (m + n))) (written_join f a m n d) (add_assoc a m n))

-- ---- pixels

pub length_pixels : (p : ℕ → ℕ → ℕ) (channels a n : ℕ) (d : List ℕ) → length (pixels p channels a n d) ≡ length d
unfolding pixels
length_pixels p channels a zero d = refl
length_pixels p channels a (suc n) d =
    length_written (p n) (a + n * channels) channels (pixels p channels a n d) ∙ length_pixels p channels a n d

pub pixels_cong : (p q : ℕ → ℕ → ℕ) (channels a n : ℕ) (d : List ℕ) → ((i c : ℕ) → i < n → c < channels → p i c ≡ q i c)
    → pixels p channels a n d ≡ pixels q channels a n d
unfolding pixels
pixels_cong p q channels a zero d h = refl
pixels_cong p q channels a (suc n) d h =
    ap (written (p n) (a + n * channels) channels) (pixels_cong p q channels a n d (λ i c k. h i c (omega arith)))
    ∙ written_cong (p n) (q n) (a + n * channels) channels (pixels q channels a n d) (λ c. h n c (omega arith))

pub pixels_join : (p : ℕ → ℕ → ℕ) (channels a m n : ℕ) (d : List ℕ)
    → pixels (λ i. p (m + i)) channels (a + m * channels) n (pixels p channels a m d) ≡ pixels p channels a (m + n) d
unfolding pixels
pixels_join p channels a m zero d = rw add-zero
pixels_join p channels a m (suc n) d =
    rw (add-suc m n)
    (ap₂ (λ k l. written (p (m + n)) k channels l) place (pixels_join p channels a m n d))
  where
    place : a + m * channels + n * channels ≡ a + (m + n) * channels
    place = omega arith

-- pixels that are the same in other words
pub pixels_same : (p q : ℕ → ℕ → ℕ) (channels a n : ℕ) (d e : List ℕ) → e ≡ pixels p channels a n d
    → ((i c : ℕ) → i < n → c < channels → p i c ≡ q i c) → e ≡ pixels q channels a n d
pixels_same p q channels a n d e here same = here ∙ pixels_cong p q channels a n d same

-- ---- a loop that writes n pixels: what holds after i of them

pub record DrawnTo (p : ℕ → ℕ → ℕ) (channels a n : ℕ) (d : List ℕ) (i : ℕ) (e : List ℕ) : Type 0 where
  pub within : i ≤ n
  pub size : length e ≡ length d
  pub here : e ≡ pixels p channels a i d

pub drawn_none : (p : ℕ → ℕ → ℕ) (channels a n : ℕ) (d : List ℕ) → DrawnTo p channels a n d 0 d
unfolding pixels
drawn_none p channels a n d = record { within = omega arith; size = refl; here = refl }

module _ {p : ℕ → ℕ → ℕ} {channels a n : ℕ} {d : List ℕ} {i : ℕ} {e : List ℕ} (before : DrawnTo p channels a n d i e) where
  -- one pixel more
  pub drawn_next : {f : List ℕ} → i < n → f ≡ written (p i) (a + i * channels) channels e → DrawnTo p channels a n d (i + 1) f
  unfolding pixels
  drawn_next l h =
      record {
        within = omega arith;
        size = ap length h ∙ length_written (p i) (a + i * channels) channels e ∙ before.size;
        here = rw (add-one i) (h ∙ ap (written (p i) (a + i * channels) channels) before.here);
      }

  -- m pixels more, in other words
  pub drawn_more : (q : ℕ → ℕ → ℕ) (m : ℕ) {f : List ℕ} → i + m ≤ n → f ≡ pixels q channels (a + i * channels) m e
      → ((j c : ℕ) → j < m → c < channels → q j c ≡ p (i + j) c) → DrawnTo p channels a n d (i + m) f
  drawn_more q m l h same =
      record {
        within = l;
        size = ap length h ∙ length_pixels q channels (a + i * channels) m e ∙ before.size;
        here =
            h ∙ ap (pixels q channels (a + i * channels) m) before.here
            ∙ pixels_cong q (λ j. p (i + j)) channels (a + i * channels) m (pixels p channels a i d) same
            ∙ pixels_join p channels a i m d;
      }

  pub drawn_all : n ≤ i → e ≡ pixels p channels a n d
  drawn_all l =
      let same : i ≡ n = omega arith in
      before.here ∙ ap (λ k. pixels p channels a k d) same

-- one pixel more, from the first place of a buffer on
pub drawn_first : {p : ℕ → ℕ → ℕ} {channels n : ℕ} {d : List ℕ} {i : ℕ} {e f : List ℕ}
    → DrawnTo p channels 0 n d i e
    → i < n
    → f ≡ written (p i) (i * channels) channels e
    → DrawnTo p channels 0 n d (i + 1) f
drawn_first {p} {channels} {n} {d} {i} {e} before l h =
    drawn_next before l (h ∙ ap (λ k. written (p i) k channels e) (sym (zero-add (i * channels))))

-- the stores of a pixel's three channels
pub three_channels : (f : ℕ → ℕ) (a : ℕ) (d : List ℕ) {x y z : ℕ}
    → x ≡ f 0
    → y ≡ f 1
    → z ≡ f 2
    → set (set (set d a x) (a + 1) y) (a + 2) z ≡ written f a 3 d
unfolding written
three_channels f a d p q r = rw (add-zero, p, q, r)

-- ---- a part of a buffer

-- a store behind the first of two lists
set_behind : (u v : List ℕ) (i x : ℕ) → set (u ++ v) (length u + i) x ≡ u ++ set v i x
set_behind [] v i x = rw zero-add
set_behind (y ∷ u) v i x = rw suc-add (ap (λ (l : List ℕ). y ∷ l) (set_behind u v i x))

written_inside : (f : ℕ → ℕ) (b n : ℕ) (u v w : List ℕ)
    → b + n ≤ length v
    → u ++ (written f b n v ++ w) ≡ written f (length u + b) n (u ++ (v ++ w))
unfolding written
written_inside f b zero u v w h = refl
written_inside f b (suc n) u v w h =
    ap (λ (l : List ℕ). u ++ l) (sym (set-append_left (written f b n v) w (b + n) (f n) room))
    ∙ sym (set_behind u (written f b n v ++ w) (b + n) (f n))
    ∙ ap₂ (λ (l : List ℕ) k. set l k (f n)) (written_inside f b n u v w (omega arith)) (sym (add_assoc (length u) b n))
  where
    room : b + n < length (written f b n v)
    room = omega (arith, length_written f b n v)

pixels_inside : (p : ℕ → ℕ → ℕ) (channels b n : ℕ) (u v w : List ℕ) → b + n * channels ≤ length v
    → u ++ (pixels p channels b n v ++ w) ≡ pixels p channels (length u + b) n (u ++ (v ++ w))
unfolding pixels
pixels_inside p channels b zero u v w h = refl
pixels_inside p channels b (suc n) u v w h =
    written_inside (p n) (b + n * channels) channels u (pixels p channels b n v) w room
    ∙ ap₂ (λ k l. written (p n) k channels l) (sym (add_assoc (length u) b (n * channels))) (pixels_inside p channels b n u v w (omega arith))
  where
    room : b + n * channels + channels ≤ length (pixels p channels b n v)
    room = omega (arith, length_pixels p channels b n v)

-- pixels written at the start of the m bytes from a on are pixels written from a on
pub pixels_in_part : (p : ℕ → ℕ → ℕ) (channels a m n : ℕ) (d : List ℕ) → a + m ≤ length d → n * channels ≤ m
    → take a d ++ (pixels p channels 0 n (take m (drop a d)) ++ drop m (drop a d)) ≡ pixels p channels a n d
pixels_in_part p channels a m n d whole room =
    pixels_inside p channels 0 n (take a d) (take m (drop a d)) (drop m (drop a d)) (omega (arith, part))
    ∙ ap₂ (λ k l. pixels p channels k n l) (add-zero (length (take a d)) ∙ length-take-le a d (omega arith)) same
  where
    part : length (take m (drop a d)) ≡ m
    part = length-take-le m (drop a d) (omega (arith, length-drop a d))

    same : take a d ++ (take m (drop a d) ++ drop m (drop a d)) ≡ d
    same = ap (λ (l : List ℕ). take a d ++ l) (take-append-drop m (drop a d)) ∙ take-append-drop a d
