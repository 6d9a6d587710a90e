-- A file is a list of bytes: each number of it, and of each part of it, is below 256; and what stands at a place.
use Prim.Native.Nat.{ℕ, zero, suc, ◌+◌, ◌-◌, ◌<◌, ◌≤◌}
use mathlib.Core.Path.{◌≡◌, refl, subst}
use mathlib.Core.List.{List, [], ◌∷◌}
use mathlib.Core.Option.{Option, none, some}
use native.Mathlib.Omega.{arith}
use native.Mathlib.Nat.{not-suc-le-zero, le_of_suc-le-suc}
use lib.Dec.{lit<}
use lib.ListN.{length, take, drop, get_elem?}
use Rattle.reading.specs.Header.{byte, word, window}
pub use Rattle.reading.specs.Words.{AllBytes}

pub byte_below : (l : List ℕ) → AllBytes l → (i : ℕ) → byte l i < 256
byte_below [] h i = lit< tt
byte_below (x ∷ l) h zero = h.0
byte_below (x ∷ l) h (suc i) = byte_below l h.1 i

pub word_small : (l : List ℕ) (i : ℕ) → byte l i < 256 → byte l (i + 1) < 256 → word l i < 65536
word_small l i p q = omega (arith, p, q)

pub word_below : (l : List ℕ) → AllBytes l → (i : ℕ) → word l i < 65536
word_below l h i = word_small l i (byte_below l h i) (byte_below l h (i + 1))

-- what the language knows of each entry of a slice of bytes
pub all_bytes : (l : List ℕ) → ((i : ℕ) → byte l i < 256) → AllBytes l
all_bytes [] h = tt
all_bytes (x ∷ l) h = (h 0, all_bytes l (λ i. h (suc i)))

pub bytes_take : (n : ℕ) (l : List ℕ) → AllBytes l → AllBytes (take n l)
bytes_take zero l h = tt
bytes_take (suc n) [] h = tt
bytes_take (suc n) (x ∷ l) h = (h.0, bytes_take n l h.1)

pub bytes_drop : (n : ℕ) (l : List ℕ) → AllBytes l → AllBytes (drop n l)
bytes_drop zero l h = h
bytes_drop (suc n) [] h = tt
bytes_drop (suc n) (x ∷ l) h = bytes_drop n l h.1

pub window_bytes : (s : List ℕ) (a e : ℕ) → AllBytes s → AllBytes (window s a e)
window_bytes s a e h = bytes_take (e - a) (drop a s) (bytes_drop a s h)

-- ---- what stands at a place

pub element_in : (s : List ℕ) (i : ℕ) → i < length s → get_elem? s i ≡ some (byte s i)
element_in [] i h = absurd (not-suc-le-zero h)
element_in (x ∷ s) zero h = refl
element_in (x ∷ s) (suc i) h = element_in s i (le_of_suc-le-suc h)

pub element_out : (s : List ℕ) (i : ℕ) → length s ≤ i → get_elem? s i ≡ none
element_out [] i h = refl
element_out (x ∷ s) zero h = absurd (not-suc-le-zero h)
element_out (x ∷ s) (suc i) h = element_out s i (le_of_suc-le-suc h)

-- a byte that is there
pub element_there : (l : List ℕ) (i x : ℕ) → get_elem? l i ≡ some x → i < length l
element_there [] i x e = absurd (subst is_none e tt)
  where
    is_none : Option ℕ → Type 0
    is_none none = Unit {0}
    is_none (some y) = ⊥
element_there (y ∷ l) zero x e = omega arith
element_there (y ∷ l) (suc i) x e = omega (arith, element_there l i x e)
