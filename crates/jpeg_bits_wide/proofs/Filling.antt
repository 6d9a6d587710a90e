-- Filling a cursor up, in the code's terms: one law for each way through a data byte, and a cursor on the way.
use Rattle.std.proofs.Common.{◌≡◌, ℕ, zero, suc, ◌+◌, ◌-◌, ◌*◌, ◌%◌, ◌^◌, ◌<◌, ◌≤◌, List, length, get_or, sym, refl, ap, ◌∙◌, not-suc-le-zero, sub-one, arith, eq-eqb, ne_eqb, le-leb}
use borrow.Author.Tests.{lt-leb}
use Rattle.reading.proofs.FileBytes.{element_in, element_out}
use Rattle.jpeg_bits_wide.specs.declared.Wide.{Wide}
use Rattle.jpeg_bits_wide.specs.Cursor.{joined, byte_more, bytes_more, filled}

-- ---- one data byte

module _ (s : List ℕ) (w : Wide) where
  pub more_full : 56 < w.left → byte_more s w ≡ w
  unfolding byte_more
  more_full h = rw (lt-leb _ _ h)

  module _ (room : w.left ≤ 56) where
    pub more_out : length s ≤ w.at → byte_more s w ≡ w
    unfolding byte_more
    more_out h = rw (le-leb _ _ room, element_out s w.at h)

    module _ (there : w.at < length s) where
      pub more_data : (get_or s w.at 0 ≡ 255 → ⊥) → byte_more s w ≡ joined w (get_or s w.at 0) (w.at + 1)
      unfolding byte_more
      more_data n = rw (le-leb _ _ room, element_in s w.at there, ne_eqb _ _ n)

      module _ (full : get_or s w.at 0 ≡ 255) where
        pub more_last : length s ≤ w.at + 1 → byte_more s w ≡ w
        unfolding byte_more
        more_last o = rw (le-leb _ _ room, element_in s w.at there, eq-eqb _ _ full, element_out s (w.at + 1) o)

        module _ (next : w.at + 1 < length s) where
          pub more_bare : (get_or s (w.at + 1) 0 ≡ 0 → ⊥) → byte_more s w ≡ w
          unfolding byte_more
          more_bare n = rw (le-leb _ _ room, element_in s w.at there, eq-eqb _ _ full, element_in s (w.at + 1) next, ne_eqb _ _ n)

          pub more_stuffed : get_or s (w.at + 1) 0 ≡ 0 → byte_more s w ≡ joined w (get_or s w.at 0) (w.at + 2)
          unfolding byte_more
          more_stuffed z =
              rw (le-leb _ _ room, element_in s w.at there, eq-eqb _ _ full, element_in s (w.at + 1) next, eq-eqb _ _ z)
              (ap (λ x. joined w x (w.at + 2)) (sym full))

-- where no byte comes, none comes later
pub stuck : (s : List ℕ) (n : ℕ) (w : Wide) → byte_more s w ≡ w → bytes_more s n w ≡ w
unfolding bytes_more
stuck s zero w e = refl
stuck s (suc n) w e = ap (bytes_more s n) e ∙ stuck s n w e

-- ---- on the way

abbrev pub cursor : ℕ → ℕ → ℕ → Wide
cursor at acc left = record { at = at; acc = acc; left = left }

pub record Filling (s : List ℕ) (w here : Wide) : Type 0 where
  pub turns : ℕ
  pub enough : 57 ≤ here.left + 8 * turns
  pub same : filled s w ≡ bytes_more s turns here

pub filling_begun : (s : List ℕ) (w : Wide) → Filling s w w
unfolding filled
filling_begun s w = record { turns = 8; enough = omega arith; same = refl }

pub filling_over : {s : List ℕ} {w here : Wide} → Filling s w here → byte_more s here ≡ here → here ≡ filled s w
filling_over {s} {w} {here} f e = sym (f.same ∙ stuck s f.turns here e)

once : (s : List ℕ) (n : ℕ) (w : Wide) → 0 < n → bytes_more s n w ≡ bytes_more s (n - 1) (byte_more s w)
unfolding bytes_more
once s zero w h = absurd (not-suc-le-zero h)
once s (suc n) w h = rw sub-one

pub filling_on :
    {s : List ℕ} {w : Wide} {at acc left : ℕ}
    → Filling s w (cursor at acc left)
    → left ≤ 56
    → (x : ℕ) {y at' acc' : ℕ}
    → byte_more s (cursor at acc left) ≡ joined (cursor at acc left) x at'
    → y ≡ x * 2 ^ (56 - left)
    → acc' ≡ (acc + y) % 2 ^ 64
    → Filling s w (cursor at' acc' (left + 8))
filling_on {s} {w} {at} {acc} {left} f room x {y} {at'} {acc'} e g a =
    record {
      turns = f.turns - 1;
      enough = omega (arith, f.enough);
      same = f.same ∙ once s f.turns (cursor at acc left) (omega (arith, f.enough)) ∙ ap (bytes_more s (f.turns - 1)) (e ∙ there);
    }
  where
    there : joined (cursor at acc left) x at' ≡ cursor at' acc' (left + 8)
    there = ap (λ k. cursor at' k (left + 8)) (sym (a ∙ ap (λ k. (acc + k) % 2 ^ 64) g))
