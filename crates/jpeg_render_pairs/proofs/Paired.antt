-- Which buffer `tinted` leaves; and pixels tinted in a part of a buffer.
use Prim.Native.Nat.{ℕ, ◌+◌, ◌*◌, ◌-◌, ◌<◌, ◌≤◌}
use mathlib.Core.Path.{◌≡◌, ap, ◌∙◌}
use mathlib.Core.List.{List, ◌++◌}
use native.Mathlib.Omega.{arith}
use borrow.Author.Tests.{le-leb, lt-leb}
use lib.ListN.{length, take, drop, length-drop}
use lib.Seq.{length-take-le}
use Rattle.jpeg_render_row.specs.Drawn.{pixels}
use Rattle.jpeg_render_row.proofs.Drawing.{pixels_in_part}
use Rattle.jpeg_render_pairs.specs.Tinted.{in_pairs, tinted}

module _ (luma cb cr : List ℕ) (n : ℕ) (d : List ℕ) where
  pub few_cb : length cb < 8 → tinted luma cb cr n d ≡ d
  unfolding tinted
  few_cb h = rw (lt-leb _ _ h)

  module _ (first : 8 ≤ length cb) where
    pub few_cr : length cr < 8 → tinted luma cb cr n d ≡ d
    unfolding tinted
    few_cr h = rw (le-leb _ _ first, lt-leb _ _ h)

    module _ (second : 8 ≤ length cr) where
      pub tinted_long : 16 < n → tinted luma cb cr n d ≡ d
      unfolding tinted
      tinted_long h = rw (le-leb _ _ first, le-leb _ _ second, lt-leb _ _ h)

      module _ (short : n ≤ 16) where
        pub tinted_cut : length d < n * 3 → tinted luma cb cr n d ≡ d
        unfolding tinted
        tinted_cut h = rw (le-leb _ _ first, le-leb _ _ second, le-leb _ _ short, lt-leb _ _ h)

        pub tinted_drawn : n * 3 ≤ length d → tinted luma cb cr n d ≡ pixels (in_pairs luma cb cr) 3 0 n d
        unfolding tinted
        tinted_drawn h = rw (le-leb _ _ first, le-leb _ _ second, le-leb _ _ short, le-leb _ _ h)

-- pixels tinted in the part of a buffer that they fill are drawn from that place on
pub tinted_in_part : (luma cb cr : List ℕ) (n a e : ℕ) (d : List ℕ) {ys : List ℕ}
    → 8 ≤ length cb
    → 8 ≤ length cr
    → n ≤ 16
    → e ≡ a + n * 3
    → e ≤ length d
    → ys ≡ tinted luma cb cr n (take (e - a) (drop a d))
    → take a d ++ (ys ++ drop (e - a) (drop a d)) ≡ pixels (in_pairs luma cb cr) 3 a n d
tinted_in_part luma cb cr n a e d first second short end room is =
    ap (λ (l : List ℕ). take a d ++ (l ++ drop (e - a) (drop a d)))
    (is ∙ tinted_drawn luma cb cr n (take (e - a) (drop a d)) first second short (omega (arith, part)))
    ∙ pixels_in_part (in_pairs luma cb cr) 3 a (e - a) n d (omega arith) (omega arith)
  where
    part : length (take (e - a) (drop a d)) ≡ e - a
    part = length-take-le (e - a) (drop a d) (omega (arith, length-drop a d))
