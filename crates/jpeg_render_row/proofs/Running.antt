-- A run: the stores of a pixel's channels, in colour or as the samples are; which buffer is left; and a run in a part of a buffer.
use Prim.Native.Nat.{ℕ, ◌+◌, ◌*◌, ◌-◌, ◌<◌, ◌≤◌}
use mathlib.Core.Path.{◌≡◌, ap, ◌∙◌}
use mathlib.Core.Bool.{Bool, true, false}
use mathlib.Core.List.{List, ◌++◌}
use native.Mathlib.Omega.{arith}
use borrow.Author.Tests.{le-leb, lt-leb}
use lib.ListN.{length, set, take, drop, length-drop}
use lib.Seq.{length-take-le}
use Rattle.reading.specs.Colour.{red, green, blue}
use Rattle.jpeg_render_row.specs.Drawn.{written, pixels}
use Rattle.jpeg_render_row.specs.Runs.{three, shown, in_run, run}
use Rattle.jpeg_render_row.proofs.Drawing.{three_channels, pixels_in_part}

-- the stores of a pixel's channels
module _ (y b r : ℕ) {colour : Bool} where
  pub in_colour : colour ≡ true → (a : ℕ) (d : List ℕ) {k l m : ℕ} → k ≡ red y r → l ≡ green y b r → m ≡ blue y b
      → set (set (set d a k) (a + 1) l) (a + 2) m ≡ written (shown colour (three y b r)) a 3 d
  in_colour e a d p q s = three_channels (shown colour (three y b r)) a d (rw e p) (rw e q) (rw e s)

  pub as_they_are :
      colour ≡ false
      → (a : ℕ) (d : List ℕ)
      → set (set (set d a y) (a + 1) b) (a + 2) r ≡ written (shown colour (three y b r)) a 3 d
  as_they_are e a d = three_channels (shown colour (three y b r)) a d (rw e) (rw e) (rw e)

-- the buffer that is left
module _ (luma cb cr : List ℕ) (n : ℕ) (colour : Bool) (d : List ℕ) where
  pub run_long : 32 < n → run luma cb cr n colour d ≡ d
  unfolding run
  run_long h = rw (lt-leb _ _ h)

  module _ (short : n ≤ 32) where
    pub run_cut : length d < n * 3 → run luma cb cr n colour d ≡ d
    unfolding run
    run_cut h = rw (le-leb _ _ short, lt-leb _ _ h)

    pub run_drawn : n * 3 ≤ length d → run luma cb cr n colour d ≡ pixels (in_run luma cb cr colour) 3 0 n d
    unfolding run
    run_drawn h = rw (le-leb _ _ short, le-leb _ _ h)

-- a run drawn in the part of a buffer that it fills is drawn from that place on
pub run_in_part : (luma cb cr : List ℕ) (n : ℕ) (colour : Bool) (a e : ℕ) (d : List ℕ) {ys : List ℕ}
    → n ≤ 32
    → e ≡ a + n * 3
    → e ≤ length d
    → ys ≡ run luma cb cr n colour (take (e - a) (drop a d))
    → take a d ++ (ys ++ drop (e - a) (drop a d)) ≡ pixels (in_run luma cb cr colour) 3 a n d
run_in_part luma cb cr n colour a e d short end room is =
    ap (λ (l : List ℕ). take a d ++ (l ++ drop (e - a) (drop a d)))
    (is ∙ run_drawn luma cb cr n colour (take (e - a) (drop a d)) short (omega (arith, part)))
    ∙ pixels_in_part (in_run luma cb cr colour) 3 a (e - a) n d (omega arith) (omega arith)
  where
    part : length (take (e - a) (drop a d)) ≡ e - a
    part = length-take-le (e - a) (drop a d) (omega (arith, length-drop a d))
