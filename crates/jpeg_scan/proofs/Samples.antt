-- The samples of blocks in the scratch: one block's, and those of blocks one after another.
use mathlib.Core.List.{List, [], ◌∷◌, ◌++◌, append_assoc, append-nil}
use mathlib.Core.Path.{◌≡◌, refl, sym, ◌∙◌, ap, ap₂}
use mathlib.Core.Bool.{Bool, true, false, cond}
use Prim.Native.Nat.{ℕ, ◌+◌, ◌*◌, ◌/◌, ◌<◌, ◌≤◌}
use native.Mathlib.Omega.{arith}
use lib.Dec.{ltb}
use lib.ListN.{length, take, drop, length-append, length-take, length-drop, take-append-drop, drop_of_length-le}
use lib.Seq.{length-take-le, take_at, drop_at, drop-drop}
use lib.IntN.{ℤ}
use borrow.Author.Tests.{lt-ltb, le-ltb}
use Rattle.reading.specs.Tests.{◌and◌}
use Rattle.reading.specs.Code.Places.{places}
use Rattle.reading.specs.Layout.{Shape, channel_of}
use Rattle.reading.specs.Transform.{coefficients, samples}
use Rattle.reading.specs.Code.Painted.{samples_to, painted}
use Rattle.reading.proofs.Counted.{samples_from, samples_to_length, samples_from_length, samples_from_append}
use Rattle.reading.proofs.Reach.{samples_enough}
use Rattle.jpeg_scan.specs.Steps.{placed, inked}

-- a part of 64 bytes holds the samples and nothing else
painted_is : (q : List ℕ) (l : List ℤ) (n : ℕ) (out : List ℕ) → length out ≡ 64 → painted q l n out ≡ samples_to q l n
unfolding painted
painted_is q l n out e =
    rw (le-ltb (length out) 64 (omega arith))
    (ap (λ (r : List ℕ). samples_to q l n ++ r) (drop_of_length-le out {i = length (samples_to q l n)} (omega (arith, samples_to_length q l n))) ∙ append-nil (samples_to q l n))

-- a part of 64 bytes that was lent, painted, and came back
pub painted_part : (q : List ℕ) (l : List ℤ) (n a w : ℕ) (old new : List ℕ) → w ≡ 64 → a + 64 ≤ length old → {x : List ℕ} → x ≡ q → new ≡ painted x l n (take w (drop a old))
    → take a old ++ (new ++ drop w (drop a old)) ≡ placed a (samples_to q l n) old
unfolding placed
painted_part q l n a w old new e h {x} u g =
    let size : length (take w (drop a old)) ≡ 64 = length-take w (drop a old) ∙ omega (arith, length-drop a old) in
    let is : new ≡ samples_to q l n = g ∙ ap (λ (y : List ℕ). painted y l n (take w (drop a old))) u ∙ painted_is q l n (take w (drop a old)) size in
    let sum : a + w ≡ a + length (samples_to q l n) = omega (arith, samples_to_length q l n) in
    ap₂ (λ (x y : List ℕ). take a old ++ (x ++ y)) is (drop-drop w a old ∙ ap (λ (k : ℕ). drop k old) sum)

placed_none : (a : ℕ) (old : List ℕ) → placed a [] old ≡ old
unfolding placed
placed_none a old = let z : a + 0 ≡ a = omega arith in rw z (take-append-drop a old)

placed_placed : (a : ℕ) (xs ys old : List ℕ) → a ≤ length old → placed (a + length xs) ys (placed a xs old) ≡ placed a (xs ++ ys) old
unfolding placed
placed_placed a xs ys old h =
    let head : List ℕ = take a old ++ xs in
    let tail : List ℕ = drop (a + length xs) old in
    let size : length head ≡ a + length xs = length-append (take a old) xs ∙ ap (λ (k : ℕ). k + length xs) (length-take-le a old h) in
    let whole : take a old ++ (xs ++ tail) ≡ head ++ tail = sym (append_assoc (take a old) xs tail) in
    let front : take (a + length xs) (head ++ tail) ≡ head = take_at head tail (a + length xs) size in
    let sum : a + length xs + length ys ≡ a + length (xs ++ ys) = omega (arith, length-append xs ys) in
    let back : drop (a + length xs + length ys) (head ++ tail) ≡ drop (a + length (xs ++ ys)) old =
    sym (drop-drop (length ys) (a + length xs) (head ++ tail)) ∙ ap (drop (length ys)) (drop_at head tail (a + length xs) size)
    ∙ drop-drop (length ys) (a + length xs) old ∙ ap (λ (k : ℕ). drop k old) sum in
    ap (λ (l : List ℕ). take (a + length xs) l ++ (ys ++ drop (a + length xs + length ys) l)) whole
    ∙ ap₂ (λ (f b : List ℕ). f ++ (ys ++ b)) front back
    ∙ append_assoc (take a old) xs (ys ++ drop (a + length (xs ++ ys)) old)
    ∙ ap (λ (l : List ℕ). take a old ++ l) (sym (append_assoc xs ys (drop (a + length (xs ++ ys)) old)))

placed_length : (a : ℕ) (xs old : List ℕ) → a + length xs ≤ length old → length (placed a xs old) ≡ length old
unfolding placed
placed_length a xs old h =
    length-append (take a old) (xs ++ drop (a + length xs) old)
    ∙ omega (arith, length-append xs (drop (a + length xs) old), length-drop (a + length xs) old, length-take-le a old (omega arith))

-- where the scratch has room for block k its samples are written, if any are
pub painted_room :
    {A : Type 0} (write : Bool) (k n : ℕ) (x y : A)
    → (write ≡ true → 64 * k + 64 ≤ n)
    → cond (write and ltb k (n / 64)) x y ≡ cond write x y
painted_room true k n x y h = rw (lt-ltb k (n / 64) (omega (arith, h refl))) refl
painted_room false k n x y h = refl

pub painted_there :
    {A : Type 0} (write : Bool) (k n : ℕ) (y : A) {new x : A}
    → write ≡ true
    → k < n / 64
    → new ≡ x
    → (new ≡ cond (write and ltb k (n / 64)) x y) × ((write ≡ true → 64 * k + 64 ≤ n) → new ≡ cond write x y)
painted_there write k n y u l e = (rw (u, lt-ltb k (n / 64) l) e, λ h. rw u e)

pub painted_length : (write : Bool) (k : ℕ) (q : List ℕ) (l : List ℤ) (n : ℕ) (old : List ℕ) → (write ≡ true → 64 * k + 64 ≤ length old)
    → length (cond write (placed (64 * k) (samples_to q l n) old) old) ≡ length old
painted_length true k q l n old h = placed_length (64 * k) (samples_to q l n) old (omega (arith, samples_to_length q l n, h refl))
painted_length false k q l n old h = refl

module _ (p : Shape) (quant : ℕ → List ℕ) where
  pub inked_not : (k : ℕ) (ls : List (List ℤ)) (old : List ℕ) → inked false p quant k ls old ≡ old
  unfolding inked
  inked_not k ls old = refl

  pub inked_none : (write : Bool) (k : ℕ) (old : List ℕ) → inked write p quant k [] old ≡ old
  unfolding inked
  inked_none false k old = refl
  inked_none true k old = placed_none (64 * k) old

  -- blocks, and then blocks behind them
  pub inked_more : (write : Bool) (k : ℕ) (ls ms : List (List ℤ)) (old : List ℕ) → (write ≡ true → 64 * k ≤ length old)
      → inked write p quant (k + length ls) ms (inked write p quant k ls old) ≡ inked write p quant k (ls ++ ms) old
  unfolding inked
  inked_more false k ls ms old h = refl
  inked_more true k ls ms old h =
      let z : 64 * (k + length ls) ≡ 64 * k + length (samples_from p quant k ls) = omega (arith, samples_from_length p quant k ls) in
      ap (λ (a : ℕ). placed a (samples_from p quant (k + length ls) ms) (placed (64 * k) (samples_from p quant k ls) old)) z
      ∙ placed_placed (64 * k) (samples_from p quant k ls) (samples_from p quant (k + length ls) ms) old (h refl)
      ∙ ap (λ (l : List ℕ). placed (64 * k) l old) (sym (samples_from_append p quant k ls ms))

  -- one block, as the code paints it
  pub inked_one : (write : Bool) (k c : ℕ) (q : List ℕ) (l : List ℤ) (reach : ℕ) (old : List ℕ)
      → channel_of p k ≡ c → quant c ≡ q → reach ≡ places l
      → cond write (placed (64 * k) (samples_to q l reach) old) old ≡ inked write p quant k (l ∷ []) old
  unfolding inked
  inked_one false k c q l reach old u v e = refl
  inked_one true k c q l reach old u v e =
      ap (λ (x : List ℕ). placed (64 * k) x old)
      (ap (samples_to q l) e ∙ samples_enough l q ∙ ap (λ (x : List ℕ). samples (coefficients x l)) (sym v)
      ∙ ap (λ (d : ℕ). samples (coefficients (quant d) l)) (sym u) ∙ sym (append-nil (samples (coefficients (quant (channel_of p k)) l))))
