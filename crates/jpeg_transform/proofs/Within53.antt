-- THE INTERMEDIATES: for the levels that an accepted block can hold, -2048..2047 in every place, and any quantizer of bytes, every whole
-- number that the transform computes lies within ±2^53. Each operation of the code is one of the expressions of specs/Halves or a part of
-- one, and their sizes are computed. (That nothing leaves 64 bits, for any levels, is part of each function's proof.) Assumes nothing.
use mathlib.Core.Bool.{Bool, true}
use mathlib.Core.List.{List, [], ◌∷◌, map}
use Prim.Native.Nat.{ℕ, ◌+◌, ◌*◌, ◌≤◌, ◌^◌}
use native.Mathlib.Nat.{le_trans}
use native.Mathlib.Omega.{arith}
use lib.Dec.{T, leb, leb→le}
use lib.ListN.{get_or, take}
use lib.IntN.{ℤ, pos, negsuc, nat_abs}
use mir.Syntax.{w64}
use Rattle.whole.specs.Expressions.{Exp, var, con, op, lit, add, at, value, size, bounded, Within}
use Rattle.reading.specs.Tests.{◌and◌}
use Rattle.reading.specs.Block.{predictable}
use Rattle.reading.specs.Transform.{coefficients, row}
use Rattle.reading.proofs.Plain.{and_left, and_right}
use Rattle.jpeg_transform.specs.Halves.{by, outputs}
use Rattle.jpeg_transform.proofs.Passes.{row_small}
use Rattle.jpeg_transform.proofs.Coefficients.{coefficients_small}

-- ---- an expression with all its parts

-- an expression and each part of it lie within ±2^53
abbrev pub Near : (ℕ → ℤ) → Exp → Type 0
Near f (var i) = nat_abs (f i) ≤ 2 ^ 53
Near f (con z) = nat_abs z ≤ 2 ^ 53
Near f (op o a b) = (nat_abs (value f (op o a b)) ≤ 2 ^ 53) × Near f a × Near f b

abbrev pub AllNear : (ℕ → ℤ) → List Exp → Type 0
AllNear f [] = Unit {0}
AllNear f (e ∷ es) = Near f e × AllNear f es

-- the same of the computed sizes
abbrev near : (ℕ → ℕ) → Exp → Bool
near L (var i) = leb (L i) (2 ^ 53)
near L (con z) = leb (nat_abs z) (2 ^ 53)
near L (op o a b) = leb (size L (op o a b)) (2 ^ 53) and near L a and near L b

abbrev all_near : (ℕ → ℕ) → List Exp → Bool
all_near L [] = true
all_near L (e ∷ es) = near L e and all_near L es

module _ (f : ℕ → ℤ) (L : ℕ → ℕ) (small : (i : ℕ) → nat_abs (f i) ≤ L i) where
  is_near : (e : Exp) → T (near L e) → Near f e
  is_near (var i) t = le_trans (small i) (leb→le (L i) (2 ^ 53) t)
  is_near (con z) t = leb→le (nat_abs z) (2 ^ 53) t
  is_near (op o a b) t =
      let u = and_right (leb (size L (op o a b)) (2 ^ 53)) (near L a and near L b) t in (
        le_trans (bounded w64 f L small (op o a b))
            (leb→le (size L (op o a b)) (2 ^ 53) (and_left (leb (size L (op o a b)) (2 ^ 53)) (near L a and near L b) t)),
        is_near a (and_left (near L a) (near L b) u),
        is_near b (and_right (near L a) (near L b) u),
      )

  are_near : (es : List Exp) → T (all_near L es) → AllNear f es
  are_near [] t = tt
  are_near (e ∷ es) t = (is_near e (and_left (near L e) (all_near L es) t), are_near es (and_right (near L e) (all_near L es) t))

-- ---- the law

-- a double sum, and the middle added to it
abbrev pub moved : Exp → Exp
moved e = add e (lit 137975824384)

-- what the transform of the coefficients c computes
pub record Within53 (c : List ℤ) : Type 0 where
  -- the first pass: row v by its short way, and by halves
  pub rows : (v : ℕ) → AllNear (λ u. at c (8 * v + u)) (by (var 0) 11585 ∷ outputs)
  -- the second pass: column x, and the middle added to each of its outputs
  pub columns : (x : ℕ) → AllNear (λ v. row c v x) (map moved outputs)
  -- where the first coefficient alone counts
  pub alone : Near (at c) (moved (by (var 0) 134212225))

level_small : (z : ℤ) → T (predictable z) → nat_abs z ≤ 2048
level_small (pos n) t = omega (arith, leb→le n 2047 t)
level_small (negsuc n) t = omega (arith, leb→le n 2047 (and_left (leb n 2047) true t))

pub within_53 : (q : List ℕ) (l : List ℤ) (n : ℕ) → ((k : ℕ) → get_or q k 0 ≤ 255) → ((k : ℕ) → T (predictable (at l k)))
    → Within53 (coefficients q (take n l))
within_53 q l n bytes levels = record {
  rows = λ v. are_near (λ u. at c (8 * v + u)) (λ u. 522240) (λ u. small.each (8 * v + u)) (by (var 0) 11585 ∷ outputs) tt;
  columns = λ x. are_near (λ v. row c v x) (λ v. 68451041280) (λ v. row_small small v x) (map moved outputs) tt;
  alone = is_near (at c) (λ i. 522240) small.each (moved (by (var 0) 134212225)) tt;
}
  where
    c : List ℤ
    c = coefficients q (take n l)

    small : Within 522240 c
    small = coefficients_small q l 2048 255 n (λ k. level_small (at l k) (levels k)) bytes
