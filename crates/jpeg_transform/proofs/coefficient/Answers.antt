-- A level of 16 bits by a byte fits.
use Rattle.std.proofs.Common.{ℕ, ◌≤◌, List, [], ◌∷◌, ℤ, pos, nat_abs, ◌*ℤ◌, get_or, w16, w64, to_z, of_z, to_z-of_z, ◌∙◌, ap, le_trans, arith}
use lib.Dec.{lit≤}
use lib.Signed.{nat_abs-le}
use Rattle.whole.specs.Expressions.{var, mul, at, under_nil, under_cons, exact, bounded}
use Rattle.jpeg_transform.proofs.coefficient.Goals as goal

pub returns : goal.returns
returns c =
    let read = to_z-of_z {w = w16} c.ranges.level in
    let inputs : List ℤ = to_z w16 (of_z w16 c.args.level) ∷ pos c.args.quantizer ∷ [] in
    let most : ℕ → ℕ = λ i. get_or (32768 ∷ 255 ∷ []) i 0 in
    let small : (i : ℕ) → nat_abs (at inputs i) ≤ most i =
    (under_cons 32768 (to_z w16 (of_z w16 c.args.level)) (rw read (nat_abs-le c.args.level c.ranges.level.sfits))
    (under_cons 255 (pos c.args.quantizer) (omega (arith, c.ranges.quantizer)) (under_nil {bs = []}))).each in
    let e = exact w64 (at inputs) most small (mul (var 0) (var 1)) tt in
    (e ∙ ap (λ (z : ℤ). z *ℤ pos c.args.quantizer) read, rw e (le_trans (bounded w64 (at inputs) most small (mul (var 0) (var 1))) (lit≤ tt)))
