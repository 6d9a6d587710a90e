-- Inputs within 2^40 by weights within 2^14 fit at every operation.
use mathlib.Core.List.{List, [], ◌∷◌, ◌++◌}
use Prim.Native.Nat.{ℕ, ◌^◌, ◌≤◌}
use lib.Dec.{T}
use lib.IntN.{ℤ, nat_abs}
use lib.ListN.{get_or}
use mir.Syntax.{w64}
use Rattle.whole.specs.Expressions.{Exp, var, add, mul, at, safe, Fine, fine, exact, under_nil, under_cons}
use Rattle.jpeg_transform.specs.Halves.{listed, weigh, weighed}
use Rattle.jpeg_transform.proofs.weighed.Goals as goal

-- the inputs, then the weights
abbrev l : goal.After-struct_told-8-1 → List ℤ
l t = listed t.args.c ++ listed t.args.k

abbrev L : ℕ → ℕ
L i = get_or (2 ^ 40 ∷ 2 ^ 40 ∷ 2 ^ 40 ∷ 2 ^ 40 ∷ 2 ^ 14 ∷ 2 ^ 14 ∷ 2 ^ 14 ∷ 2 ^ 14 ∷ []) i 0

small : (t : goal.After-struct_told-8-1) (i : ℕ) → nat_abs (at (l t) i) ≤ L i
small t =
    let c = t.args.c in
    let k = t.args.k in
    let p = t.requires.0.each in
    let q = t.requires.1.each in
    (under_cons (2 ^ 40) c.0 (p 0) (under_cons (2 ^ 40) c.1 (p 1) (under_cons (2 ^ 40) c.2 (p 2) (under_cons (2 ^ 40) c.3 (p 3)
    (under_cons (2 ^ 14) k.0 (q 0) (under_cons (2 ^ 14) k.1 (q 1)
    (under_cons (2 ^ 14) k.2 (q 2) (under_cons (2 ^ 14) k.3 (q 3) (under_nil {bs = []}))))))))).each

ok : (e : Exp) → T (safe w64 L e) → (t : goal.After-struct_told-8-1) → Fine w64 (at (l t)) e
ok e s t = fine w64 (at (l t)) L (small t) e s

abbrev whole : Exp
whole = weigh (var 0) (var 1) (var 2) (var 3) (var 4) (var 5) (var 6) (var 7)

pub overflow_mul-result : goal.overflow_mul-result
overflow_mul-result = ok (mul (var 0) (var 4)) tt

pub overflow_mul-result-2 : goal.overflow_mul-result-2
overflow_mul-result-2 = ok (mul (var 1) (var 5)) tt

pub overflow_add-result : goal.overflow_add-result
overflow_add-result = ok (add (mul (var 0) (var 4)) (mul (var 1) (var 5))) tt

pub overflow_mul-result-3 : goal.overflow_mul-result-3
overflow_mul-result-3 = ok (mul (var 2) (var 6)) tt

pub overflow_add-result-2 : goal.overflow_add-result-2
overflow_add-result-2 = ok (add (add (mul (var 0) (var 4)) (mul (var 1) (var 5))) (mul (var 2) (var 6))) tt

pub overflow_mul-result-4 : goal.overflow_mul-result-4
overflow_mul-result-4 = ok (mul (var 3) (var 7)) tt

pub overflow_add-result-3 : goal.overflow_add-result-3
overflow_add-result-3 = ok whole tt

pub returns : goal.returns
unfolding weighed
returns c = exact w64 (at (l c)) L (small c) whole tt
