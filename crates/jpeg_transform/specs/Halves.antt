-- A line of eight inputs in an even and an odd half, as expressions of its inputs. Each operation of `even`, `odd` and their callers is
-- one of these expressions or a part of one. That the eight outputs are the sums over the basis is `factored` of proofs/Lines.
use Rattle.std.specs.Prelude.{List, [], ◌∷◌, map, ℕ, ℤ, pos, ◌+ℤ◌, ◌*ℤ◌}
use Rattle.whole.specs.Expressions.{Exp, var, con, lit, neg, add, sub, mul, at, value}
use Rattle.jpeg_transform.specs.declared.Four.{Four}

-- an input by a factor
abbrev pub by : Exp → ℕ → Exp
by c k = mul c (lit k)

-- ---- the even half, of inputs 0, 2, 4, 6

abbrev pub sum : Exp → Exp → Exp
sum c0 c4 = by (add c0 c4) 11585

abbrev pub gap : Exp → Exp → Exp
gap c0 c4 = by (sub c0 c4) 11585

abbrev pub near : Exp → Exp → Exp
near c2 c6 = add (by c2 15137) (by c6 6270)

abbrev pub far : Exp → Exp → Exp
far c2 c6 = sub (by c2 6270) (by c6 15137)

module _ (c0 c2 c4 c6 : Exp) where
  abbrev pub even0 : Exp
  even0 = add (sum c0 c4) (near c2 c6)

  abbrev pub even1 : Exp
  even1 = add (gap c0 c4) (far c2 c6)

  abbrev pub even2 : Exp
  even2 = sub (gap c0 c4) (far c2 c6)

  abbrev pub even3 : Exp
  even3 = sub (sum c0 c4) (near c2 c6)

-- ---- the odd half, of inputs 1, 3, 5, 7

-- the weights of these inputs in outputs 0, 1, 2, 3
abbrev pub odds0 : Four
odds0 = (pos 16069, pos 13623, pos 9102, pos 3196)

abbrev pub odds1 : Four
odds1 = (pos 13623, neg 3196, neg 16069, neg 9102)

abbrev pub odds2 : Four
odds2 = (pos 9102, neg 16069, pos 3196, pos 13623)

abbrev pub odds3 : Four
odds3 = (pos 3196, neg 9102, pos 13623, neg 16069)

-- four inputs by four weights
abbrev pub weigh : Exp → Exp → Exp → Exp → Exp → Exp → Exp → Exp → Exp
weigh c1 c3 c5 c7 k1 k3 k5 k7 = add (add (add (mul c1 k1) (mul c3 k3)) (mul c5 k5)) (mul c7 k7)

abbrev pub odd_by : Four → Exp → Exp → Exp → Exp → Exp
odd_by k c1 c3 c5 c7 = weigh c1 c3 c5 c7 (con k.0) (con k.1) (con k.2) (con k.3)

-- ---- both

-- the sums and differences of eight halves: even 0, 1, 2, 3, then odd 0, 1, 2, 3
abbrev pub sums : List Exp
sums =
    add (var 0) (var 4) ∷ add (var 1) (var 5) ∷ add (var 2) (var 6) ∷ add (var 3) (var 7)
    ∷ sub (var 3) (var 7) ∷ sub (var 2) (var 6) ∷ sub (var 1) (var 5) ∷ sub (var 0) (var 4) ∷ []

-- an expression of the even inputs of a line, and one of the odd inputs
abbrev pub of_even : (Exp → Exp → Exp → Exp → Exp) → Exp
of_even e = e (var 0) (var 2) (var 4) (var 6)

abbrev pub of_odd : (Exp → Exp → Exp → Exp → Exp) → Exp
of_odd o = o (var 1) (var 3) (var 5) (var 7)

-- the eight outputs of a line
abbrev pub outputs : List Exp
outputs =
    add (of_even even0) (of_odd (odd_by odds0)) ∷ add (of_even even1) (of_odd (odd_by odds1)) ∷ add (of_even even2) (of_odd (odd_by odds2))
    ∷ add (of_even even3) (of_odd (odd_by odds3))
    ∷ sub (of_even even3) (of_odd (odd_by odds3)) ∷ sub (of_even even2) (of_odd (odd_by odds2)) ∷ sub (of_even even1) (of_odd (odd_by odds1))
    ∷ sub (of_even even0) (of_odd (odd_by odds0)) ∷ []

-- ---- the values of the halves

unfoldable pub even_of : ℤ → ℤ → ℤ → ℤ → Four
even_of c0 c2 c4 c6 =
    let v : (Exp → Exp → Exp → Exp → Exp) → ℤ = λ e. value (at (c0 ∷ c2 ∷ c4 ∷ c6 ∷ [])) (e (var 0) (var 1) (var 2) (var 3)) in
    (v even0, v even1, v even2, v even3)

abbrev pub listed : Four → List ℤ
listed c = c.0 ∷ c.1 ∷ c.2 ∷ c.3 ∷ []

unfoldable pub weighed : Four → Four → ℤ
weighed c k = c.0 *ℤ k.0 +ℤ c.1 *ℤ k.1 +ℤ c.2 *ℤ k.2 +ℤ c.3 *ℤ k.3

unfoldable pub odd_of : ℤ → ℤ → ℤ → ℤ → Four
unfolding weighed
odd_of c1 c3 c5 c7 =
    let c : Four = (c1, c3, c5, c7) in
    (weighed c odds0, weighed c odds1, weighed c odds2, weighed c odds3)

-- ---- the outputs from two halves

abbrev pub halves : Four → Four → List ℤ
halves e o = e.0 ∷ e.1 ∷ e.2 ∷ e.3 ∷ o.0 ∷ o.1 ∷ o.2 ∷ o.3 ∷ []

unfoldable pub joined : Four → Four → List ℤ
joined e o = map (value (at (halves e o))) sums
