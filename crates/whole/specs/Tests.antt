-- Tests as Booleans: two at once, and one of many numbers; what a test that is passed says of its parts. Assumes nothing.
use Rattle.std.specs.Prelude.{ℕ, zero, suc, ◌+◌, ◌<◌, ◌≤◌, ◌≡◌, refl, Bool, true, false, ◌&&◌, T, eqb}
use Rattle.std.proofs.Common.{sym, ◌∙◌, subst, eqb→eq, arith, eq-eqb}
use Rattle.std.proofs.Math.Path.{subst⁻¹}

-- both tests. The same as the library's `&&`, but grouping to the right: so the first test of a chain is the outermost one
infixr 40 ◌and◌
abbrev pub ◌and◌ : Bool → Bool → Bool
a and b = a && b

pub and_left : (a b : Bool) → T (a and b) → T a
and_left true b t = tt
and_left false b t = t

pub and_right : (a b : Bool) → T (a and b) → T b
and_right true b t = t
and_right false b t = absurd t

-- p holds of the n numbers from c on
abbrev pub all_from : ℕ → ℕ → (ℕ → Bool) → Bool
all_from zero c p = true
all_from (suc n) c p = p c and all_from n (suc c) p

-- what a test of n numbers from i on says of one of them
pub all_at : (p : ℕ → Bool) (n i : ℕ) → T (all_from n i p) → (c : ℕ) → i ≤ c → c < i + n → T (p c)
all_at p zero i t c a b = absurd (none_left a b)
  where
    none_left : i ≤ c → c < i + 0 → ⊥
    none_left x y = omega arith
all_at p (suc n) i t c a b = go (eqb i c) refl (all_at p n (suc i) (and_right (p i) (all_from n (suc i) p) t) c)
  where
    go : (e : Bool) → eqb i c ≡ e → (suc i ≤ c → c < suc i + n → T (p c)) → T (p c)
    go true q ih = subst (λ k. T (p k)) (eqb→eq i c (subst⁻¹ T q tt)) (and_left (p i) (all_from n (suc i) p) t)
    go false q ih = ih (omega (arith, a, apart)) (omega (arith, b))
      where
        apart : i ≡ c → ⊥
        apart r = absurd (subst T (sym (eq-eqb i c r) ∙ q) tt)
