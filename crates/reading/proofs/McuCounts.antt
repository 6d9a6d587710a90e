-- Laws of the MCUs of a side: for a frame's numbers they are the rules' own.
use mathlib.Core.Path.{◌≡◌, refl, sym, ◌∙◌}
use mathlib.Core.Bool.{true, false}
use Prim.Native.Nat.{ℕ, zero, suc, ◌*◌, ◌<◌, ◌≤◌}
use borrow.Author.Tests.{le-leb, lt-leb}
use native.Mathlib.Omega.{arith}
use native.Mathlib.Nat.{not-suc-le-zero}
use Rattle.std.specs.Int.{div_ceil}
use Rattle.reading.specs.Tests.{within}
use Rattle.reading.specs.Layout.{ceiling}
use Rattle.reading.specs.Code.Mcus.{mcus_of}

-- ---- a test that passes

pub between : (least most n : ℕ) → least ≤ n → n ≤ most → within least most n ≡ true
between least most n a b = rw (le-leb least n a, le-leb n most b) refl

-- ---- the MCUs of a side

pub mcus_are : (side factor : ℕ) → side ≤ 65535 → 1 ≤ factor → factor ≤ 4 → ceiling side (8 * factor) ≡ mcus_of side factor
unfolding mcus_of
mcus_are side factor a b c = rw (le-leb side 65535 a, le-leb 1 factor b, le-leb factor 4 c) refl

pub mcus_long : (side factor : ℕ) → 65535 < side → 0 ≡ mcus_of side factor
unfolding mcus_of
mcus_long side factor a = rw (lt-leb side 65535 a) refl

pub mcus_none : (side factor : ℕ) → side ≤ 65535 → within 1 4 factor ≡ false → 0 ≡ mcus_of side factor
unfolding mcus_of
mcus_none side factor a e = rw (le-leb side 65535 a, e) refl

-- std's ceiling of a quotient is the rules'
pub div_ceil_is : (side factor : ℕ) → 1 ≤ factor → factor ≤ 4 → div_ceil side (8 * factor) ≡ ceiling side (8 * factor)
div_ceil_is side zero a b = absurd (not-suc-le-zero a)
div_ceil_is side (suc zero) a b = omega arith
div_ceil_is side (suc (suc zero)) a b = omega arith
div_ceil_is side (suc (suc (suc zero))) a b = omega arith
div_ceil_is side (suc (suc (suc (suc zero)))) a b = omega arith
div_ceil_is side (suc (suc (suc (suc (suc n))))) a b = absurd (omega arith)

-- ---- a count that was asked for, in the rules' words

module _ (side factor : ℕ) {n : ℕ} (e : n ≡ mcus_of side factor) where
  pub mcus_asked : side ≤ 65535 → 1 ≤ factor → factor ≤ 4 → n ≡ ceiling side (8 * factor)
  mcus_asked a b c = e ∙ sym (mcus_are side factor a b c)
