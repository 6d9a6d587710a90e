-- The blocks of an MCU, as a pass counts them, and the channel of each.
use Prim.Native.Nat.{ℕ, ◌+◌, ◌-◌, ◌<◌, ◌/◌, ◌%◌, ◌^◌, min}
use mathlib.Core.Path.{◌≡◌, ◌∙◌, ap, ap₂, subst}
use native.Mathlib.Omega.{arith}
use mir.Syntax.{w64}
use mir.Val.{Fits}
use Rattle.jpeg_scan_plan.specs.declared.Plan.{Plan}
use Rattle.jpeg_scan_plan.specs.Plans.{chan}

-- how many blocks the MCU at block k has, as the code counts them
pub count_is : {n n' : Plan} {a b : ℕ} (k : ℕ) → n' ≡ n → b ≡ n'.blocks - k → a ≡ min n'.per b → a ≡ min n.per (n.blocks - k)
count_is k e f g = g ∙ ap₂ min (ap (λ (n : Plan). n.per) e) (f ∙ ap (λ (n : Plan). n.blocks - k) e)

pub count_in : {n n' : Plan} {a b j : ℕ} (k : ℕ) → n' ≡ n → b ≡ n'.blocks - k → a ≡ min n'.per b → j < a → j < min n.per (n.blocks - k)
count_in {j = j} k e f g = subst (λ (a : ℕ). j < a) (count_is k e f g)

-- the blocks of a plan can be counted
pub countable : (n : Plan) (k : ℕ) {a b j d : ℕ} → d ≡ k + j → b ≡ n.blocks - k → a ≡ min n.per b → j < a → Fits w64 n.blocks → Fits w64 (d + 1)
countable n k e f g h most = omega arith

-- the channel of block j, by the order as the blocks before it left it
pub channel_is : (order j : ℕ) {o c : ℕ} → c ≡ o % 4 → o ≡ order / 4 ^ j → c ≡ chan order j
channel_is order j e h = e ∙ ap (λ (o : ℕ). o % 4) h

pub channel_few : (o : ℕ) {c : ℕ} → c ≡ o % 4 → c < 4
channel_few o e = omega (arith, e)
