-- How a call judges a file: tests and payments, one after another. The first that fails decides the number, and leaves what is left of
-- the budget then.
use Rattle.std.specs.Prelude.{ℕ, ◌-◌, Bool, true, false, cond, ltb}
use Rattle.std.proofs.Math.Option.{Option, none, some}
use Rattle.reading.specs.declared.Bits.{Bits}
use Rattle.reading.specs.declared.Budget.{Budget}
use Rattle.reading.specs.declared.Refusal.{Refusal}
use Rattle.reading.specs.declared.Refusal.TheVariants.{Scan}
use Rattle.reading.specs.Scan.{Scanned, whole, broke}

-- a value or a refusal, and the budget that is left
pub data Judged (A : Type 0) : Type 0 where
  accepts : A → Budget → Judged A
  refuses : Refusal → Budget → Judged A

-- what is left of a budget behind a price
abbrev pub remaining : Budget → ℕ → Budget
remaining budget price = record { left = budget.left - price }

-- a test, a payment, or a list of them: from the budget to what it comes to
abbrev pub Judging : Type 0 → Type 0
Judging A = Budget → Judged A

-- on with what was accepted; a refusal stays, with what it left
abbrev pub onward : {A B : Type 0} → Judged A → (A → Judging B) → Judged B
onward (accepts a left) f = f a left
onward (refuses x left) f = refuses x left

infixl 20 ◌>>=◌
infixl 20 ◌>>◌
abbrev pub ◌>>=◌ : {A B : Type 0} → Judging A → (A → Judging B) → Judging B
◌>>=◌ m f = λ budget. onward (m budget) f

abbrev pub ◌>>◌ : {A B : Type 0} → Judging A → Judging B → Judging B
◌>>◌ m n = λ budget. onward (m budget) (λ _. n)

abbrev pub give : {A : Type 0} → A → Judging A
give a = λ budget. accepts a budget

abbrev pub refuse : {A : Type 0} → Refusal → Judging A
refuse x = λ budget. refuses x budget

-- a test: it takes nothing
abbrev pub refuse_if : Bool → Refusal → Judging (Unit {0})
refuse_if true x = refuse x
refuse_if false x = give tt

-- a price: where the budget is below it, a refusal, and nothing of it is taken
abbrev pub pay : ℕ → Refusal → Judging (Unit {0})
pay price x = λ budget. cond (ltb budget.left price) (refuses x budget) (accepts tt (remaining budget price))

-- what there is, or a refusal
abbrev pub give_or : {A : Type 0} → Refusal → Option A → Judging A
give_or x none = refuse x
give_or x (some a) = give a

-- what a scan gave; where it broke the file is refused
abbrev pub unbroken : {A : Type 0} → Scanned Bits A → Judging A
unbroken (whole a b) = give a
unbroken (broke w) = refuse (Scan w)
