-- What a payment answers, and what decode pays.
use Rattle.std.specs.Prelude.{ℕ, ◌+◌, ◌*◌, Result, Ok, Err}
use Rattle.reading.specs.declared.Budget.{Budget}
use Rattle.reading.specs.declared.Decoding.{Decoding}
use Rattle.reading.specs.declared.Refusal.{Refusal}
use Rattle.reading.specs.declared.Refusal.TheVariants.{OverBudget}
use Rattle.reading.specs.Judging.{Judged, accepts, refuses, pay}

-- what a function answers and the budget that it leaves, as a judgement
abbrev pub judged : {A : Type 0} → Result A Refusal → Budget → Judged A
judged (Ok a) left = accepts a left
judged (Err x) left = refuses x left

-- a payment as decode's answer, which has all that a payment has: a verdict and the budget that is left
abbrev pub answered : Judged (Unit {0}) → Decoding
answered (accepts a left) = record { verdict = Ok tt; budget = left }
answered (refuses x left) = record { verdict = Err x; budget = left }

-- 2n + 1 for n bytes and the work of a record, at once
unfoldable pub charged : ℕ → ℕ → Budget → Decoding
charged n work budget = answered (pay (2 * n + 1 + work) OverBudget budget)
