-- Settle's answer for C, with its number.
use Rattle.std.specs.Prelude.{ℕ, List}
use Rattle.reading.specs.declared.Settling.{Settling}
use Rattle.reading.specs.Calls as calls
use Rattle.c_settle.specs.declared.Settled.{Settled}

-- an answer in C with the buffer
pub record Remade : Type 0 where
  pub answer : Settled
  pub output : List ℕ

abbrev pub remade : Settled → List ℕ → Remade
remade answer out = record { answer = answer; output = out }

abbrev pub flat_settling : Settling → Settled
flat_settling q =
    record {
      number = calls.number q.verdict;
      left = q.budget.left;
      block = (calls.named q.verdict).block;
      place = (calls.named q.verdict).place;
      length = q.length;
    }

abbrev pub settled : calls.Rewritten → Remade
settled t = remade (flat_settling t.answer) t.output
