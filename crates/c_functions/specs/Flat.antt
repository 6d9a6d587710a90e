-- The calls for C: decode by 46 numbers, and the answers with their numbers.
use Rattle.std.specs.Prelude.{ℕ, ◌+◌, cond, List, ltb, length, ℤ}
use Rattle.reading.specs.declared.Budget.{Budget}
use Rattle.reading.specs.declared.Decoding.{Decoding}
use Rattle.reading.specs.declared.Inspection.{Inspection}
use Rattle.reading.specs.declared.Part.{Part}
use Rattle.reading.specs.declared.Presence.{Presence}
use Rattle.reading.specs.declared.Refusal.TheVariants.{OverBudget, ShortRoom, NotItsRecord}
use Rattle.reading.specs.Tests.{◌or◌}
use Rattle.reading.specs.Header.{no_record}
use Rattle.reading.specs.Judging.{Judging, ◌>>◌, refuse, refuse_if, pay}
use Rattle.reading.specs.Calls as calls
use Rattle.c_record.specs.declared.FlatRecord.{FlatRecord}
use Rattle.c_record.specs.Flat.{digit, flat, record_of, is_record}
use Rattle.c_functions.specs.declared.FlatPart.{FlatPart}
use Rattle.c_functions.specs.declared.FlatPresence.{FlatPresence}
use Rattle.c_functions.specs.declared.Inspected.{Inspected}
use Rattle.c_functions.specs.declared.Decoded.{Decoded}

-- ---- inspect

abbrev pub inspected : Inspection → Inspected
inspected q =
    record {
      number = calls.number q.verdict;
      left = q.budget.left;
      block = (calls.named q.verdict).block;
      place = (calls.named q.verdict).place;
      found = flat q.found;
    }

-- ---- decode

-- numbers that are no record's are not the file's: 8, behind 7 and 2, and the price is taken
abbrev pub refusing : List ℕ → FlatRecord → List ℕ → List ℕ → Judging (List (List ℤ))
refusing s f out scratch = do
  refuse_if (ltb (length out) f.output or ltb (length scratch) f.scratch) ShortRoom
  pay (calls.header_price s + f.work) OverBudget
  refuse NotItsRecord

abbrev pub not_its_record : List ℕ → FlatRecord → List ℕ → List ℕ → Budget → calls.Decoded
not_its_record s f out scratch budget = calls.decoded s no_record out scratch (refusing s f out scratch budget)

unfoldable pub decode_flat : List ℕ → FlatRecord → List ℕ → List ℕ → Budget → calls.Decoded
decode_flat s f out scratch budget =
    cond (is_record f) (calls.decode s (record_of f) out scratch budget) (not_its_record s f out scratch budget)

-- an answer in C with the two buffers
pub record Drawn : Type 0 where
  pub answer : Decoded
  pub output : List ℕ
  pub scratch : List ℕ

abbrev pub drawn : Decoded → List ℕ → List ℕ → Drawn
drawn answer out scratch = record { answer = answer; output = out; scratch = scratch }

abbrev pub flat_decoding : Decoding → Decoded
flat_decoding q = record { number = calls.number q.verdict; left = q.budget.left }

abbrev pub decoded : calls.Decoded → Drawn
decoded d = drawn (flat_decoding d.answer) d.output d.scratch

-- ---- comments

abbrev pub flat_part : Part → FlatPart
flat_part p = record { at = p.at; length = p.length }

abbrev pub flat_presence : Presence → FlatPresence
flat_presence q =
    record {
      number = calls.number q.verdict;
      left = q.budget.left;
      block = (calls.named q.verdict).block;
      place = (calls.named q.verdict).place;
      there = digit q.there;
    }
