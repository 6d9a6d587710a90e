-- A scan that is settled before its head is copied.
use Rattle.std.specs.Prelude.{cond, List, Result, Ok, Err, ◌++◌, ℕ, ◌+◌, ◌^◌, leb, ltb, length, take, drop}
use Rattle.std.proofs.Math.Option.{Option}
use Rattle.reading.specs.declared.Bits.{Bits}
use Rattle.reading.specs.declared.Budget.{Budget}
use Rattle.reading.specs.declared.Record.{Record}
use Rattle.reading.specs.declared.Refusal.TheVariants.{TooLong, ShortRoom, NoEndCode, Scan}
use Rattle.reading.specs.declared.Settling.{Settling}
use Rattle.jpeg_settle.specs.declared.Unfiled.{Unfiled}
use Rattle.jpeg_settle.specs.declared.Unfiled.TheVariants.{Short, Refused}
use Rattle.reading.specs.Scan.{Scanned, whole, broke}
use Rattle.reading.specs.Settled.{behind}
use Rattle.reading.specs.Code.Scans.{settled_of, laid_over}
use Rattle.reading.specs.Judging.{give_or}
use Rattle.reading.specs.Calls.{Rewritten, unsettled, rewritten}

-- the length of the settled file, or why there is none, as settle answers it with what is left of the budget
abbrev pub answered : Result ℕ Unfiled → Budget → Settling
answered (Ok n) rest = record { verdict = Ok tt; budget = rest; length = n }
answered (Err (Short n)) rest = record { verdict = Err ShortRoom; budget = rest; length = n }
answered (Err (Refused x)) rest = record { verdict = Err x; budget = rest; length = 0 }

-- an answer and the buffer as it is left
abbrev pub remade : Settling → List ℕ → Rewritten
remade answer out = record { answer = answer; output = out }

-- a settled scan laid from its first coded byte on, where the buffer reaches so far
unfoldable pub scan_laid : ℕ → Scanned Bits (Option (List ℕ)) → List ℕ → List ℕ
unfolding laid_over
scan_laid start t out = cond (ltb (length out) start) out (take start out ++ laid_over t (drop start out))

-- behind a scan of n bytes: 7, or the head before it
unfoldable pub joined : List ℕ → ℕ → ℕ → Budget → List ℕ → Rewritten
joined s start n rest out =
    cond (ltb (length out) (start + n)) (unsettled ShortRoom rest (start + n) out)
    (remade (record { verdict = Ok tt; budget = rest; length = start + n }) (take start s ++ drop start out))

-- 9 where there is no settled file, then 7
abbrev pub settled_into : List ℕ → Budget → Option (List ℕ) → Rewritten
settled_into out rest t = rewritten out (give_or NoEndCode t rest)

-- what a scan that was read and settled makes of the buffer
abbrev pub refiled_by : List ℕ → Record → Budget → List ℕ → Scanned Bits (Option (List ℕ)) → Rewritten
refiled_by s r rest out (whole t b) = settled_into out rest (behind (take r.start s) t)
refiled_by s r rest out (broke f) = unsettled (Scan f) rest 0 out

-- settle behind the tests before the scan, which gave the record r. (Bytes that cannot be counted twice are too long.)
unfoldable pub refiled : List ℕ → Record → Budget → List ℕ → Rewritten
unfolding settled_of
refiled s r rest out = cond (leb (2 ^ 63) (length s)) (unsettled TooLong rest 0 out) (refiled_by s r rest out (settled_of s r))
