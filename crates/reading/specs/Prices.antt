-- What each call takes from the budget, by its answer: the table of the rules' 'Refusal numbers'. `none` stands for a refusal that the
-- call never gives. n is the file's length, and 2n+1 is `header_price`.
use Rattle.std.specs.Prelude.{ℕ, ◌+◌, false, List}
use Rattle.std.proofs.Math.Option.{Option, none, some}
use Rattle.reading.specs.declared.Record.{Record}
use Rattle.reading.specs.declared.Refusal.TheVariants.{TooLong, OverBudget, CutShort, Malformed, Unsupported, TooLarge, WorkOverBudget, ShortRoom, NotItsRecord, NoEndCode, Scan}
use Rattle.reading.specs.Verdicts.{Verdict}
use Rattle.std.specs.declared.result.Result.TheVariants.{Ok, Err}
use Rattle.reading.specs.Header.{ending, header}
use Rattle.reading.specs.Calls.{header_price}

-- the work of a file: that of the record its header gives
abbrev pub file_work : List ℕ → ℕ
file_work s = ending (λ r. r.work) (λ x. 0) (header s false)

-- 2n+1+work
abbrev pub whole_price : List ℕ → ℕ
whole_price s = header_price s + file_work s

-- inspect, settle and has_comment. 7 and 9 are settle's alone, and take inspect's price
abbrev pub file_price : List ℕ → Verdict → Option ℕ
file_price s (Ok u) = some (whole_price s)
file_price s (Err TooLong) = some 0
file_price s (Err OverBudget) = some 0
file_price s (Err CutShort) = some (header_price s)
file_price s (Err Malformed) = some (header_price s)
file_price s (Err Unsupported) = some (header_price s)
file_price s (Err TooLarge) = some (header_price s)
file_price s (Err WorkOverBudget) = some (header_price s)
file_price s (Err (Scan w)) = some (whole_price s)
file_price s (Err NoEndCode) = some (whole_price s)
file_price s (Err ShortRoom) = some (whole_price s)
file_price s (Err NotItsRecord) = none

-- decode, by the record that was given
abbrev pub decode_price : List ℕ → Record → Verdict → Option ℕ
decode_price s r (Ok u) = some (header_price s + r.work)
decode_price s r (Err ShortRoom) = some 0
decode_price s r (Err OverBudget) = some 0
decode_price s r (Err NotItsRecord) = some (header_price s + r.work)
decode_price s r (Err TooLong) = none
decode_price s r (Err CutShort) = none
decode_price s r (Err Malformed) = none
decode_price s r (Err Unsupported) = none
decode_price s r (Err TooLarge) = none
decode_price s r (Err WorkOverBudget) = none
decode_price s r (Err (Scan w)) = none
decode_price s r (Err NoEndCode) = none
