-- What the code answers of a header.
-- It is here for the code: a contract of an inner function cites it, and nothing in it needs to be believed by someone who reads
-- the theorems of the calls.
use Rattle.std.specs.Prelude.{Result, Ok, Err}
use Rattle.reading.specs.declared.Record.{Record}
use Rattle.reading.specs.declared.Refusal.{Refusal}
use Rattle.reading.specs.Header.{Stage, ending}

-- the header as the code answers it
abbrev pub headed : Stage → Result Record Refusal
headed st = ending Ok Err st
