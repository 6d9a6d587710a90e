-- What the programs run with, and what they answer to a refusal.
use Rattle.std.specs.Prelude.{ℕ, ◌-◌, ◌^◌, ◌<◌, List, ◌++◌, Option, Ok, Err, length, take}
use Rattle.std.specs.Io.KnownBytes.{Appends, Consumes, IsAtEnd}
use Rattle.reading.specs.declared.Limits.{Limits}
use Rattle.reading.specs.declared.Budget.{Budget}
use Rattle.reading.specs.declared.Refusal.{Refusal}
use Rattle.reading.specs.Verdicts.{Verdict}
use Rattle.tillsparrow_streams.specs.declared.Answer.{Answer}
use Rattle.tillsparrow_streams.specs.declared.Line.{Line}
use Rattle.tillsparrow_streams.specs.declared.Line.TheVariants.{Refused}
use Rattle.tillsparrow_streams.specs.Lines.{line_text}

-- the buffers hold 65,536 bytes, and no frame has a longer side
abbrev pub own_limits : Limits
own_limits = record { input = 65536; side = 65535; output = 65536 }

-- the largest budget
abbrev pub ample : Budget
ample = record { left = 2 ^ 64 - 1 }

-- the line of a refusal, and nothing behind it
abbrev pub refusing : Refusal → Answer
refusing x = record { line = Refused x; follow = 0 }

-- accepted: a line, and so many bytes of the output behind it
abbrev pub replying : Verdict → Line → ℕ → Answer
replying (Ok u) line n = record { line = line; follow = n }
replying (Err x) line n = refusing x

-- what is written of an answer: its line, and the bytes of the output that follow it
abbrev pub text_of : Answer → List ℕ → List ℕ
text_of a output = line_text a.line ++ take a.follow output

-- A program's run, where it is known what the one stream will give and what the other holds, before and after: a file was read, to its end
-- or to 65,537 bytes, and what the program says to it was written, and nothing else.
pub record Answered (written : List ℕ → List ℕ) (given left held full : Option (List ℕ)) : Type 0 where
  pub file : List ℕ
  pub read : Consumes given left file
  pub whole : length file < 65537 → IsAtEnd left
  pub told : Appends held full (written file)
