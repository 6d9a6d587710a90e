-- What the program answers to a file: the line of a refusal, or the settled file.
use Rattle.std.specs.Prelude.{ℕ, List}
use Rattle.reading.specs.Verdicts.{Verdict}
use Rattle.reading.specs.Calls.{Rewritten}
use Rattle.tillsparrow_streams.specs.declared.Answer.{Answer}
use Rattle.tillsparrow_streams.specs.declared.Line.TheVariants.{Empty}
use Rattle.tillsparrow_streams.specs.Answers.{replying, text_of}

-- the answer with the buffer
pub record Answered : Type 0 where
  pub answer : Answer
  pub output : List ℕ

abbrev pub leaving : Answer → List ℕ → Answered
leaving answer out = record { answer = answer; output = out }

-- accepted: the settled file, which stands at the start of the output, with no line before it
abbrev pub reply : ℕ → Verdict → Answer
reply n v = replying v Empty n

abbrev pub answered : Rewritten → Answered
answered w = leaving (reply w.answer.length w.answer.verdict) w.output

-- what is written: the line of a refusal, or the bytes of the settled file
abbrev pub written : Answered → List ℕ
written a = text_of a.answer a.output
