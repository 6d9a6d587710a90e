-- What the program answers to a file: the line of a refusal, or a picture behind its head.
use Rattle.std.specs.Prelude.{ℕ, Bool, true, cond, List, Ok, Err, eqb}
use Rattle.reading.specs.declared.Record.{Record}
use Rattle.reading.specs.declared.Refusal.TheVariants.{Unsupported}
use Rattle.reading.specs.Verdicts.{Verdict}
use Rattle.reading.specs.declared.Inspection.{Inspection}
use Rattle.reading.specs.Tests.{◌or◌}
use Rattle.reading.specs.Calls.{inspect, Decoded, decode}
use Rattle.tillsparrow_streams.specs.declared.Answer.{Answer}
use Rattle.tillsparrow_streams.specs.declared.Line.TheVariants.{Picture}
use Rattle.tillsparrow_streams.specs.Answers.{own_limits, ample, refusing, replying, text_of}

-- the answer with the two buffers
pub record Answered : Type 0 where
  pub answer : Answer
  pub output : List ℕ
  pub scratch : List ℕ

abbrev pub leaving : Answer → List ℕ → List ℕ → Answered
leaving answer out scratch = record { answer = answer; output = out; scratch = scratch }

-- accepted: the head of the picture, which stands at the start of the output
abbrev pub reply : Record → Verdict → Answer
reply r v = replying v (Picture r) r.output

abbrev pub drawn : Record → Decoded → Answered
drawn r d = leaving (reply r d.answer.verdict) d.output d.scratch

-- PGM holds one channel and PPM three: neither holds two or four
abbrev pub unheld : ℕ → Bool
unheld channels = eqb channels 2 or eqb channels 4

-- The program refuses two and four channels with 5, behind inspect; one and three are decoded
abbrev pub shown : List ℕ → Record → List ℕ → List ℕ → Answered
shown s r out scratch =
    cond (unheld r.frame.channels) (leaving (refusing Unsupported) out scratch) (drawn r (decode s r out scratch ample))

-- any number that inspect gives comes first
abbrev pub viewed : List ℕ → List ℕ → List ℕ → Record → Verdict → Answered
viewed s out scratch r (Ok u) = shown s r out scratch
viewed s out scratch r (Err x) = leaving (refusing x) out scratch

-- colour is chosen, the limits are the buffers', and the budget always suffices
unfoldable pub answered : List ℕ → List ℕ → List ℕ → Answered
answered s out scratch =
    let seen : Inspection = inspect s true own_limits ample in
    viewed s out scratch seen.found seen.verdict

-- what is written: the line, and the bytes that follow it
abbrev pub written : Answered → List ℕ
written a = text_of a.answer a.output
