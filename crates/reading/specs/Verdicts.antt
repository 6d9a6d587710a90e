-- Whether a call accepted, or why it refused.
use Rattle.std.specs.declared.result.Result.{Result}
use Rattle.reading.specs.declared.Refusal.{Refusal}

abbrev pub Verdict : Type 0
Verdict = Result (Unit {0}) Refusal
