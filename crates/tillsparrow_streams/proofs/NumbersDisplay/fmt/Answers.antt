use Rattle.std.proofs.Common.{rules, arith}
use Rattle.std.proofs.Output.{has_written_append, has_written_of_eq}
use Rattle.tillsparrow_streams.proofs.Digits.{numbers_more}
use Rattle.tillsparrow_streams.proofs.NumbersDisplay.fmt.Goals as goal

pub loop-x-preserved : goal.loop-x-preserved
loop-x-preserved g c = λ plain.
    let before = c.loop-x.invariant plain in
    let more = c.write.ensures.writes before.plain (search rules) in
    has_written_of_eq _ _ _ _ _ (numbers_more c.args.self.now.0 c.loop-x.x-index (omega arith) (omega arith)) (has_written_append _ _ _ _ _ _ before more)
