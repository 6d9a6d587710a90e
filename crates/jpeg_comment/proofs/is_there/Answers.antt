use Rattle.std.proofs.Common.{ap, ◌∙◌, is_some}
use Rattle.jpeg_comment.proofs.Notes.{there_so}
use Rattle.jpeg_comment.proofs.is_there.Goals as goal

pub returns-then-is_ok : goal.returns-then-is_ok
returns-then-is_ok c = c.is_some.ensures ∙ ap is_some c.comment.ensures ∙ there_so c.args.s.now c.args.i c.args.verdict c.if-is_ok.ensures.value
