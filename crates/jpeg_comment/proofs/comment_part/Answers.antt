use Rattle.std.proofs.Common.{ap, ◌∙◌, unwrap_or}
use Rattle.jpeg_comment.proofs.Notes.{part_none, part_sought}
use Rattle.jpeg_comment.proofs.comment_part.Goals as goal
use Rattle.jpeg_comment.proofs.comment_part.Goals.{then-accepted, else-accepted}

pub returns : goal.returns
returns c =
    c.unwrap_or.ensures
    ∙ elim c.if-accepted.branch [
      | then-accepted w ↦ ap (λ o. unwrap_or o (record { at = 0; length = 0 })) (w.sought-is ∙ w.comment-sought.ensures) ∙ part_sought c.args.s.now c.args.i w.if-accepted.ensures
      | else-accepted w ↦ ap (λ o. unwrap_or o (record { at = 0; length = 0 })) w.sought-is ∙ part_none c.args.s.now c.args.i w.if-accepted.ensures
    ]
