use Rattle.std.proofs.Common.{◌∙◌, arith}
use Rattle.reading.proofs.FileBytes.{all_bytes}
use Rattle.jpeg_comment.proofs.Notes.{read_so}
use Rattle.jpeg_comment.proofs.accepted.Goals as goal

pub returns-in-Ok : goal.returns-in-Ok
returns-in-Ok c =
    c.is_whole.ensures
    ∙ read_so c.args.s.now (all_bytes c.args.s.now (λ i. omega (arith, c.type_inv.s i))) c.in-Ok.found c.in-Ok.ensures
