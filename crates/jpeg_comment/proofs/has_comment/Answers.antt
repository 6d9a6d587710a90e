use Rattle.std.proofs.Common.{refl}
use Rattle.reading.specs.Comments.{has_comment}
use Rattle.jpeg_comment.proofs.has_comment.Goals as goal

pub returns : goal.returns
unfolding has_comment
returns c = rw (c.is_there.ensures, c.inspect-seen.ensures) refl
