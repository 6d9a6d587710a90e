-- `put_end`: the padding, then 255 217.
use mathlib.Core.Path.{sym, ◌∙◌, ap}
use mathlib.Core.List.{[], ◌∷◌}
use Rattle.jpeg_write_bits.specs.Page.{Spot, bytes_at}
use Rattle.jpeg_write_bits.proofs.Closings.{end_not, end_is}
use Rattle.jpeg_write_bits.proofs.put_end.Goals as goal

pub returns-then-not-proper : goal.returns-then-not-proper
returns-then-not-proper c = end_not _ (sym c.if-not-proper.ensures)

pub returns : goal.returns
returns c =
    c.put_marker.ensures ∙ ap (λ (s : Spot). bytes_at s (255 ∷ 217 ∷ [])) c.finish-at.ensures ∙ end_is _ (sym c.if-not-proper.ensures)
