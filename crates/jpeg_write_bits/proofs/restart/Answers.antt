-- `restart`: the padding, then the marker, then a fresh pen.
use mathlib.Core.Path.{sym, ◌∙◌, ap}
use mathlib.Core.List.{[], ◌∷◌}
use Rattle.jpeg_write_bits.specs.Page.{Spot, bytes_at}
use Rattle.jpeg_write_bits.proofs.Closings.{restart_not, restart_is}
use Rattle.jpeg_write_bits.proofs.restart.Goals as goal

pub returns-then-not-proper : goal.returns-then-not-proper
returns-then-not-proper c = restart_not _ (sym c.if-not-proper.ensures) _

pub returns : goal.returns
returns c =
    restart_is _ (sym c.if-not-proper.ensures) _ (c.put_marker.ensures ∙ ap (λ (s : Spot). bytes_at s (255 ∷ c.args.code ∷ [])) c.finish-at.ensures) c.fresh.ensures
