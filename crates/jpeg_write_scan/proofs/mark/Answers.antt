-- `mark`: a marker where it is due and no code was wanting.
use mathlib.Core.Path.{sym, ◌∙◌, ap}
use Rattle.jpeg_write_bits.specs.Page.{restarted}
use Rattle.jpeg_write_scan.proofs.Inks.{fit_pen, moves_none, moves_mark}
use Rattle.jpeg_write_scan.proofs.mark.Goals as goal

pub returns-in_err-ink : goal.returns-in_err-ink
returns-in_err-ink c = moves_none c.in_err-ink.was c.from_residual.ensures

pub returns : goal.returns
returns c =
    moves_mark _ _ (sym c.if-not-restart_due.ensures) c.in_ok-ink.was (fit_pen c.in_ok-ink.was c.requires) (c.restart.ensures ∙ ap (restarted _) c.restart_code-code.ensures)
