-- What the loop of `parts` keeps: j parts are written.
use Rattle.jpeg_render_pairs.proofs.Tinting.{FilledTo}
use Rattle.jpeg_render_pairs.proofs.parts.Given as goal

abbrev pub invariant-loop-j : goal.invariant-loop-j
invariant-loop-j g l = FilledTo (λ k x. goal.F-post g l.part k x) 8 l.j l.parts
