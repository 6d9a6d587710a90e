-- Three stores are the pixel: in colour by what `red`, `green` and `blue` ensure, else as the samples are.
use Rattle.jpeg_render_row.proofs.Running.{in_colour, as_they_are}
use Rattle.jpeg_render_row.proofs.pixel.Goals as goal

pub returns-then-colour : goal.returns-then-colour
returns-then-colour c = in_colour c.args.y c.args.b c.args.r c.if-colour.true _ _ c.red.ensures c.green.ensures c.blue.ensures

pub returns-else-colour : goal.returns-else-colour
returns-else-colour c = as_they_are c.args.y c.args.b c.args.r c.if-colour.false _ _
