use Rattle.jpeg_settle.proofs.Refiling.{laid_at}
use Rattle.jpeg_settle.proofs.scan.Goals as goal

pub returns : goal.returns
returns c = (c.settled.ensures.0, laid_at c.args.found.start c.min-start.result _ c.args.out.now c.settled.new.out c.min-start.ensures c.settled.ensures.1)
