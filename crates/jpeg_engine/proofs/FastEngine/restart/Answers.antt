-- `restart`: as it is at every cursor that is followed.
use Rattle.jpeg_engine.proofs.Between.{restarts}
use Rattle.jpeg_engine.proofs.FastEngine.restart.Goals as goal

pub returns : goal.returns
returns c = restarts c.args.self.now.plan.interval c.args.m c.restart.ensures
