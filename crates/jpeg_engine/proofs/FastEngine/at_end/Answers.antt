-- `at_end`: the end at every bit place that the cursor meets.
use Rattle.jpeg_engine.proofs.Between.{ends_there}
use Rattle.jpeg_engine.proofs.FastEngine.at_end.Goals as goal

pub returns : goal.returns
returns c = ends_there c.at_end.ensures
