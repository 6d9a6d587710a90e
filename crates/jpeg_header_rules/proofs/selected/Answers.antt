-- `all` asks of each channel what the definition asks.
use Rattle.std.proofs.Common.{refl, rules, tests}
use Rattle.jpeg_header_rules.proofs.Walks.{of_channels}
use Rattle.jpeg_header_rules.proofs.selected.Goals as goal

pub returns : goal.returns
returns c = of_channels _ refl c.at_or.ensures c.all.ensures.ran (λ x b q k. search (rules, tests))
