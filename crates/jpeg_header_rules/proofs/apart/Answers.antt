-- `all` asks of each place whether its number stands again behind itself.
use Rattle.std.proofs.Common.{◌∙◌, refl, rules, tests}
use Rattle.jpeg_header_rules.proofs.Distinct.{alone, alone_all}
use Rattle.jpeg_header_rules.proofs.Walks.{of_channels}
use Rattle.jpeg_header_rules.proofs.apart.Goals as goal

pub returns : goal.returns
returns c = of_channels (alone c.args.list.now) refl refl c.all.ensures.ran (λ x b q k. search (rules, tests)) ∙ alone_all c.args.list.now
