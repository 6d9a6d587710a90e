-- Sixteen bytes are added up: their sum fits, and it is the sum of the counts.
use Rattle.std.proofs.Common.{refl, ◌∙◌, rules, arith, ◌^◌}
use Rattle.std.proofs.lemmas.Iterator.{YieldsList-from_range, YieldsList-from_map}
use Rattle.std.proofs.lemmas.Iterator.Consumers.{sum_from_yields_List}
use Rattle.std.proofs.lemmas.Iterator.Adapters.{fits_from_length, at_most_from_yields_List}
use Rattle.reading.specs.Header.{byte}
use Rattle.jpeg_header_rules.proofs.Walks.{bytes_sum}
use Rattle.jpeg_header_rules.proofs.symbols.Goals as goal

pub sum-requires-clause-fits : goal.sum-requires-clause-fits
sum-requires-clause-fits c =
    let places = YieldsList-from_range 1 17 16 c.map.ensures.source refl in
    fits_from_length _ _ 16 (2 ^ 64) (at_most_from_yields_List places (omega arith)) c.map.ensures.closure (omega arith) (λ x r q k. search rules)

pub returns : goal.returns
returns c =
    let body = c.args.body.now in
    let places = YieldsList-from_range 1 17 16 c.map.ensures.source refl in
    sum_from_yields_List _ _ c.sum.ensures.ran (YieldsList-from_map _ (byte body) places c.map.ensures.closure (λ x r q k. search rules))
    ∙ bytes_sum body 16 1
