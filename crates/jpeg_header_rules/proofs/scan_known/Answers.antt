-- A body of the length asked ends in 0 63 0 where the definition reads them.
use Rattle.std.proofs.Common.{◌≡◌, ◌+◌, ◌*◌, length, ◌∙◌, arith}
use Rattle.std.proofs.lemmas.Bool.Decides.{nat_tests}
use Rattle.reading.specs.Header.{sequential}
use Rattle.jpeg_header_rules.proofs.Walks.{ends_so}
use Rattle.jpeg_header_rules.proofs.scan_known.Goals as goal

pub returns-then-body-channels : goal.returns-then-body-channels
returns-then-body-channels c =
    let body = c.args.body.now in
    let last : length body ≡ 4 + 2 * c.args.channels → c.ends_with.result ≡ sequential body c.args.channels
    = λ long. c.ends_with.ensures.value ∙ ends_so body c.args.channels long in
    grind (arith, nat_tests)
