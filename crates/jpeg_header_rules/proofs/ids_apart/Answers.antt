-- Behind the fourth channel there is no id, so the first four of any count are all.
use Rattle.std.proofs.Common.{◌≡◌, ◌∙◌, arith, length, rules}
use Rattle.jpeg_header_rules.proofs.Distinct.{first_of_four}
use Rattle.jpeg_header_rules.proofs.ids_apart.Goals as goal

pub returns : goal.returns
returns c =
    let frame = c.args.frame in
    let four : length frame.ids ≡ 4 = search rules in
    c.apart.ensures ∙ first_of_four frame.channels c.min.result frame.ids four (omega arith)
