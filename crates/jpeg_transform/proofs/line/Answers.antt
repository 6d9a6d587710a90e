-- `line`: each element is the input at its place.
use Rattle.std.proofs.Common.{◌≡◌, ◌+◌, ◌*◌, pos, get_or, ◌∙◌, ap, sym, rules}
use Rattle.whole.specs.Expressions.{at}
use Rattle.whole.specs.Lists.{is_list_of}
use Rattle.jpeg_transform.specs.Passes.{spaced}
use Rattle.jpeg_transform.proofs.Stores.{place_is}
use Rattle.jpeg_transform.proofs.line.Goals as goal

pub returns : goal.returns
returns c =
    let l = c.args.block.now in
    is_list_of (pos 0) _ 8 (spaced l c.args.i c.args.s) c.from_fn.ensures.items.long
    (λ k h.
    let input : get_or c.from_fn.result k (pos 0) ≡ at l (c.args.i + k * c.args.s) = search rules in
    input ∙ ap (at l) (sym (place_is c.args.i c.args.s k)))
