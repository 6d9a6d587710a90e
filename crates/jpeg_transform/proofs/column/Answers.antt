-- The line's outputs, by fewer products where the lower inputs are 0.
use Rattle.std.proofs.Common.{◌≡◌, ℕ, List, ℤ, ◌∙◌, ap}
use Rattle.whole.specs.Expressions.{at}
use Rattle.whole.specs.Lists.{from}
use Rattle.jpeg_transform.specs.Passes.{place, spaced, lines, puts, in_steps, columned}
use Rattle.jpeg_transform.proofs.Lines.{lower_none, inputs_small, inputs_lines, upper_small, upper_lines}
use Rattle.jpeg_transform.proofs.Passes.{lines_small}
use Rattle.jpeg_transform.proofs.column.Goals as goal

pub outputs-requires : goal.outputs-requires
outputs-requires c = upper_small (at c.line-c.result) (inputs_small _ _ 8 c.line-c.ensures c.requires.0).each

pub outputs-requires-else-c4-c5-eq0 : goal.outputs-requires-else-c4-c5-eq0
outputs-requires-else-c4-c5-eq0 c = inputs_small _ _ 8 c.line-c.ensures c.requires.0

pub store-requires : goal.store-requires
store-requires c =
    (c.requires.1, lines_small _ (upper_small (at c.line-c.result) (inputs_small _ _ 8 c.line-c.ensures c.requires.0).each).each c.outputs.ensures)

pub store-requires-else-c4-c5-eq0 : goal.store-requires-else-c4-c5-eq0
store-requires-else-c4-c5-eq0 c =
    (c.requires.1, lines_small (at c.line-c.result) (inputs_small _ _ 8 c.line-c.ensures c.requires.0).each c.outputs-else-c4-c5-eq0.ensures)

-- the outputs of the column, stored
stored : (l steps : List ℤ) (x : ℕ) {new sums : List ℤ} → new ≡ puts steps (place x 8) (λ y. in_steps (at sums y)) 8 → sums ≡ lines (spaced l x 8)
    → new ≡ columned l x steps
unfolding columned
stored l steps x e h = e ∙ ap (λ (xs : List ℤ). puts steps (place x 8) (λ y. in_steps (at xs y)) 8) h

pub returns-then-c4-c5-eq0 : goal.returns-then-c4-c5-eq0
unfolding from
returns-then-c4-c5-eq0 c =
    let l = c.args.block.now in
    let f = at c.line-c.result in
    let small = inputs_small l c.args.x 8 c.line-c.ensures c.requires.0 in
    stored l c.args.steps.now c.args.x c.store.ensures
    (c.outputs.ensures ∙ upper_lines f small.each (lower_none f small.each c.if-c4-c5-eq0.true) ∙ inputs_lines l c.args.x 8 c.line-c.ensures)

pub returns-else-c4-c5-eq0 : goal.returns-else-c4-c5-eq0
returns-else-c4-c5-eq0 c =
    stored c.args.block.now c.args.steps.now c.args.x c.store-else-c4-c5-eq0.ensures
    (c.outputs-else-c4-c5-eq0.ensures ∙ inputs_lines c.args.block.now c.args.x 8 c.line-c.ensures)
