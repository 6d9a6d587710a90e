-- Where seven inputs are 0 the outputs are one, else they are the line's.
use Rattle.std.proofs.Common.{◌≡◌, ◌<◌, ◌+◌, ◌-◌, ◌++◌, ℕ, List, ℤ, w64, length, take, drop, sym, ◌∙◌, ap, ap₂, arith}
use lib.ListN.{replicate, length-drop}
use lib.Seq.{length-take-le}
use Rattle.whole.specs.Expressions.{var, at, fine, exact}
use Rattle.whole.specs.Lists.{from}
use Rattle.jpeg_transform.specs.Halves.{by}
use Rattle.jpeg_transform.specs.Passes.{place, spaced, puts, lines, rowed}
use Rattle.jpeg_transform.proofs.Lines.{L, rest_none, lines_flat, inputs_small, inputs_lines}
use Rattle.jpeg_transform.proofs.Passes.{length_lines}
use Rattle.jpeg_transform.proofs.Stores.{puts_part}
use Rattle.jpeg_transform.proofs.row.Goals as goal

-- the row written over by its outputs
written : (l new : List ℤ) (i : ℕ) → new ≡ lines (spaced l i 1) → length l ≡ 64 → i + 7 < 64
    → take i l ++ (new ++ drop (i + 8 - i) (drop i l)) ≡ rowed l i
unfolding rowed
written l new i e long room =
    puts_part l new i 8 (omega arith) (ap length e ∙ length_lines (spaced l i 1)) (omega arith)
    ∙ ap (λ (xs : List ℤ). puts l (place i 1) (at xs) 8) e

-- the part of the block that is lent
part : (l : List ℤ) (i : ℕ) → length l ≡ 64 → i + 7 < 64 → length (take (i + 8 - i) (drop i l)) ≡ 8
part l i long room = length-take-le (i + 8 - i) (drop i l) (omega (arith, length-drop i l)) ∙ omega arith

filled : {xs : List ℤ} {n : ℕ} {v w : ℤ} → xs ≡ replicate n v → n ≡ 8 → v ≡ w → xs ≡ replicate 8 w
filled e h g = e ∙ ap₂ replicate h g

pub overflow_mul-c0 : goal.overflow_mul-c0
overflow_mul-c0 c = fine w64 (at c.line-c.result) L (inputs_small _ _ 1 c.line-c.ensures c.requires.0).each (by (var 0) 11585) tt

pub outputs-requires : goal.outputs-requires
outputs-requires c = inputs_small _ _ 1 c.line-c.ensures c.requires.0

pub returns-then-c1-c2-eq0 : goal.returns-then-c1-c2-eq0
unfolding from
returns-then-c1-c2-eq0 c =
    let l = c.args.block.now in
    let i = c.args.i in
    let f = at c.line-c.result in
    let small = inputs_small l i 1 c.line-c.ensures c.requires.0 in
    written l c.fill.new.self i
    (filled (c.fill.ensures.after (λ y e. e)) (part l i c.told-block c.requires.1) (exact w64 f L small.each (by (var 0) 11585) tt)
    ∙ sym (lines_flat f (rest_none f small.each c.if-c1-c2-eq0.true))
    ∙ inputs_lines l i 1 c.line-c.ensures)
    c.told-block c.requires.1

pub returns-else-c1-c2-eq0 : goal.returns-else-c1-c2-eq0
unfolding rowed
returns-else-c1-c2-eq0 c =
    c.put_row.ensures ∙ ap (λ (xs : List ℤ). puts c.args.block.now (place c.args.i 1) (at xs) 8) (c.outputs.ensures ∙ inputs_lines c.args.block.now c.args.i 1 c.line-c.ensures)
