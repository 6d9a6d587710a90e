-- `symbol`: each return is one way in which the walk over the counts ends.
use Rattle.std.proofs.Common.{◌≡◌, ◌+◌, ◌-◌, min, length, refl, sym, ap, ◌∙◌, arith}
use Rattle.std.proofs.lemmas.Result.{err_from_is_err_and}
use Rattle.reading.specs.Code.Answers.{read_of}
use Rattle.reading.proofs.BitAnswers.{bit_below}
use Rattle.jpeg_huffman.proofs.Codes.{symbol_none, counts_end, sliced_length, sliced_left, sliced_count, begun, no_code, no_bit, found, passed_as}
use Rattle.jpeg_huffman.proofs.symbol.Goals as goal

pub returns-then-t-base : goal.returns-then-t-base
returns-then-t-base c = sym (symbol_none _ _ _ _ c.if-t-base.true)

pub loop-count-init : goal.loop-count-init
loop-count-init c =
    let none : c.args.base + 0 ≡ c.args.base = omega arith in
    let all : min 16 (length c.args.t.now - c.args.base) - 0 ≡ min 16 (length c.args.t.now - c.args.base) = omega arith in
    rw (none, all) (begun _ _ _ _ _ c.if-t-base.false refl)

pub returns-in_err-x : goal.returns-in_err-x
returns-in_err-x c =
    let p = err_from_is_err_and c.from_residual.result c.from_residual.ensures.1 in
    let left = sliced_left _ _ (counts_end c.args.t.now c.args.base c.if-t-base.false c.min.ensures) c.loop-count-test.true in
    rw (p.1, p.2) (sym (no_bit c.loop-count.invariant left (sym c.bit.ensures ∙ ap read_of c.in_err-x.was)))

pub returns-then-code-many : goal.returns-then-code-many
returns-then-code-many c =
    let count = sliced_count _ _ (counts_end c.args.t.now c.args.base c.if-t-base.false c.min.ensures) c.loop-count-test.true in
    rw c.at_or.ensures
    (sym
    (found c.loop-count.invariant (sliced_left _ _ (counts_end c.args.t.now c.args.base c.if-t-base.false c.min.ensures) c.loop-count-test.true)
    (sym c.bit.ensures ∙ ap read_of c.in_ok-x.was) (bit_below _ _ c.bit.ensures c.in_ok-x.was) (omega (arith, count))))

pub loop-count-preserved : goal.loop-count-preserved
loop-count-preserved c =
    let count = sliced_count _ _ (counts_end c.args.t.now c.args.base c.if-t-base.false c.min.ensures) c.loop-count-test.true in
    passed_as c.loop-count.invariant (sliced_left _ _ (counts_end c.args.t.now c.args.base c.if-t-base.false c.min.ensures) c.loop-count-test.true)
    (sym c.bit.ensures ∙ ap read_of c.in_ok-x.was) (bit_below _ _ c.bit.ensures c.in_ok-x.was)
    count (omega arith) (omega arith) (omega (arith, count, c.type_inv.t (c.args.base + c.loop-count.count-index))) c.if-code-many.false

pub returns : goal.returns
returns c = sym (no_code c.loop-count.invariant (omega (arith, sliced_length _ _ (counts_end c.args.t.now c.args.base c.if-t-base.false c.min.ensures), c.loop-count-test.false)))
