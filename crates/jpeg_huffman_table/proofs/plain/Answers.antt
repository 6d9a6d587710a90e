-- `plain`: no table, no count more, no bit more, a code, or one bit more.
use Rattle.std.proofs.Common.{◌+◌, arith}
use Rattle.jpeg_huffman_table.proofs.Walking.{plain_none, counted_begun, counted_over, counted_out, counted_small, counted_found, counted_passed}
use Rattle.jpeg_huffman_table.proofs.plain.Goals as goal

pub returns-then-t-base : goal.returns-then-t-base
returns-then-t-base c = plain_none _ _ _ _ c.if-t-base.true

pub loop-count-init : goal.loop-count-init
loop-count-init c = counted_begun c.filled-at.ensures c.if-t-base.false

pub returns-then-left-eq0 : goal.returns-then-left-eq0
returns-then-left-eq0 c = counted_out c.loop-count.invariant c.min.ensures c.loop-count-test.true c.if-left-eq0.true c.fault_at.ensures

pub overflow_add-code : goal.overflow_add-code
overflow_add-code c =
    let small = counted_small c.loop-count.invariant c.min.ensures c.loop-count-test.true (omega arith) c.if-left-eq0.false in
    omega (arith, small)

pub overflow_add-place-then-code-count : goal.overflow_add-place-then-code-count
overflow_add-place-then-code-count c =
    let small = counted_small c.loop-count.invariant c.min.ensures c.loop-count-test.true (omega arith) c.if-left-eq0.false in
    omega (arith, small)

pub returns-then-code-count : goal.returns-then-code-count
returns-then-code-count c =
    counted_found c.loop-count.invariant c.min.ensures c.loop-count-test.true (omega arith) c.if-left-eq0.false
    c.if-code-count.true c.at_or-found.ensures

pub loop-count-preserved : goal.loop-count-preserved
loop-count-preserved c =
    counted_passed c.loop-count.invariant c.min.ensures c.loop-count-test.true (omega arith) c.if-left-eq0.false
    (omega (arith, c.type_inv.t (c.args.base + c.loop-count.count-index))) c.if-code-count.false

pub returns : goal.returns
returns c = counted_over c.loop-count.invariant c.min.ensures c.loop-count-test.false
