-- `fill`: behind a code, the numbers that begin with it get the same; else one number gets 0.
use Rattle.std.proofs.Common.{arith}
use Rattle.reading.specs.Huffman.{table_at}
use Rattle.jpeg_huffman_table.proofs.Sharing.{Runs, runs_there, refused_there, nothing, done_next, done_filled, all_done}
use Rattle.jpeg_huffman_table.proofs.fill.Goals as goal
use Rattle.jpeg_huffman_table.proofs.fill.Goals.{Then-takes, in_default-via-in-Ok+else-takes, in_default-via-in_default}

-- where the walk found a symbol that may stand
runs : (c : Then-takes) → Runs (table_at c.args.t.now c.args.base) c.loop-w-test.true c.in-Ok.ensures c.args.first
runs c =
    runs_there c.args.t.now c.args.base c.loop-w-test.true c.in-Ok.ensures c.type_inv.t c.args.first c.takes.ensures c.if-takes.true

pub overflow_shl-width : goal.overflow_shl-width
overflow_shl-width c = omega (arith, runs (goal.at.overflow_shl-width c).Then-takes)

pub nonzero_rem-n : goal.nonzero_rem-n
nonzero_rem-n c = omega (arith, runs (goal.at.nonzero_rem-n c).Then-takes)

pub overflow_sub-n : goal.overflow_sub-n
overflow_sub-n c = omega (arith, runs (goal.at.overflow_sub-n c).Then-takes)

pub slice_bounds-fill-end : goal.slice_bounds-fill-end
slice_bounds-fill-end c =
    let r = runs (goal.at.slice_bounds-fill-end c).Then-takes in
    let long = c.loop-w.invariant.long in
    omega arith

pub overflow_sub-rest : goal.overflow_sub-rest
overflow_sub-rest c = omega (arith, runs (goal.at.overflow_sub-rest c).Then-takes)

pub overflow_add-rest-in-Ok : goal.overflow_add-rest-in-Ok
overflow_add-rest-in-Ok c = omega (arith, runs (goal.at.overflow_add-rest-in-Ok c).Then-takes)

pub overflow_cast-rest : goal.overflow_cast-rest
overflow_cast-rest c = omega (arith, runs (goal.at.overflow_cast-rest c).Then-takes)

pub loop-w-smaller-then-takes : goal.loop-w-smaller-then-takes
loop-w-smaller-then-takes c = omega (arith, runs (goal.at.loop-w-smaller-then-takes c).Then-takes)

pub loop-w-preserved-then-takes : goal.loop-w-preserved-then-takes
loop-w-preserved-then-takes c =
    let r = runs (goal.at.loop-w-preserved-then-takes c).Then-takes in
    done_filled c.loop-w.invariant _ _ r.inside r.same (c.fill.ensures.after (λ y e. e))

pub loop-w-preserved : goal.loop-w-preserved
loop-w-preserved c =
    let t = table_at c.args.t.now c.args.base in
    done_next c.loop-w.invariant c.loop-w-test.true
    (elim c.in_default.branch [
      | in_default-via-in-Ok+else-takes w ↦
          refused_there c.args.t.now c.args.base c.loop-w-test.true w.in-Ok.ensures c.type_inv.t c.args.first w.takes.ensures w.if-takes.false
      | in_default-via-in_default w ↦ nothing t c.loop-w-test.true w.in_default.ensures c.args.first
    ])

pub returns : goal.returns
returns c = all_done _ _ c.loop-w.invariant c.loop-w-test.false
