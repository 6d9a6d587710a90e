-- `looks`: no part, one part more, filled or copied, and all of them.
use Rattle.std.proofs.Common.{refl, ◌∙◌, arith}
use Rattle.jpeg_huffman_table.proofs.Laying.{laid_none, laid_filled, laid_copied, laid_all}
use Rattle.jpeg_huffman_table.proofs.looks.Goals as goal
use Rattle.jpeg_huffman_table.proofs.looks.Goals.{then-from-j, else-from-j}

pub loop-j-init : goal.loop-j-init
loop-j-init c = laid_none _ _ _ refl

pub loop-j-preserved : goal.loop-j-preserved
loop-j-preserved c =
    elim c.if-from-j.branch [
      | then-from-j w ↦
          laid_copied _ _ c.loop-j.invariant c.loop-j-test.true (omega arith)
          c.alike-from.result (omega arith) c.alike-from.ensures.1 c.alike-from.ensures.2 (w.look-is ∙ w.copy_within.ensures.after)
      | else-from-j w ↦ laid_filled _ _ c.loop-j.invariant c.loop-j-test.true (omega arith) w.fill.ensures w.look-is
    ]

pub returns : goal.returns
returns c = laid_all _ _ _ c.paired-bases.ensures c.loop-j.invariant (omega arith)
