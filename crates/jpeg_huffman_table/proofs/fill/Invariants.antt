-- `fill`: before each number, those below it have their entries.
use Rattle.std.proofs.Common.{◌-◌}
use Rattle.reading.specs.Huffman.{table_at}
use Rattle.jpeg_huffman_table.specs.Looks.{entry_at}
use Rattle.jpeg_huffman_table.proofs.Sharing.{Done}
use Rattle.jpeg_huffman_table.proofs.fill.Given as goal

abbrev pub invariant-loop-w : goal.invariant-loop-w
invariant-loop-w l = Done (entry_at 9 l.first (table_at l.t l.base)) l.look l.w

abbrev pub decreases-loop-w : goal.decreases-loop-w
decreases-loop-w l = 512 - l.w
