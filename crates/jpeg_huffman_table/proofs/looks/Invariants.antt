-- `looks`: before part j, the parts below it are there.
use Rattle.jpeg_huffman_table.proofs.Laying.{Laid}
use Rattle.jpeg_huffman_table.proofs.looks.Given as goal

abbrev pub invariant-loop-j : goal.invariant-loop-j
invariant-loop-j l = Laid l.t l.bases l.j l.look
