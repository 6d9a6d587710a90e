-- `plain`: before each count, those still to come find the same symbol.
use Rattle.jpeg_bits_wide.proofs.Filling.{cursor}
use Rattle.jpeg_huffman_table.proofs.Walking.{Counted}
use Rattle.jpeg_huffman_table.proofs.plain.Given as goal

abbrev pub invariant-loop-count : goal.invariant-loop-count
invariant-loop-count l = Counted l.t l.base l.s l.fn.from (cursor l.at l.acc l.left) l.past l.count-index l.place
