-- `put`: at each turn the bits that are left, put behind what waits now, make the page that all of them make.
use Rattle.std.proofs.Common.{◌≡◌, ◌≤◌}
use Rattle.reading.specs.Huffman.{bits_of}
use Rattle.jpeg_write_bits.specs.Page.{page, put_all}
use Rattle.jpeg_write_bits.proofs.Bytes.{Begun}
use Rattle.jpeg_write_bits.proofs.put.Given as goal

abbrev pub invariant-loop-pen : goal.invariant-loop-pen
invariant-loop-pen l = record {
  begun : Begun l.pen.value l.pen.missing;
  few : l.left ≤ 32;
  same : put_all (page l.fn.out l.fn.p) (bits_of l.n l.x) ≡ put_all (page l.out l.pen) (bits_of l.left l.x);
}

abbrev pub decreases-loop-pen : goal.decreases-loop-pen
decreases-loop-pen l = l.left
