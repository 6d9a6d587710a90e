-- `fits`: before each count, those still to come decide; the code that follows is below `power`, which is 2 ^ i.
use Rattle.std.proofs.Common.{◌≡◌, ◌<◌, ◌^◌, drop}
use Rattle.reading.specs.Huffman.{codes_fit}
use Rattle.jpeg_huffman.proofs.fits.Given as goal

abbrev pub invariant-loop-count : goal.invariant-loop-count
invariant-loop-count l = record {
  power : l.power ≡ 2 ^ l.count-index;
  below : l.next < l.power;
  same : codes_fit l.counts 0 0 ≡ codes_fit (drop l.count-index l.counts) l.count-index l.next;
}
