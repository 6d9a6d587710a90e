-- `symbol`: before each bit, the lengths still to come find the same symbol (`Ahead`, of Codes).
use Rattle.std.proofs.Common.{◌+◌, ◌-◌, min, length}
use Rattle.reading.specs.Bits.{one}
use Rattle.jpeg_huffman.proofs.Codes.{Ahead}
use Rattle.jpeg_huffman.proofs.symbol.Given as goal

abbrev pub invariant-loop-count : goal.invariant-loop-count
invariant-loop-count l =
    Ahead (one l.s) l.t l.base l.initial.here l.here l.past (l.base + l.count-index) l.place (min 16 (length l.t - l.base) - l.count-index)
