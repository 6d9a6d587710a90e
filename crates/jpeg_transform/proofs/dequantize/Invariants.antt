-- The block holds the coefficients of the first k levels.
use Rattle.std.proofs.Common.{◌≡◌, ◌^◌, take}
use Rattle.whole.specs.Expressions.{Within}
use Rattle.reading.specs.Transform.{coefficients}
use Rattle.jpeg_transform.proofs.dequantize.Given as goal

abbrev pub invariant-loop-k : goal.invariant-loop-k
invariant-loop-k l = record {
  made : l.block ≡ coefficients l.quantizer (take l.k l.levels);
  small : Within (2 ^ 23) l.block;
}
