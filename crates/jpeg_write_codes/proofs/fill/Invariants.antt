-- `fill`: at each turn a symbol's word is the one it has, or else the one that the table still has for it (`Filling`, of Filled).
use Rattle.std.proofs.Common.{◌≡◌, ◌-◌, ◌^◌, length, drop}
use Rattle.jpeg_write_codes.proofs.Filled.{Filling}
use Rattle.jpeg_write_codes.proofs.fill.Given as goal

abbrev pub invariant-loop-bits : goal.invariant-loop-bits
invariant-loop-bits l = Filling l.t l.base (length l.fn.words) l.words (drop l.at l.t) (l.bits - 1) 0 l.code

abbrev pub invariant-loop : goal.invariant-loop
invariant-loop l =
    (l.full ≡ 2 ^ l.bits) × Filling l.t l.base (length l.fn.words) l.words (drop l.at l.t) l.bits (l.end - l.counter) l.code
