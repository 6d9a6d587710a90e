-- `behind`: no bit is lost by the shift, and a byte has none above its eight.
use Rattle.std.proofs.Common.{◌≡◌, ◌*◌, ◌/◌, ◌%◌, ◌^◌, arith, mod-eq_of_lt, pow_pos}
use lib.Pow.{shl_exact}
use Rattle.jpeg_bits.proofs.Next.{none_above}
use Rattle.jpeg_bits.proofs.behind.Goals as goal

pub returns-then-rest-ge8 : goal.returns-then-rest-ge8
returns-then-rest-ge8 c =
    let none : c.args.byte / 2 ^ c.args.rest ≡ 0 = none_above {x = c.args.byte} (omega arith) (omega arith) in
    let kept : c.args.v * 2 ^ c.args.k % 18446744073709551616 ≡ c.args.v * 2 ^ c.args.k = shl_exact 16 c.args.k 64 (omega arith) (omega arith) in
    rw (kept, none, mod-eq_of_lt (pow_pos c.args.k)) (omega arith)
