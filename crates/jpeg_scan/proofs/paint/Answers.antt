-- `paint`: where samples are written and there is room for them, block k has its own 64 bytes.
use Rattle.std.proofs.Common.{◌≤◌, ◌*◌, ◌+◌, ◌-◌, length, arith}
use Rattle.jpeg_scan.proofs.Samples.{painted_part, painted_there}
use Rattle.jpeg_scan.proofs.paint.Goals as goal

pub returns : goal.returns
returns c =
    let a = c.args in
    let b = 64 * a.k in
    let room : b + 64 ≤ length a.scratch.now = omega arith in
    let part = painted_part _ a.levels.now a.reach b (b + 64 - b) a.scratch.now _ (omega arith) room c.quantizer.ensures c.samples.ensures in
    let is = painted_there a.write a.k (length a.scratch.now) a.scratch.now c.if-not-write.false c.if-scratch-k.false part in
    record { written = is.0; with_room = is.1 }
