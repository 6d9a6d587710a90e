use Rattle.std.proofs.Common.{arith, rules, ◌+◌, ◌-◌, ◌*◌, ◌≤◌, get_or}
use native.Mathlib.Nat.{mul-le-mul}
use Rattle.jpeg_render.proofs.Drawing.{filled}
use Rattle.jpeg_render.proofs.Spreading.{spread_next}
use Rattle.jpeg_render.proofs.render.widen.Goals as goal

pub loop-j-preserved : goal.loop-j-preserved
loop-j-preserved c =
    let last : c.loop-j.j ≤ 7 = omega arith in
    let place : c.args.hs * c.loop-j.j ≤ 28 = mul-le-mul c.requires.1 last in
    let room : c.args.hs * c.loop-j.j + 4 ≤ 32 = omega arith in
    spread_next _ _ _ c.loop-j.j 4 (c.args.hs * c.loop-j.j) c.loop-j.list _ c.loop-j.invariant c.loop-j-test.true c.requires.1
    (search rules) room
    (filled (get_or c.args.samples.now (c.args.from + c.loop-j.j) 0) (c.args.hs * c.loop-j.j) (c.args.hs * c.loop-j.j + 4 - c.args.hs * c.loop-j.j)
    (c.args.hs * c.loop-j.j + 4 - c.args.hs * c.loop-j.j) 4 c.loop-j.list c.fill.new.self (omega (arith, c.loop-j.invariant.size)) (omega arith) (omega arith)
    (c.fill.ensures.after (λ y e. e)))
