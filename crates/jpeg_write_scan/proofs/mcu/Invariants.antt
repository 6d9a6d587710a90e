-- `mcu`: before each block what is still to come is what was to come at the start, at every cursor that was followed there (McuFollowed).
use Rattle.std.proofs.Common.{◌≡◌, ◌/◌, ◌^◌}
use Rattle.jpeg_write_scan.proofs.McuFollowed.{Walks}
use Rattle.jpeg_write_scan.proofs.mcu.Given as goal

abbrev pub invariant-loop : goal.invariant-loop
invariant-loop g l =
    let e = g.E.Engine in
    let n = e.plan_of l.engine in
    record {
      digits : l.order ≡ n.order / 4 ^ l.counter;
      walks : Walks (e.meets l.engine) (e.file l.engine) n l.m l.before l.fn.out l.initial.cursor l.initial.ink l.initial.out l.out l.cursor l.ink l.counter;
    }
