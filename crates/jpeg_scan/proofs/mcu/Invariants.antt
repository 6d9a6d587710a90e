-- `mcu`: before each block the walk stands at every cursor that was followed before the restart (McuFollowed).
use Rattle.std.proofs.Common.{◌≡◌, ◌+◌, ◌/◌, ◌^◌}
use Rattle.jpeg_scan.proofs.McuFollowed.{Walks}
use Rattle.jpeg_scan.proofs.mcu.Given as goal

abbrev pub invariant-loop : goal.invariant-loop
invariant-loop g l =
    let e = g.E.Engine in
    let n = e.plan_of l.fn.engine in
    record {
      digits : l.order ≡ n.order / 4 ^ l.counter;
      count : l.done ≡ l.initial.done + l.counter;
      walks :
          Walks (e.meets l.fn.engine) (e.file l.fn.engine) n l.fn.m l.fn.before l.fn.write l.initial.scratch
          (record { bits = l.initial.bits; predictors = l.initial.predictors; done = l.initial.done }) l.scratch
          (record { bits = l.bits; predictors = l.predictors; done = l.done }) l.counter;
    }
