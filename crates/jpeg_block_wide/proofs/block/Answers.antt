-- `block`: each return is one case of the first step.
use Rattle.std.proofs.Common.{[], set, ap, Err, w16, w32, SFits, rules}
use Rattle.std.proofs.lemmas.Int.{to_z-of_z}
use Rattle.std.proofs.lemmas.Result.{err_from_is_err_and}
use Rattle.reading.specs.declared.Fault.TheVariants.{Broken}
use Rattle.reading.specs.Block.{zeros}
use Rattle.jpeg_block_wide.proofs.Opening.{block_stopped, block_never, block_goes}
use Rattle.jpeg_block_wide.proofs.block.Goals as goal

pub returns-in_err-z : goal.returns-in_err-z
returns-in_err-z c =
    let pred : SFits w32 c.args.pred = c.ranges.pred in
    let first = simp to_z-of_z at c.first.ensures in
    let p = err_from_is_err_and c.from_residual.result c.from_residual.ensures.1 in
    rw (p.1, p.2)
    (block_stopped c.args.t.now c.args.dc c.args.ac c.args.look.now c.args.c c.args.s.now c.args.from c.args.pred
    c.part-entries.ensures c.first.result
    first c.in_err-z.was [])

pub returns-in-Put : goal.returns-in-Put
returns-in-Put c =
    let pred : SFits w32 c.args.pred = c.ranges.pred in
    let first = simp to_z-of_z at c.first.ensures in
    let fits : SFits w16 c.in-Put.z = search rules in
    block_goes c.args.t.now c.args.dc c.args.ac c.args.look.now c.args.c c.args.s.now c.args.from c.args.pred
    c.part-entries.ensures c.first.result
    first (rw c.in-Put.is at c.in_ok-z.was) c.rest.result _ (ap (set (zeros 64) 0) (to_z-of_z w16 _ fits)) c.rest.ensures

pub returns-in_default : goal.returns-in_default
returns-in_default c =
    let pred : SFits w32 c.args.pred = c.ranges.pred in
    let first = simp to_z-of_z at c.first.ensures in
    block_never c.args.t.now c.args.dc c.args.ac c.args.look.now c.args.c c.args.s.now c.args.from c.args.pred
    c.part-entries.ensures c.first.result
    first c.in_ok-z.field-0 c.in_ok-z.was c.in_default.not-Put (Err Broken) []
