-- `first`: by a look, or by the plain walk.
use Rattle.std.proofs.Common.{refl, ◌∙◌, ap, to_z, of_z, w16, w32, SFits, rules, arith}
use Rattle.std.proofs.lemmas.Int.{to_z-of_z}
use Rattle.jpeg_block_wide.proofs.Values.{field_means, field_narrow}
use Rattle.jpeg_block_wide.proofs.Stepping.{file_bytes, topped_moved, step_before, same_level}
use Rattle.jpeg_block_wide.proofs.Looking.{first_level}
use Rattle.jpeg_block_wide.proofs.first.Goals as goal

pub returns-then-total-eq0 : goal.returns-then-total-eq0
returns-then-total-eq0 c _ =
    step_before c.args.t.now c.args.dc 0 (topped_moved (file_bytes _ c.type_inv.s) c.topped-at.ensures) (to_z-of_z w32 _ c.ranges.pred) c.step.ensures

pub overflow_cast-v : goal.overflow_cast-v
overflow_cast-v c =
    let fits : SFits w32 c.meant-v.result = search rules in
    rw to_z-of_z (field_narrow _ _ _ c.field.ensures c.meant-v.ensures)

pub returns : goal.returns
returns c =
    let fits : SFits w32 c.meant-v.result = search rules in
    let short : SFits w16 c.meant-v.result = field_narrow _ _ _ c.field.ensures c.meant-v.ensures in
    first_level c.args.t.now c.args.dc c.args.look.now c.args.from c.args.pred c.level.result
    (topped_moved (file_bytes _ c.type_inv.s) c.topped-at.ensures) c.entry-e.ensures (omega arith) c.if-left-total.false
    (same_level 0 c.level.result c.level.ensures (to_z-of_z w32 _ c.ranges.pred)
    (ap (λ z. to_z w16 (of_z w16 z)) (to_z-of_z w32 _ fits) ∙ to_z-of_z w16 _ short ∙ field_means _ _ _ c.field.ensures c.meant-v.ensures) refl)
