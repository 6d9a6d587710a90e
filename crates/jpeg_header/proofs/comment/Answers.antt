-- `comment`: what each step says of the comment (Looking).
use Rattle.std.proofs.Common.{sym, ◌∙◌, arith}
use Rattle.reading.proofs.FileBytes.{all_bytes}
use Rattle.jpeg_header.proofs.Looking.{look_down, look_on, look_past, look_room, look_found, look_end, look_start, look_closed}
use Rattle.jpeg_header.proofs.comment.Goals as goal

pub returns-then-not-opens : goal.returns-then-not-opens
returns-then-not-opens c = look_closed c.args.s.now c.args.i (sym c.opens.ensures ∙ c.if-not-opens.true)

pub loop-next-init : goal.loop-next-init
loop-next-init c = rw c.fresh-state.ensures (look_start c.args.s.now c.args.i (sym c.opens.ensures ∙ c.if-not-opens.false))

pub text_at-requires : goal.text_at-requires
text_at-requires c =
    look_room c.args.s.now c.args.i c.loop-next.state c.in-Ok-More.next _ c.loop-next.invariant _ c.in-Ok-More.field-0-is c.in-Ok-More.ensures
    (sym c.at_comment.ensures ∙ c.if-at_comment.true)

pub returns-in_default-checked_sub : goal.returns-in_default-checked_sub
returns-in_default-checked_sub c =
    rw c.text_at.ensures
    (look_found c.args.s.now c.args.i c.loop-next.state c.in-Ok-More.next _ c.loop-next.invariant _ c.in-Ok-More.field-0-is c.in-Ok-More.ensures
    (sym c.at_comment.ensures ∙ c.if-at_comment.true) (omega (arith, c.in_default-checked_sub.ensures)))

pub loop-next-smaller-in-Some : goal.loop-next-smaller-in-Some
loop-next-smaller-in-Some c =
    look_down c.args.s.now c.args.i c.loop-next.state c.in-Ok-More.next _ c.loop-next.invariant _ c.in-Ok-More.field-0-is c.in-Ok-More.ensures

pub loop-next-preserved-in-Some : goal.loop-next-preserved-in-Some
loop-next-preserved-in-Some c =
    look_past c.args.s.now c.args.i c.loop-next.state c.in-Ok-More.next _ c.loop-next.invariant _ c.in-Ok-More.field-0-is c.in-Ok-More.ensures
    (all_bytes c.args.s.now (λ i. omega (arith, c.type_inv.s i))) (sym c.at_comment.ensures ∙ c.if-at_comment.true) c.in-Some.fewer
    (omega (arith, c.in-Some.ensures))

pub loop-next-smaller : goal.loop-next-smaller
loop-next-smaller c =
    look_down c.args.s.now c.args.i c.loop-next.state c.in-Ok-More.next _ c.loop-next.invariant _ c.in-Ok-More.field-0-is c.in-Ok-More.ensures

pub loop-next-preserved : goal.loop-next-preserved
loop-next-preserved c =
    look_on c.args.s.now c.args.i c.loop-next.state c.in-Ok-More.next _ c.loop-next.invariant _ c.in-Ok-More.field-0-is c.in-Ok-More.ensures
    (all_bytes c.args.s.now (λ i. omega (arith, c.type_inv.s i))) (sym c.at_comment.ensures ∙ c.if-at_comment.false)

pub returns-in_default : goal.returns-in_default
returns-in_default c = look_end c.args.s.now c.args.i c.loop-next.state _ c.loop-next.invariant _ c.step.ensures (λ g e. grind arith)

pub returns-in_default-2 : goal.returns-in_default-2
returns-in_default-2 c = look_end c.args.s.now c.args.i c.loop-next.state _ c.loop-next.invariant _ c.step.ensures (λ g e. grind arith)
