-- `filled`: no room, no byte, a marker, or a byte more.
use Rattle.std.proofs.Common.{◌≡◌, ◌<◌, get_or, refl, ap, ◌∙◌, sym, arith, shl_exact}
use Rattle.jpeg_bits_wide.specs.Cursor.{joined, byte_more}
use Rattle.jpeg_bits_wide.proofs.Filling.{more_full, more_out, more_data, more_last, more_bare, more_stuffed, cursor, filling_begun, filling_over, filling_on}
use Rattle.jpeg_bits_wide.proofs.filled.Goals as goal
use Rattle.jpeg_bits_wide.proofs.filled.Goals.{then-x+else-s-at-lt2+else-s-at-ne0, else-x, then-s-at-lt2-via-then-s-at-lt2, then-s-at-lt2-via-else-s-at-lt2+then-s-at-ne0}

pub loop-left-init : goal.loop-left-init
loop-left-init c = filling_begun _ _

pub loop-left-preserved : goal.loop-left-preserved
loop-left-preserved c =
    let s = c.args.s.now in
    let here = cursor c.loop-left.at c.loop-left.acc c.loop-left.left in
    let x = get_or s c.loop-left.at 0 in
    let room = c.loop-left-test.true in
    let there = c.if-at-s.true in
    let byte : x < 256 = omega arith in
    let moved : byte_more s here ≡ joined here x c.if-x.at =
    elim c.if-x.branch [
      | then-x+else-s-at-lt2+else-s-at-ne0 w ↦
          more_stuffed s here room there w.if-x.true (omega arith) w.if-s-at-ne0.false ∙ ap (λ k. joined here x k) (sym w.at-is)
      | else-x w ↦ more_data s here room there w.if-x.false ∙ ap (λ k. joined here x k) (sym w.at-is)
    ] in
    filling_on c.loop-left.invariant room x moved (shl_exact 8 _ 64 byte (omega arith)) refl

pub returns-after-loop-left : goal.returns-after-loop-left
returns-after-loop-left c = filling_over c.loop-left.invariant (more_full _ _ c.loop-left-test.false)

pub returns-else-at-s : goal.returns-else-at-s
returns-else-at-s c = filling_over c.loop-left.invariant (more_out _ _ c.loop-left-test.true c.if-at-s.false)

pub returns-then-s-at-lt2 : goal.returns-then-s-at-lt2
returns-then-s-at-lt2 c =
    let s = c.args.s.now in
    let here = cursor c.loop-left.at c.loop-left.acc c.loop-left.left in
    let room = c.loop-left-test.true in
    let there = c.if-at-s.true in
    let full = c.if-x.true in
    filling_over c.loop-left.invariant
    (elim c.then-s-at-lt2.branch [
      | then-s-at-lt2-via-then-s-at-lt2 w ↦ more_last s here room there full (omega arith)
      | then-s-at-lt2-via-else-s-at-lt2+then-s-at-ne0 w ↦ more_bare s here room there full (omega arith) w.if-s-at-ne0.true
    ])
