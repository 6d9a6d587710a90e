-- `put_block`: one turn writes its symbol, and the rest of the block is what comes behind it (`goes`, of Turns).
use Rattle.std.proofs.Common.{◌≡◌, ◌∙◌, sym, ap, refl, ℕ, ℤ, List, length, to_z, of_z, w32, arith}
use borrow.Author.Tests.{eqb-true, eqb-false}
use mir.Facts.{to_z-of_z}
use mir.Val.{SFits}
use Rattle.reading.specs.Settled.{block_by}
use Rattle.jpeg_write_codes.specs.Words.{coder_of}
use Rattle.jpeg_write_scan.specs.Steps.{onwards}
use Rattle.jpeg_write_scan.proofs.Writing.{onto_start, onto_more, onto_end, onto_lacks, lacks_then, puts_as, puts_symbol, puts_done, puts_lack, is_done, is_lack}
use Rattle.jpeg_write_scan.proofs.Turns.{goes, ends, zeros_behind, onwards_block, block_empty}
use Rattle.jpeg_write_scan.proofs.put_block.Goals as goal

-- the block, by the prediction as it is held
whole : (dc ac : List ℕ) (p : ℤ) (l : List ℤ) → SFits w32 p → block_by (coder_of dc) (coder_of ac) p l ≡ onwards dc ac (to_z w32 (of_z w32 p)) l 0 0
whole dc ac p l f =
    ap (λ (z : ℤ). block_by (coder_of dc) (coder_of ac) z l) (sym (to_z-of_z f)) ∙ sym (onwards_block dc ac (to_z w32 (of_z w32 p)) l 0)

pub returns-then-is_empty : goal.returns-then-is_empty
returns-then-is_empty c =
    is_lack refl (block_empty c.args.dc.now c.args.ac.now c.args.pred c.args.levels.now (eqb-true _ 0 (sym c.if-is_empty.ensures)))

pub loop-pen-init : goal.loop-pen-init
loop-pen-init c =
    record { full = omega (arith, eqb-false (length c.args.levels.now) 0 (sym c.if-is_empty.ensures)); within = omega arith; low = omega arith; onto = onto_start _ _ c.requires.0 }

pub overflow_add-place : goal.overflow_add-place
overflow_add-place c =
    omega (arith, (zeros_behind c.args.dc.now c.args.ac.now c.args.pred _ _ _ c.loop-pen.invariant.within c.loop-pen.invariant.low c.zeros_to-zeros.ensures).within)

pub overflow_add-run : goal.overflow_add-run
overflow_add-run c =
    let b = zeros_behind c.args.dc.now c.args.ac.now c.args.pred _ _ _ c.loop-pen.invariant.within c.loop-pen.invariant.low c.zeros_to-zeros.ensures in
    omega (arith, b.within, b.low)

pub returns-then-is_over : goal.returns-then-is_over
returns-then-is_over c =
    let i = c.loop-pen.invariant in
    puts_as (whole c.args.dc.now c.args.ac.now c.args.pred c.args.levels.now c.ranges.pred)
    (is_done (onto_end i.onto (ends c.args.dc.now c.args.ac.now _ c.args.levels.now _ _ i.full i.within i.low c.zeros_to-zeros.ensures c.if-is_over.ensures)))

pub returns-in_err-pen : goal.returns-in_err-pen
returns-in_err-pen c =
    let i = c.loop-pen.invariant in
    let g = goes c.args.dc.now c.args.ac.now _ c.args.levels.now _ _ i.full i.within i.low c.zeros_to-zeros.ensures c.if-is_over.ensures c.next-turn.ensures c.word_at-word.ensures in
    puts_as (whole c.args.dc.now c.args.ac.now c.args.pred c.args.levels.now c.ranges.pred)
    (is_lack c.from_residual.ensures (onto_lacks i.onto (g.same ∙ lacks_then _ (puts_lack (puts_symbol _ _ _ _ _ i.onto.proper g.few c.put_symbol.ensures) c.in_err-pen.was))))

pub loop-pen-smaller : goal.loop-pen-smaller
loop-pen-smaller c =
    let i = c.loop-pen.invariant in
    let g = goes c.args.dc.now c.args.ac.now _ c.args.levels.now _ _ i.full i.within i.low c.zeros_to-zeros.ensures c.if-is_over.ensures c.next-turn.ensures c.word_at-word.ensures in
    omega (arith, g.less)

pub loop-pen-preserved : goal.loop-pen-preserved
loop-pen-preserved c =
    let i = c.loop-pen.invariant in
    let g = goes c.args.dc.now c.args.ac.now _ c.args.levels.now _ _ i.full i.within i.low c.zeros_to-zeros.ensures c.if-is_over.ensures c.next-turn.ensures c.word_at-word.ensures in
    record {
      full = i.full;
      within = g.within;
      low = g.low;
      onto = onto_more i.onto _ _ g.same (puts_done (puts_symbol _ _ _ _ _ i.onto.proper g.few c.put_symbol.ensures) c.in_ok-pen.was);
    }
