-- `read`: bits of the current byte, then the first bit of the next one, till no more are wanted.
use Rattle.std.proofs.Common.{◌≡◌, ◌-◌, ◌<◌, refl, sym, ◌∙◌, arith, mod-lt, pow_pos}
use Rattle.std.proofs.lemmas.Result.{err_from_is_err_and}
use Rattle.whole.specs.Powers.{grown, grown_by}
use Rattle.reading.specs.Bits.{one}
use Rattle.reading.specs.Code.Answers.{read_of}
use Rattle.reading.proofs.BitAnswers.{bit_below}
use Rattle.jpeg_bits.proofs.Next.{one_fresh}
use Rattle.jpeg_bits.proofs.Field.{field_wide, field_is, field_done, field_more, field_cut, field_part}
use Rattle.jpeg_bits.proofs.read.Goals as goal

pub returns-then-n-gt16 : goal.returns-then-n-gt16
returns-then-n-gt16 c = sym (field_wide _ _ _ c.if-n-gt16.true)

pub returns-in_err-x : goal.returns-in_err-x
returns-in_err-x c =
    let p = err_from_is_err_and c.from_residual.result c.from_residual.ensures.1 in
    rw (p.1, p.2)
    (sym
    (field_is _ _ _ (omega arith)
    ∙ c.loop-here.invariant.same
    ∙ field_part _ _ _ _ c.loop-here.here.left 0 (omega arith) (omega arith) c.behind-value.ensures
    ∙ field_cut _ _ _ _ (omega arith) (c.fresh.ensures ∙ sym (one_fresh _ _ refl)) c.in_err-x.was))

pub loop-here-preserved : goal.loop-here-preserved
loop-here-preserved c =
    let opened : read_of c.fresh.result ≡ one c.args.s.now (record { at = c.loop-here.here.at; byte = c.loop-here.here.byte; left = 0 }) =
    c.fresh.ensures ∙ sym (one_fresh _ _ refl) in
    let below : c.in_ok-x.x < 2 = bit_below _ _ opened c.in_ok-x.was in
    let part = grown_by _ _ c.loop-here.here.left (omega arith) (omega arith) c.loop-here.invariant.small (mod-lt _ (pow_pos _)) in
    record {
      fewer = omega arith;
      small = grown _ _ (omega arith) (omega arith) (rw c.behind-value.ensures part) below;
      same = c.loop-here.invariant.same
          ∙ field_part _ _ _ _ c.loop-here.here.left 0 (omega arith) (omega arith) c.behind-value.ensures
          ∙ field_more _ _ _ _ (omega arith) opened c.in_ok-x.was;
    }

pub returns : goal.returns
returns c =
    sym
    (field_is _ _ _ (omega arith)
    ∙ c.loop-here.invariant.same
    ∙ field_part _ _ _ _ c.loop-here.more (c.loop-here.here.left - c.loop-here.more) (omega arith) (omega arith) c.behind-all.ensures
    ∙ field_done _ _ _ _ (omega arith))
