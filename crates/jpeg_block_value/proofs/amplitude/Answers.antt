-- `amplitude`: what was read fits what `meant` asks for.
use Rattle.std.proofs.Common.{sym, rules, w32, SFits}
use Rattle.std.proofs.lemmas.Result.{err_from_is_err_and}
use Rattle.reading.proofs.BitAnswers.{read_sized}
use Rattle.std.proofs.lemmas.Int.{to_z-of_z}
use Rattle.jpeg_block_value.proofs.Meanings.{amplitude_is, amplitude_cut}
use Rattle.jpeg_block_value.proofs.amplitude.Goals as goal

pub returns-in_err-v : goal.returns-in_err-v
returns-in_err-v c =
    let p = err_from_is_err_and c.from_residual.result c.from_residual.ensures.1 in
    rw (p.1, p.2) (sym (amplitude_cut _ _ _ c.read.ensures c.in_err-v.was))

pub meant-requires : goal.meant-requires
meant-requires c =
    let sized = read_sized _ _ _ c.read.ensures c.in_ok-v.was in
    (sized.few, sized.below)

pub returns : goal.returns
returns c =
    let fits : SFits w32 c.meant.result = search rules in
    rw (to_z-of_z, c.meant.ensures) (sym (amplitude_is _ _ _ c.read.ensures c.in_ok-v.was))
