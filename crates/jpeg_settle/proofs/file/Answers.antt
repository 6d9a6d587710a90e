use Rattle.std.proofs.Common.{◌<◌, ◌^◌, length, ap, ◌∙◌, arith}
use Rattle.std.proofs.lemmas.Result.{err_from_is_err_and}
use Rattle.jpeg_settle.specs.Refiled.{joined}
use Rattle.jpeg_settle.proofs.Refiling.{file_unsettled, file_within, file_done}
use Rattle.jpeg_settle.proofs.file.Goals as goal

pub returns-in_err-n : goal.returns-in_err-n
returns-in_err-n c =
    let few : length c.args.s.now < 2 ^ 63 = omega arith in
    let p = err_from_is_err_and c.from_residual.result c.from_residual.ensures.1 in
    λ rest. rw (p.1, p.2) (file_unsettled c.args.s.now c.args.found few rest c.args.out.now c.scan.new.out c.in_err-n.field-0.0 c.in_err-n.ensures.0 c.scan.ensures.1)

pub join-requires : goal.join-requires
join-requires c =
    let few : length c.args.s.now < 2 ^ 63 = omega arith in
    file_within c.args.s.now c.args.found few c.in_ok-n.ensures.0

pub returns : goal.returns
returns c =
    let few : length c.args.s.now < 2 ^ 63 = omega arith in
    λ rest. c.join.ensures rest ∙ ap (joined c.args.s.now c.args.found.start c.in_ok-n.n rest) c.scan.ensures.1
    ∙ file_done c.args.s.now c.args.found few c.in_ok-n.ensures.0 rest c.args.out.now
