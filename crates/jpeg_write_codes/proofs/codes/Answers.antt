-- `codes`: a table that the end of the file cuts lists no symbol.
use Rattle.std.proofs.Common.{◌+◌, ◌<◌, length, arith}
use Rattle.jpeg_write_codes.proofs.Filled.{codes_cut}
use Rattle.jpeg_write_codes.proofs.codes.Goals as goal
use Rattle.jpeg_write_codes.proofs.codes.Goals.{else-t-ge16-via-then-t-ge16+else-base-t, else-t-ge16-via-else-t-ge16}

pub returns-else-t-ge16 : goal.returns-else-t-ge16
returns-else-t-ge16 c =
    let short : length c.args.t.now < c.args.base + 16 =
    elim c.else-t-ge16.branch [
      | else-t-ge16-via-then-t-ge16+else-base-t w ↦ omega arith
      | else-t-ge16-via-else-t-ge16 w ↦ omega arith
    ] in
    codes_cut c.args.t.now c.args.base _ _ (c.fill.ensures.after (λ y e. e)) short
