-- `word`: fewer than four bytes, a 255 among them, or the number.
use Rattle.std.proofs.Common.{◌+◌, ◌<◌, length, sym, ap, ◌∙◌, Some, arith}
use Rattle.jpeg_bits_wide.proofs.Words.{word_short, word_marked, word_whole}
use Rattle.jpeg_bits_wide.proofs.word.Goals as goal

pub returns-in_err-get : goal.returns-in_err-get
returns-in_err-get c =
    let short : length c.args.s.now < c.args.at + 4 = omega (arith, c.in_err-get.ensures) in
    c.from_residual.ensures ∙ word_short _ _ short

pub returns-in_err-bytes : goal.returns-in_err-bytes
returns-in_err-bytes c =
    let few = c.in_err-bytes.ensures.cases in
    let from = c.in_ok-get.ensures.lookup.0 in
    c.from_residual-in_err-bytes.ensures ∙ word_short _ _ (omega (arith, few, from))

pub returns-then-contains : goal.returns-then-contains
returns-then-contains c =
    let from = c.in_ok-get.ensures.lookup.0 in
    let bytes = c.in_ok-bytes.ensures.cases in
    word_marked _ _ (omega (arith, from, bytes)) from.2 bytes.0 (sym c.if-contains.true ∙ c.contains.ensures.value)

pub returns : goal.returns
returns c =
    let from = c.in_ok-get.ensures.lookup.0 in
    let bytes = c.in_ok-bytes.ensures.cases in
    ap Some c.from_be_bytes.ensures
    ∙ word_whole _ _ (omega (arith, from, bytes)) from.2 bytes.0 (sym c.if-contains.false ∙ c.contains.ensures.value)
