-- Bytes that do not contain 0 are all above it.
use Rattle.std.proofs.Common.{◌≡◌, ltb, take, drop, not, ap, ◌∙◌, arith}
use Rattle.std.proofs.lemmas.Bool.Decides.{nat_tests}
use Rattle.reading.specs.Tests.{all}
use Rattle.jpeg_header_rules.proofs.Walks.{zero_free}
use Rattle.jpeg_header_rules.proofs.quantizer_fits.Goals as goal

pub returns-then-byte_at-le3 : goal.returns-then-byte_at-le3
returns-then-byte_at-le3 c =
    let bytes = take 64 (drop 1 c.args.body.now) in
    let free : not c.contains.result ≡ all (ltb 0) bytes = ap not c.contains.ensures.value ∙ zero_free bytes in
    grind (arith, nat_tests)
