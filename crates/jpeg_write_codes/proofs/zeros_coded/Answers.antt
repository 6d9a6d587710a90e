-- `zeros_coded`: what the test of each table answers.
use Rattle.std.proofs.Common.{◌≡◌, ◌*◌, get_or, refl, rules, tests}
use native.Mathlib.Nat.{sub-zero}
use Rattle.std.proofs.lemmas.Iterator.{cases_from_all, YieldsList-from_range}
use Rattle.jpeg_write_codes.proofs.Sureness.{coded_cases}
use Rattle.jpeg_write_codes.proofs.zeros_coded.Goals as goal

pub returns : goal.returns
returns c =
    let ws = c.args.words.now in
    coded_cases ws _ c.args.tables
    (cases_from_all _ _ _ (λ i. get_or ws (256 * i) 0 ≡ 0 → ⊥) (λ i. get_or ws (256 * i) 0 ≡ 0) c.all.ensures.ran
    (YieldsList-from_range 0 c.args.tables c.args.tables refl (sub-zero c.args.tables))
    (λ x q k. search (rules, tests)) (λ x q k. search (rules, tests)))
