use Rattle.std.proofs.Common.{ap, ◌∙◌, arith}
use Rattle.reading.proofs.FileBytes.{all_bytes}
use Rattle.c_functions.specs.Flat.{decoded}
use Rattle.c_functions.proofs.NoRecord.{asked_decodes}
use Rattle.c_functions.proofs.tillsparrow_decode.Goals as goal

pub returns : goal.returns
returns c =
    rw c.from.ensures
    (ap decoded ((rw (c.asked.ensures, c.fresh.ensures) at c.decode.ensures) ∙ asked_decodes _ (all_bytes c.args.bytes.now (λ i. omega (arith, c.type_inv.bytes i))) _ _ _ _))
