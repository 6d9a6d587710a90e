-- `put_byte`: stored or not, the byte is counted up to the last place.
use mathlib.Core.Path.{◌≡◌, sym, ◌∙◌}
use native.Mathlib.Omega.{arith}
use lib.ListN.{set}
use lib.Seq.{set_out}
use Rattle.jpeg_write_bits.proofs.Bytes.{byte_is}
use Rattle.jpeg_write_bits.proofs.put_byte.Goals as goal
use Rattle.jpeg_write_bits.proofs.put_byte.Goals.{then-at-out, else-at-out}

pub returns : goal.returns
returns c =
    let stored : c.if-at-out.out ≡ set c.args.out.now c.args.at c.args.x = elim c.if-at-out.branch [ then-at-out w ↦ w.out-is | else-at-out w ↦ w.out-is ∙ sym (set_out _ _ _ w.if-at-out.false) ] in
    byte_is _ _ _ (omega arith) stored c.saturating_add.ensures
