-- At first nothing is marked; a symbol that is new and may be listed is marked, and the walk goes on with those behind it.
use Rattle.std.proofs.Common.{refl, sym, ◌∙◌, arith, length-set}
use Rattle.jpeg_header_rules.proofs.Marks.{rest_first, rest_on}
use Rattle.jpeg_header_rules.proofs.symbols_fit.Goals as goal

pub loop-symbol-init : goal.loop-symbol-init
loop-symbol-init c = (refl, rest_first c.args.class 256 c.args.symbols.now)

pub loop-symbol-preserved : goal.loop-symbol-preserved
loop-symbol-preserved c =
    let listed = sym c.takes.ensures ∙ c.if-not-takes.false in (
      length-set _ _ _ ∙ c.loop-symbol.invariant.0,
      c.loop-symbol.invariant.1
          ∙ rest_on c.args.class _ c.args.symbols.now _ c.loop-symbol-test.true c.from-x.ensures (omega arith) c.if-met-x.false listed,
    )
