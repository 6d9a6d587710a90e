use Rattle.std.proofs.Common.{◌∙◌, arith}
use Rattle.tillsparrow_streams.proofs.Listed.{Fours, listed}
use Rattle.tillsparrow_streams.proofs.NumbersFromRecord.from.Goals as goal

pub returns : goal.returns
returns c =
    let r = c.args.found in
    let fours : Fours r =
    record {
      across = omega arith;
      down = omega arith;
      ids = omega arith;
      qids = omega arith;
      dcids = omega arith;
      acids = omega arith;
      quants = omega arith;
      dcs = omega arith;
      acs = omega arith;
    } in
    listed r fours _ _ _ _ c.copy_from_slice.ensures.after (c.copy_from_slice-2.ensures.after ∙ c.as_flattened.ensures.value) c.copy_from_slice-3.ensures.after c.from.ensures
