use Rattle.std.proofs.Common.{◌≡◌, ◌∙◌, sym, Ok, rules, arith}
use Rattle.std.proofs.lemmas.Result.{err_from_is_err_and}
use Rattle.reading.specs.declared.Refusal.TheVariants.{NotItsRecord}
use Rattle.reading.proofs.FileBytes.{all_bytes}
use Rattle.jpeg_scan.proofs.OneMcu.{err_from_match}
use Rattle.jpeg.proofs.Draws.{draws_other, draws_stop, draws_done}
use Rattle.jpeg.proofs.draw.Goals as goal

pub returns-then-not-same : goal.returns-then-not-same
returns-then-not-same c =
    let a = c.args in
    let bytes = all_bytes a.s.now (λ i. omega (arith, c.type_inv.s i)) in
    λ rest. draws_other a.s.now bytes a.read a.found a.out.now a.scratch.now rest c.requires c.if-not-same.ensures

pub returns-in_err-map_err : goal.returns-in_err-map_err
returns-in_err-map_err c =
    let a = c.args in
    let bytes = all_bytes a.s.now (λ i. omega (arith, c.type_inv.s i)) in
    let p = err_from_is_err_and c.from_residual.result c.from_residual.ensures.1 in
    let r = err_from_match c.draw.result c.in_err-map_err.ensures.cases (λ x h. cc) in
    let is : c.in_err-map_err.field-0.0 ≡ NotItsRecord = search rules in
    λ rest. rw (p.1, p.2, is) (draws_stop a.s.now bytes a.read a.found a.out.now a.scratch.now rest c.requires c.if-not-same.ensures
    c.draw.new.scratch c.draw.ensures.1 (sym r.1 ∙ c.draw.ensures.0))

pub returns : goal.returns
returns c =
    let a = c.args in
    let bytes = all_bytes a.s.now (λ i. omega (arith, c.type_inv.s i)) in
    let on : c.draw.result ≡ Ok tt = search rules in
    λ rest. draws_done a.s.now bytes a.read a.found a.out.now a.scratch.now rest c.requires c.if-not-same.ensures
    c.draw.new.scratch c.draw.ensures.1 (sym on ∙ c.draw.ensures.0) c.picture.ensures
