-- The one double sum fits, and its sample is written 64 times.
use Rattle.std.proofs.Common.{◌^◌, ℕ, ℤ, pos, ◌*ℤ◌, w16, w32, w64, to_z-of_z, ◌∙◌, ap, ap₂, rules}
use borrow.Author.Rules.{sfits_of}
use lib.Seq.{length-take-le}
use lib.ListN.{replicate}
use mir.Val.{SFits}
use Rattle.whole.specs.Expressions.{var, at, exact}
use Rattle.reading.specs.Colour.{to_byte}
use Rattle.jpeg_transform.specs.Halves.{by}
use Rattle.jpeg_transform.specs.Passes.{in_steps}
use Rattle.jpeg_transform.proofs.Coefficients.{flat_painted}
use Rattle.jpeg_transform.proofs.Passes.{byte_of_steps}
use Rattle.jpeg_transform.proofs.flat.Goals as goal

pub returns : goal.returns
returns c =
    let q = c.args.quantizer.now in
    let l = c.args.levels.now in
    let r = c.coefficient-first.ensures in
    let first = c.coefficient-first.result in
    let fits : SFits w16 (at l 0) = search rules in
    let is = r.0 ∙ ap₂ (λ (z : ℤ) (n : ℕ). z *ℤ pos n) (to_z-of_z {w = w16} fits) c.at_or.ensures in
    let read = exact w64 (λ i. first) (λ i. 2 ^ 23) (λ i. r.1) (by (var 0) 134212225) tt in
    let steps = to_z-of_z {w = w32} (sfits_of c.in_steps.type_inv) ∙ c.in_steps.ensures ∙ ap in_steps read in
    let b = c.to_byte.ensures in
    flat_painted q l c.args.out.now c.requires is (b.2 ∙ ap to_byte (b.1 ∙ steps) ∙ byte_of_steps (first *ℤ pos 134212225))
    (c.fill.ensures.after (λ y e. e) ∙ ap (λ n. replicate n c.to_byte.result) (length-take-le 64 c.args.out.now c.requires))
