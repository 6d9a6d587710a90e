-- `fill`: the next length and the next symbol, each by the law of its step.
use Prim.Native.Nat.{ℕ, suc, ◌+◌, ◌-◌}
use mathlib.Core.Path.{◌≡◌, refl, sym, ap, ◌∙◌}
use mathlib.Core.List.{◌∷◌}
use native.Mathlib.Nat.{sub-zero}
use native.Mathlib.Numerals.{add-one}
use native.Mathlib.Omega.{arith}
use lib.ListN.{get_or, drop, length-drop}
use lib.Seq.{drop-cons}
use Rattle.whole.specs.Powers.{power_is}
use Rattle.jpeg_write_codes.proofs.Filled.{filling_start, filling_length, filling_symbol, filling_same, filling_end, filling_past, word_is}
use Rattle.jpeg_write_codes.proofs.fill.Goals as goal

pub loop-bits-init : goal.loop-bits-init
loop-bits-init c = filling_start c.args.t.now c.args.base _ c.args.words.now refl c.requires.1

pub loop-init : goal.loop-init
loop-init c =
    let t = c.args.t.now in
    let b = c.loop-bits.bits in
    let e : c.args.base + b - 1 ≡ c.args.base + (b - 1) = omega arith in (
      power_is b (omega arith),
      filling_length t c.args.base _ _ _ (b - 1) _ b _ c.loop-bits.invariant (omega arith) (omega arith) c.requires.0
          (sub-zero (get_or t (c.args.base + b - 1) 0) ∙ ap (λ (k : ℕ). get_or t k 0) e)
          (omega (arith, c.type_inv.t (c.args.base + b - 1))),
    )

pub returns-then-t-at : goal.returns-then-t-at
returns-then-t-at c =
    let t = c.args.t.now in
    filling_past t c.args.base _ _ _ _ _ _ c.loop.invariant.1 (length-drop c.loop.at t ∙ omega arith)

pub loop-preserved : goal.loop-preserved
loop-preserved c =
    let t = c.args.t.now in
    let b = c.loop-bits.bits in
    let at = c.loop.at in
    let o = get_or t (c.args.base + b - 1) 0 in
    let next : drop at t ≡ get_or t at 0 ∷ drop (at + 1) t =
    drop-cons t at 0 (omega arith) ∙ ap (λ (k : ℕ). get_or t at 0 ∷ drop k t) (sym (add-one at)) in
    let down : o - c.loop.counter ≡ suc (o - (c.loop.counter + 1)) = omega arith in (
      c.loop.invariant.0,
      filling_symbol _ _ _ _ _ _ _ _ _ _ _ _ _ c.loop.invariant.1 next down
          (word_is b c.loop.code c.loop.invariant.0) c.keep.ensures,
    )

pub loop-bits-preserved : goal.loop-bits-preserved
loop-bits-preserved c = filling_same _ _ _ _ _ _ _ _ _ _ c.loop.invariant.1 (omega arith) (omega arith)

pub returns : goal.returns
returns c = filling_end _ _ _ _ _ _ _ c.loop-bits.invariant (omega arith)
