-- Its weights are those of the odd half.
use mathlib.Core.Path.{◌≡◌, refl, ◌∙◌}
use mathlib.Core.List.{[], ◌∷◌}
use Prim.Native.Nat.{ℕ, ◌^◌, ◌≤◌, ◌<◌}
use borrow.Author.Rules.{sfits_of}
use lib.IntN.{ℤ, nat_abs}
use lib.Signed.{mag}
use mir.Syntax.{w64}
use mir.Val.{to_z, of_z, hbits}
use mir.Facts.{to_z-of_z}
use Rattle.whole.specs.Expressions.{at}
use Rattle.jpeg_transform.specs.declared.Four.{Four}
use Rattle.jpeg_transform.specs.Halves.{odds0, odds1, odds2, odds3, weighed, odd_of}
use Rattle.jpeg_transform.proofs.Lines.{lent_is}
use Rattle.jpeg_transform.proofs.odd.Goals as goal

-- a result, as the machine reads it back
result : (f : ℕ → ℤ) → ((i : ℕ) → nat_abs (f i) ≤ 2 ^ 40) → (k : Four) {r : ℤ} → mag r < 2 ^ hbits w64
    → r ≡ weighed (to_z w64 (of_z w64 (f 0)), to_z w64 (of_z w64 (f 1)), to_z w64 (of_z w64 (f 2)), to_z w64 (of_z w64 (f 3))) k
    → to_z w64 (of_z w64 r) ≡ weighed (f 0, f 1, f 2, f 3) k
result f small k h e =
    let is = lent_is f small in
    to_z-of_z {w = w64} (sfits_of h) ∙ e ∙ rw (is 0, is 1, is 2, is 3) refl

pub returns : goal.returns
unfolding odd_of
returns c =
    let f = at (c.args.c1 ∷ c.args.c3 ∷ c.args.c5 ∷ c.args.c7 ∷ []) in
    rw (
      result f c.requires.each odds0 c.weighed-o0.type_inv c.weighed-o0.ensures,
      result f c.requires.each odds1 c.weighed-o1.type_inv c.weighed-o1.ensures,
      result f c.requires.each odds2 c.weighed-o2.type_inv c.weighed-o2.ensures,
      result f c.requires.each odds3 c.weighed-o3.type_inv c.weighed-o3.ensures,
    )
    refl
