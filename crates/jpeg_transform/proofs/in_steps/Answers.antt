-- The sum fits, the shift rounds down, and what it leaves fits 32 bits.
use Rattle.std.proofs.Common.{◌≡◌, ◌≤◌, ◌^◌, ℤ, pos, negsuc, nat_abs, ◌+ℤ◌, w32, w64, to_z, of_z, to_z-of_z, arith}
use lib.Dec.{leb→le}
use lib.Signed.{shr_z}
use mir.Val.{SFits}
use Rattle.whole.specs.Expressions.{abs_add, fits_abs}
use Rattle.whole.specs.Signs.{shifted}
use Rattle.jpeg_transform.specs.Passes.{in_steps}
use Rattle.jpeg_transform.proofs.in_steps.Goals as goal

narrow : (z : ℤ) → nat_abs z ≤ 288230376151711744 → SFits w32 (shr_z z 1073741824)
narrow (pos a) h = record { sfits = omega arith }
narrow (negsuc a) h = record { sfits = omega arith }

-- the machine's steps of the number x, which is v
stepped : (x v : ℤ) → x ≡ v → nat_abs v ≤ 2 ^ 57
    → to_z w32 (of_z w32 (to_z w64 (of_z w64 (shr_z (to_z w64 (of_z w64 (x +ℤ pos 137975824384))) 1073741824)))) ≡ in_steps v
unfolding in_steps
stepped x v e h =
    let small = abs_add v (pos 137975824384) {n = 2 ^ 57} h (leb→le 137975824384 (2 ^ 57) tt) in
    let fits : SFits w64 (v +ℤ pos 137975824384) = fits_abs small tt in
    rw (e, shifted w64 1073741824 (to_z-of_z fits) fits) (to_z-of_z (narrow (v +ℤ pos 137975824384) small))

pub returns : goal.returns
returns c = stepped _ c.args.v (to_z-of_z c.ranges.v) c.requires
