-- What the 64 numbers of the basis are nearest to, in whole numbers alone: 16384 cos (k π / 16) with k = (2x + 1) u at entry (x, u), or
-- 16384 / √2 in column 0. Law `basis-nearest` (proofs/Cosine): entry (x, u) is b exactly when `nearest x u b`.
--
-- What is left to believe is that `cosine s k` is twice the cosine of k of the 2 ^ s equal parts of a right angle, for k up to 2 ^ s.
-- Of the undivided angle: twice the cosine of 0 is 2, that of the right angle 0. With parts of half the size: the half-angle formula says
-- (2 cos t)² = 2 + 2 cos 2t, and up to the right angle no cosine is below 0, so 2 cos t is the root. Twice k small parts are k large ones;
-- where these go past the right angle, cos 2t = - cos (π - 2t), so that there is a minus under the root. Other angles are folded into the
-- right angle by that same equation (`nearest_in_half`) and by cos t = cos (2π - t) (`folded`).
use Rattle.std.specs.Prelude.{ℕ, zero, suc, ◌+◌, ◌*◌, ◌-◌, ◌%◌, ◌^◌, Bool, true, false, cond, leb, ℤ, pos, neg_ℤ, ◌+ℤ◌, ◌-ℤ◌, ◌*ℤ◌}
use Rattle.std.specs.Int.Signed.{lt_z, non_neg}
use Rattle.whole.specs.Tests.{◌and◌}

-- a tower of square roots: a whole number, or the root of 2 plus a tower, or the root of 2 minus a tower
pub data Tower : Type 0 where
  whole : ℕ → Tower
  root_of2_plus root_of2_minus : Tower → Tower

-- twice the cosine of k of the 2 ^ s parts of a right angle
abbrev pub cosine : ℕ → ℕ → Tower
cosine zero zero = whole 2
cosine zero (suc k) = whole 0
cosine (suc s) k = cond (leb k (2 ^ s)) (root_of2_plus (cosine s k)) (root_of2_minus (cosine s (2 ^ suc s - k)))

-- ---- which side of a tower a number lies on

pub data Side : Type 0 where
  below on above : Side

abbrev pub opposite : Side → Side
opposite below = above
opposite on = on
opposite above = below

-- the side of whole number b on which n lies
abbrev pub against : ℤ → ℤ → Side
against n b = cond (lt_z n b) below (cond (lt_z b n) above on)

-- the side of m towers on which n lies. A number below 0 lies below every root; from 0 on squares keep the order. So the side of m √(2 + t) on
-- which n lies is that of m² t on which n² - 2m² lies, and the side of m √(2 - t) is opposite to that of m² t on which 2m² - n² lies
abbrev pub side : ℤ → ℕ → Tower → Side
side n m (whole w) = against n (pos (m * w))
side n m (root_of2_plus t) = cond (non_neg n) (side (n *ℤ n -ℤ pos (2 * (m * m))) (m * m) t) below
side n m (root_of2_minus t) = cond (non_neg n) (opposite (side (pos (2 * (m * m)) -ℤ n *ℤ n) (m * m) t)) below

-- ---- the nearest whole number

abbrev pub is_below : Side → Bool
is_below below = true
is_below on = false
is_below above = false

abbrev pub is_above : Side → Bool
is_above s = is_below (opposite s)

-- b is nearest to 16384 halves of a tower: b - 1/2 lies below them and b + 1/2 above, so 2b - 1 and 2b + 1 below and above 16384 towers
abbrev pub nearest_to : Tower → ℤ → Bool
nearest_to t b = is_below (side (pos 2 *ℤ b -ℤ pos 1) 16384 t) and is_above (side (pos 2 *ℤ b +ℤ pos 1) 16384 t)

-- b is nearest to 16384 cos (k π / 16) for k up to 16, half a turn: past 8, the right angle, the cosine of k is that of 16 - k with the other
-- sign
abbrev pub nearest_in_half : ℕ → ℤ → Bool
nearest_in_half k b = cond (leb k 8) (nearest_to (cosine 3 k) b) (nearest_to (cosine 3 (16 - k)) (neg_ℤ b))

-- k folded at half a turn: a whole turn, 32, changes no cosine, and 32 - k has that of k
abbrev pub folded : ℕ → ℕ
folded k = cond (leb (k % 32) 16) (k % 32) (32 - k % 32)

-- the angle of entry (x, u), in sixteenths of π
abbrev pub angle : ℕ → ℕ → ℕ
angle x u = (2 * x + 1) * u

-- b is nearest to the exact weight of input u in output x at scale 16384: in column 0 to 16384 / √2, which is 16384 halves of √2
abbrev pub nearest : ℕ → ℕ → ℤ → Bool
nearest x zero b = nearest_to (root_of2_plus (whole 0)) b
nearest x (suc u) b = nearest_in_half (folded (angle x (suc u))) b
