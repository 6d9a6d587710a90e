-- The samples of a block as the rules say them: sample (x, y) is the double sum over the 64-entry basis, moved up and clamped.
--     double_sum_lem     `plane`, which sums row by row, is one plain double sum of 64 products
--     sample_at      the sample at row y and column x is that of the double sum
--     line_sum, line_small     an output of a line is a sum of eight products, at most 131072 times its largest input
--     length_samples, sample_small     there are 64 samples, each below 256
-- Assumes nothing.
use mathlib.Core.Path.{◌≡◌, refl, sym, ◌∙◌, ap, ap₂}
use mathlib.Core.Bool.{Bool, true, false, cond}
use mathlib.Core.List.{List, [], ◌∷◌}
use Prim.Native.Nat.{ℕ, zero, suc, ◌+◌, ◌*◌, ◌/◌, ◌%◌, ◌≤◌, ◌<◌}
use native.Mathlib.Nat.{zero-add, le_trans, mul-le-mul_left}
use native.Mathlib.Omega.{arith}
use borrow.Author.Tests.{leb-false}
use lib.Dec.{T, leb, leb→le}
use lib.ListN.{length, get_or}
use lib.IntN.{ℤ, pos, negsuc, nat_abs, ◌+ℤ◌, ◌*ℤ◌, zero-*ℤ, *ℤ-zero}
use Rattle.whole.specs.Ring.{*ℤ_distrib}
use Rattle.whole.specs.Expressions.{at, dot, weight, dot_small, Within}
use Rattle.whole.specs.Lists.{from, length_from, get_d_from}
use Rattle.reading.specs.Tests.{all}
use Rattle.reading.specs.Transform.{basis, weights, line, row, plane, clamped, sample_of, samples}
use Rattle.reading.proofs.Plain.{and_left, and_right}
pub use Rattle.basis.specs.Basis.{basis_at}
unfoldable pub use Rattle.reading.specs.Words.{sum_of, double_sum}

-- ---- sums

pub sum_cong : (n : ℕ) (f g : ℕ → ℤ) → ((j : ℕ) → f j ≡ g j) → sum_of n f ≡ sum_of n g
unfolding sum_of
sum_cong zero f g h = refl
sum_cong (suc n) f g h = ap₂ (λ a b. a +ℤ b) (h 0) (sum_cong n (λ j. f (suc j)) (λ j. g (suc j)) (λ j. h (suc j)))

pub sum_zero : (n : ℕ) (f : ℕ → ℤ) → ((j : ℕ) → f j ≡ pos 0) → sum_of n f ≡ pos 0
unfolding sum_of
sum_zero zero f h = refl
sum_zero (suc n) f h = ap₂ (λ a b. a +ℤ b) (h 0) (sum_zero n (λ j. f (suc j)) (λ j. h (suc j)))

-- a common factor
pub sum_by : (n : ℕ) (f : ℕ → ℤ) (k : ℤ) → sum_of n f *ℤ k ≡ sum_of n (λ j. f j *ℤ k)
unfolding sum_of
sum_by zero f k = zero-*ℤ k
sum_by (suc n) f k = *ℤ_distrib (f 0) (sum_of n (λ j. f (suc j))) k ∙ ap (λ a. f 0 *ℤ k +ℤ a) (sum_by n (λ j. f (suc j)) k)

-- a sum over a list of weights, which has no entry from n on
pub dot_sum : (ks : List ℤ) (f : ℕ → ℤ) (i n : ℕ) → length ks ≤ n → dot ks f i ≡ sum_of n (λ j. f (i + j) *ℤ at ks j)
unfolding sum_of
dot_sum [] f i n h = sym (sum_zero n (λ j. f (i + j) *ℤ pos 0) (λ j. *ℤ-zero (f (i + j))))
dot_sum (k ∷ ks) f i zero h = absurd (none h)
  where
    none : suc (length ks) ≤ 0 → ⊥
    none h = omega arith
dot_sum (k ∷ ks) f i (suc n) h =
    ap₂ (λ a b. f a *ℤ k +ℤ b) (here i)
    (dot_sum ks f (suc i) n (omega arith) ∙ sum_cong n (λ j. f (suc i + j) *ℤ at ks j) (λ j. f (i + suc j) *ℤ at ks j) (λ j. ap (λ m. f m *ℤ at ks j) (later i j)))
  where
    here : (i : ℕ) → i ≡ i + 0
    here i = omega arith

    later : (i j : ℕ) → suc i + j ≡ i + suc j
    later i j = omega arith

-- ---- the double sum

-- what is computed of each row of the basis holds of the weights of every output
every : (p : List ℤ → Bool) (rs : List (List ℤ)) → T (all p rs) → T (p []) → (x : ℕ) → T (p (get_or rs x []))
every p [] t n x = n
every p (r ∷ rs) t n zero = and_left (p r) (all p rs) t
every p (r ∷ rs) t n (suc x) = every p rs (and_right (p r) (all p rs) t) n x

pub each_weights : (p : List ℤ → Bool) → T (all p basis) → T (p []) → (x : ℕ) → T (p (weights x))
each_weights p = every p basis

pub weights_short : (x : ℕ) → length (weights x) ≤ 8
unfolding basis
weights_short x = leb→le (length (weights x)) 8 (each_weights (λ r. leb (length r) 8) tt tt x)

-- an output is the sum of eight products
pub line_sum : (f : ℕ → ℤ) (x : ℕ) → dot (weights x) f 0 ≡ sum_of 8 (λ j. f j *ℤ basis_at x j)
line_sum f x =
    dot_sum (weights x) f 0 8 (weights_short x)
    ∙ sum_cong 8 (λ j. f (0 + j) *ℤ basis_at x j) (λ j. f j *ℤ basis_at x j) (λ j. ap (λ m. f m *ℤ basis_at x j) (zero-add j))

-- the weights of an output are at most 8 x 16384 together
weights_light : (x : ℕ) → weight (weights x) ≤ 131072
unfolding basis
weights_light x = leb→le (weight (weights x)) 131072 (each_weights (λ r. leb (weight r) 131072) tt tt x)

pub line_small : (f : ℕ → ℤ) (B : ℕ) → ((i : ℕ) → nat_abs (f i) ≤ B) → (x : ℕ) → nat_abs (line f x) ≤ B * 131072
line_small f B h x = le_trans (dot_small f B h (weights x) 0) (mul-le-mul_left B (weights_light x))

pub row_small : {B : ℕ} {c : List ℤ} → Within B c → (v x : ℕ) → nat_abs (row c v x) ≤ B * 131072
unfolding row
row_small {B} {c} h v x = line_small (λ u. at c (8 * v + u)) B (λ u. h.each (8 * v + u)) x

pub double_sum_lem : (c : List ℤ) (y x : ℕ) → plane c y x ≡ double_sum c y x
unfolding plane row double_sum
double_sum_lem c y x =
    line_sum (λ v. row c v x) y
    ∙ sum_cong 8 (λ v. row c v x *ℤ basis_at y v) (λ v. sum_of 8 (λ u. at c (8 * v + u) *ℤ basis_at x u *ℤ basis_at y v))
    (λ v. ap (λ z. z *ℤ basis_at y v) (line_sum (λ u. at c (8 * v + u)) x) ∙ sum_by 8 (λ u. at c (8 * v + u) *ℤ basis_at x u) (basis_at y v))

-- ---- the samples

pub sample_at : (c : List ℤ) (y x : ℕ) → y < 8 → x < 8 → get_or (samples c) (8 * y + x) 0 ≡ sample_of (double_sum c y x)
unfolding samples
sample_at c y x hy hx =
    get_d_from (λ k. sample_of (plane c (k / 8) (k % 8))) 0 64 (8 * y + x) 0 (omega arith)
    ∙ ap sample_of (ap₂ (plane c) above beside ∙ double_sum_lem c y x)
  where
    above : (0 + (8 * y + x)) / 8 ≡ y
    above = omega arith

    beside : (0 + (8 * y + x)) % 8 ≡ x
    beside = omega arith

pub length_samples : (c : List ℤ) → length (samples c) ≡ 64
unfolding samples
length_samples c = length_from (λ k. sample_of (plane c (k / 8) (k % 8))) 0 64

pub clamped_small : (z : ℤ) → clamped z < 256
unfolding clamped
clamped_small (negsuc n) = omega arith
clamped_small (pos n) = go (leb n 0) (leb 273804165120 n) refl
  where
    go : (b t : Bool) → leb 273804165120 n ≡ t → cond b 0 (cond t 255 (n / 1073741824)) < 256
    go true t e = omega arith
    go false true e = omega arith
    go false false e = omega (arith, leb-false 273804165120 n e)

-- what holds of each f and of the default holds at every place
get_d_each : {A : Type 0} (P : A → Type 0) (f : ℕ → A) (d : A) → ((i : ℕ) → P (f i)) → P d → (i n k : ℕ) → P (get_or (from f i n) k d)
unfolding from
get_d_each P f d h e i zero k = e
get_d_each P f d h e i (suc n) zero = h i
get_d_each P f d h e i (suc n) (suc k) = get_d_each P f d h e (suc i) n k

pub sample_small : (c : List ℤ) (k : ℕ) → get_or (samples c) k 0 < 256
unfolding samples
sample_small c k = get_d_each (λ b. b < 256) (λ j. sample_of (plane c (j / 8) (j % 8))) 0 (λ j. clamped_small (plane c (j / 8) (j % 8) +ℤ pos 137975824384)) (omega arith) 0 64 k
