-- Powers of two as the code meets them: `1 << n` in 64 bits, and a number that takes bits behind it. Assumes nothing.
use Rattle.std.specs.Prelude.{ℕ, suc, ◌+◌, ◌-◌, ◌*◌, ◌/◌, ◌%◌, ◌^◌, ◌<◌, ◌≤◌, ◌≡◌, refl}
use Rattle.std.proofs.Common.{sym, ◌∙◌, arith, pow-suc, mul_comm, mul_assoc, add-mul, add_assoc, lit<, pow-add, pow_mono, pow_pos}
use Rattle.std.proofs.Math.Arith.{mod-mul, digits_lt}

-- 1 << n
pub power_is : (n : ℕ) → n ≤ 63 → (1 * 2 ^ n) % 18446744073709551616 ≡ 2 ^ n
power_is n h =
    let m : 2 ^ n ≤ 2 ^ 63 = pow_mono {j = 63} h in
    omega arith

-- of n bits `more` are to come; k of those are read
pub grown_by : (n more k : ℕ) {v r : ℕ} → k ≤ more → more ≤ n → v < 2 ^ (n - more) → r < 2 ^ k → v * 2 ^ k + r < 2 ^ (n - (more - k))
grown_by n more k h le small l =
    let e : n - (more - k) ≡ n - more + k = omega arith in
    rw (e, pow-add 2 (n - more) k) (digits_lt small l)

-- one of those is read
pub grown : (n more : ℕ) {v c : ℕ} → 0 < more → more ≤ n → v < 2 ^ (n - more) → c < 2 → 2 * v + c < 2 ^ (n - (more - 1))
grown n more p le h l = omega (arith, grown_by n more 1 p le h l)

-- at most 16 bits make a number below 65536
pub small : (n more : ℕ) {v : ℕ} → n ≤ 16 → v < 2 ^ (n - more) → v < 65536
small n more le h =
    let m : 2 ^ (n - more) ≤ 2 ^ 16 = pow_mono {j = 16} (omega arith) in
    omega arith

pub twice_pow : (n : ℕ) → 2 ^ suc n ≡ 2 * 2 ^ n
twice_pow n = pow-suc 2 n ∙ mul_comm (2 ^ n) 2

digit : (acc d p r : ℕ) → (2 * acc + d) * p + r ≡ acc * (2 * p) + (d * p + r)
digit acc d p r = rw (add-mul (2 * acc) d p, mul_comm 2 acc, mul_assoc acc 2 p, add_assoc (acc * (2 * p)) (d * p) r) refl

-- v and then the low n + 1 bits of x: one bit of x behind v, and then the low n
pub one_more : (n v x : ℕ) → (2 * v + x / 2 ^ n % 2) * 2 ^ n + x % 2 ^ n ≡ v * 2 ^ suc n + x % 2 ^ suc n
one_more n v x = digit v (x / 2 ^ n % 2) (2 ^ n) (x % 2 ^ n) ∙ sym eq
  where
    eq : v * 2 ^ suc n + x % 2 ^ suc n ≡ v * (2 * 2 ^ n) + (x / 2 ^ n % 2 * 2 ^ n + x % 2 ^ n)
    eq = rw (twice_pow n, mod-mul x (lit< tt) (pow_pos n)) refl
