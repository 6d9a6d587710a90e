-- A number's low bits, highest first: which numbers have the same ones, and bits behind others.
use Prim.Native.Nat.{ℕ, zero, suc, ◌+◌, ◌*◌, ◌-◌, ◌/◌, ◌%◌, ◌^◌, ◌<◌, ◌≤◌}
use mathlib.Core.Path.{◌≡◌, refl, sym, ap, ap₂, ◌∙◌}
use mathlib.Core.List.{◌∷◌, ◌++◌}
use native.Mathlib.Omega.{arith}
use native.Mathlib.Nat.{add_comm, mod-lt}
use lib.Pow.{pow_pos, high, low, shr-shr, field, mod-mod-pow}
use Rattle.reading.specs.Huffman.{bits_of}

-- a bit of the low k bits
bit_mod : (i k x : ℕ) → i < k → x % 2 ^ k / 2 ^ i % 2 ≡ x / 2 ^ i % 2
bit_mod i k x h = ap (λ n. x % 2 ^ n / 2 ^ i % 2) there ∙ ap (λ n. n % 2) (field x (k - i - 1 + 1) i) ∙ mod-mod-pow (x / 2 ^ i) (k - i - 1) 1
  where
    there : k ≡ k - i - 1 + 1 + i
    there = omega arith

-- the bits above the low k do not count
pub bits_mod : (n k x : ℕ) → n ≤ k → bits_of n (x % 2 ^ k) ≡ bits_of n x
bits_mod zero k x h = refl
bits_mod (suc n) k x h = ap₂ (λ b bs. b ∷ bs) (bit_mod n k x h) (bits_mod n k x (omega arith))

-- the bits of a, and the low n bits of b behind them
pub bits_append : (m n a b : ℕ) → bits_of (m + n) (a * 2 ^ n + b % 2 ^ n) ≡ bits_of m a ++ bits_of n b
bits_append zero n a b =
    ap (λ k. bits_of k (a * 2 ^ n + b % 2 ^ n)) none
    ∙ sym (bits_mod n n (a * 2 ^ n + b % 2 ^ n) (omega arith))
    ∙ ap (bits_of n) (low a n (mod-lt b (pow_pos n)))
    ∙ bits_mod n n b (omega arith)
  where
    none : 0 + n ≡ n
    none = omega arith
bits_append (suc m) n a b =
    ap (λ k. bits_of k (a * 2 ^ n + b % 2 ^ n)) next
    ∙ ap₂ (λ d ds. d ∷ ds) (ap (λ k. k % 2) top) (bits_append m n a b)
  where
    next : suc m + n ≡ suc (m + n)
    next = omega arith

    top : (a * 2 ^ n + b % 2 ^ n) / 2 ^ (m + n) ≡ a / 2 ^ m
    top =
        ap (λ k. (a * 2 ^ n + b % 2 ^ n) / 2 ^ k) (add_comm m n)
        ∙ sym (shr-shr (a * 2 ^ n + b % 2 ^ n) n m)
        ∙ ap (λ k. k / 2 ^ m) (high a n (mod-lt b (pow_pos n)))
