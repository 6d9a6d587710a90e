-- What the code leaves in the buffers that are lent to it for samples.
-- It is here for the code: a contract of an inner function cites it, and nothing in it needs to be believed by someone who reads
-- the theorems of the calls.
use Rattle.std.specs.Prelude.{ℕ, ◌*◌, cond, List, ltb, take, length, ℤ}
use Rattle.reading.specs.declared.Bits.{Bits}
use Rattle.reading.specs.Tests.{over}
use Rattle.reading.specs.Scan.{Scanned, whole, broke}
use Rattle.reading.specs.Transform.{coefficients, samples}
use Rattle.reading.specs.Layout.{Shape, channel_of}
use Rattle.reading.specs.Reading.{all_samples}

-- the samples that a block's first n levels make, the others taken as 0, by a quantizer
unfoldable pub samples_to : List ℕ → List ℤ → ℕ → List ℕ
unfolding coefficients samples
samples_to q l n = samples (coefficients q (take n l))

-- what is left in a part that is lent for a block: the 64 samples, then what stood behind them; fewer than 64 bytes stay as they were
unfoldable pub painted : List ℕ → List ℤ → ℕ → List ℕ → List ℕ
unfolding samples_to
painted q l n out = cond (ltb (length out) 64) out (over (samples_to q l n) out)

-- what a scan of n blocks leaves in the scratch: the samples of its blocks, then the old tail; the scratch as it was on a fault, or where
-- it has no room for all blocks
unfoldable pub drawn : Shape → (ℕ → List ℕ) → ℕ → Scanned Bits (List (List ℤ)) → List ℕ → List ℕ
unfolding channel_of coefficients samples
drawn p quant n (whole ls b) old = cond (ltb (length old) (64 * n)) old (over (all_samples p quant ls) old)
drawn p quant n (broke w) old = old
