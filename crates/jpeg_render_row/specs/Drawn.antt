-- A buffer with pixels written into it, channels interleaved.
use Rattle.std.specs.Prelude.{ℕ, zero, suc, ◌+◌, ◌*◌, List, set}

-- f 0, .., f (n - 1) written from place a on
unfoldable pub written : (ℕ → ℕ) → ℕ → ℕ → List ℕ → List ℕ
written f a zero d = d
written f a (suc n) d = set (written f a n d) (a + n) (f n)

-- n pixels of `channels` bytes each written from place a on: p i c is channel c of pixel i
unfoldable pub pixels : (ℕ → ℕ → ℕ) → ℕ → ℕ → ℕ → List ℕ → List ℕ
pixels p channels a zero d = d
pixels p channels a (suc n) d = written (p n) (a + n * channels) channels (pixels p channels a n d)
