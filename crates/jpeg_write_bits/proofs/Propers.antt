-- A proper pen has begun a byte, and stays proper: whatever bits of a number are put, and behind a restart.
use Prim.Native.Nat.{ℕ, zero, suc, ◌+◌, ◌*◌, ◌-◌, ◌/◌, ◌%◌, ◌^◌, ◌<◌}
use mathlib.Core.Path.{◌≡◌, refl, sym}
use mathlib.Core.Bool.{Bool, true, false, true≢false}
use native.Mathlib.Omega.{arith}
use native.Mathlib.Nat.{mod-lt}
use lib.Dec.{eqb, ltb, leb, lit<}
use borrow.Author.Tests.{ltb-true, leb-true, eqb-false, lt-ltb, le-leb}
use Rattle.reading.specs.Huffman.{bits_of}
use Rattle.reading.specs.Tests.{◌and◌, within}
use Rattle.whole.specs.Powers.{grown}
use Rattle.jpeg_write_bits.specs.declared.Pen.{Pen}
use Rattle.jpeg_write_bits.specs.Page.{Spot, stuffed_at, Page, fresh, spot_of, put_next, put_from, put_all, proper, Proper}
use Rattle.jpeg_write_bits.proofs.Bytes.{Begun, begun_none}

-- ---- the test

module _ (p : Pen) where
  pub byte_wants : within 1 8 p.missing ≡ false → false ≡ proper p
  unfolding proper
  byte_wants h = rw h

  pub by_value : {q : ℕ} → within 1 8 p.missing ≡ true → q ≡ 2 ^ (8 - p.missing) → ltb p.value q ≡ proper p
  unfolding proper
  by_value h e = rw (h, e)

pub proper_begun : (p : Pen) → Proper p → Begun p.value p.missing
unfolding proper
proper_begun p h = go (leb 1 p.missing) refl (leb p.missing 8) refl (ltb p.value (2 ^ (8 - p.missing))) refl h
  where
    go : (a : Bool) → leb 1 p.missing ≡ a → (b : Bool) → leb p.missing 8 ≡ b → (c : Bool) → ltb p.value (2 ^ (8 - p.missing)) ≡ c → (a and b) and c ≡ true → Begun p.value p.missing
    go true e true f true g h = record { some = leb-true 1 p.missing e; few = leb-true p.missing 8 f; low = ltb-true p.value (2 ^ (8 - p.missing)) g }
    go true e true f false g h = absurd (true≢false (sym h))
    go true e false f c g h = absurd (true≢false (sym h))
    go false e b f c g h = absurd (true≢false (sym h))

pub begun_proper : (p : Pen) → Begun p.value p.missing → Proper p
unfolding proper
begun_proper p b = rw (le-leb 1 p.missing b.some, le-leb p.missing 8 b.few, lt-ltb p.value (2 ^ (8 - p.missing)) b.low)

pub begun_fresh : {p : Pen} {at : ℕ} → p ≡ fresh at → Begun p.value p.missing
begun_fresh e = rw e begun_none

pub fresh_proper : (at : ℕ) → Proper (fresh at)
fresh_proper at = begun_proper (fresh at) begun_none

-- ---- bits

abbrev BegunAt : Page → Type 0
BegunAt q = Begun q.pen.value q.pen.missing

begun_from : (n x : ℕ) (s : Spot) (v m : ℕ) → Begun v m → BegunAt (put_from (bits_of n x) s v m)
unfolding put_from
begun_from zero x s v m b = b
begun_from (suc n) x s v m b = go (eqb m 1) refl (begun_from n x)
  where
    bit : x / 2 ^ n % 2 < 2
    bit = mod-lt (x / 2 ^ n) (lit< tt)

    go : (t : Bool) → eqb m 1 ≡ t → ((s : Spot) (v m : ℕ) → Begun v m → BegunAt (put_from (bits_of n x) s v m)) → BegunAt (put_next (2 * v + x / 2 ^ n % 2) m s (put_from (bits_of n x)) t)
    go true e ih = ih (stuffed_at s (2 * v + x / 2 ^ n % 2)) 0 8 begun_none
    go false e ih =
        ih s (2 * v + x / 2 ^ n % 2) (m - 1)
        (record { some = omega (arith, b.some, eqb-false m 1 e); few = omega (arith, b.few); low = grown 8 m b.some b.few b.low bit })

pub proper_bits : (q : Page) (n x : ℕ) → Proper q.pen → Proper (put_all q (bits_of n x)).pen
unfolding put_all
proper_bits q n x h = begun_proper (put_all q (bits_of n x)).pen (begun_from n x (spot_of q) q.pen.value q.pen.missing (proper_begun q.pen h))
