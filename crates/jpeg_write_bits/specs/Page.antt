-- Bits put into bytes, forwards: a page is a lent list of bytes and a pen.
use Rattle.std.specs.Prelude.{ℕ, ◌+◌, ◌*◌, ◌-◌, ◌^◌, ◌≡◌, Bool, true, false, cond, List, [], ◌∷◌, eqb, ltb, leb, set, Option, Some, None}
use Rattle.std.proofs.Math.Option.{none, some}
use Rattle.reading.specs.Settled.{Written, pack_from}
use Rattle.reading.specs.Tests.{◌and◌, within}
use Rattle.jpeg_write_codes.specs.Words.{word_code}
use Rattle.jpeg_write_bits.specs.declared.Pen.{Pen}

-- the bytes, and where the next one goes
pub record Spot : Type 0 where
  pub bytes : List ℕ
  pub place : ℕ

abbrev pub spot : List ℕ → ℕ → Spot
spot out at = record { bytes = out; place = at }

-- the next place; the largest is its own
abbrev pub following : ℕ → ℕ
following at = cond (ltb at 18446744073709551615) (at + 1) at

-- a byte is stored where there is room (`set` past the end changes nothing), and counted in any case
unfoldable pub byte_at : Spot → ℕ → Spot
byte_at s x = record { bytes = set s.bytes s.place x; place = following s.place }

unfoldable pub stuffed_at : Spot → ℕ → Spot
stuffed_at s x = cond (eqb x 255) (byte_at (byte_at s x) 0) (byte_at s x)

-- bytes one after the other
unfoldable pub bytes_at : Spot → List ℕ → Spot
bytes_at s [] = s
bytes_at s (x ∷ xs) = bytes_at (byte_at s x) xs

pub record Page : Type 0 where
  pub out : List ℕ
  pub pen : Pen

abbrev pub page : List ℕ → Pen → Page
page out p = record { out = out; pen = p }

abbrev pub fresh : ℕ → Pen
fresh at = record { at = at; value = 0; missing = 8 }

abbrev pub paged : Spot → ℕ → ℕ → Page
paged s v m = record { out = s.bytes; pen = record { at = s.place; value = v; missing = m } }

abbrev pub spot_of : Page → Spot
spot_of q = spot q.out q.pen.at

abbrev pub put_next : ℕ → ℕ → Spot → (Spot → ℕ → ℕ → Page) → Bool → Page
put_next w m s more true = more (stuffed_at s w) 0 8
put_next w m s more false = more s w (m - 1)

-- bits behind those that make v, where m are missing
unfoldable pub put_from : List ℕ → Spot → ℕ → ℕ → Page
put_from [] s v m = paged s v m
put_from (b ∷ bs) s v m = put_next (2 * v + b) m s (put_from bs) (eqb m 1)

unfoldable pub put_all : Page → List ℕ → Page
put_all q bs = put_from bs (spot_of q) q.pen.value q.pen.missing

-- what waits, and bits behind it, as bytes from here on, padded
unfoldable pub pack_at : Page → List ℕ → Spot
pack_at q cs = bytes_at (spot_of q) (pack_from cs q.pen.value q.pen.missing)

-- the padding
unfoldable pub closed_at : Page → Spot
unfolding pack_at
closed_at q = pack_at q []

-- a pen as writing leaves it: its byte wants 1 to 8 bits, and those that it has make the value
unfoldable pub proper : Pen → Bool
proper p = within 1 8 p.missing and ltb p.value (2 ^ (8 - p.missing))

abbrev pub Proper : Pen → Type 0
Proper p = proper p ≡ true

-- ---- what is written by a pen: nothing, where it is not proper

-- the padding, then a marker, then a fresh pen
unfoldable pub restarted : Page → ℕ → Page
restarted q code = cond (proper q.pen) (paged (bytes_at (closed_at q) (255 ∷ code ∷ [])) 0 8) q

-- the padding, then the last marker
unfoldable pub end_at : Page → Spot
end_at q = cond (proper q.pen) (bytes_at (closed_at q) (255 ∷ 217 ∷ [])) (spot_of q)

-- the code of a word, and the low bits of a field behind it, of which there are at most 12
unfoldable pub symbol_bits : Pen → ℕ → ℕ → ℕ → Written
symbol_bits p word field size = cond (proper p and leb size 12) (word_code word field size) none

-- what a writer answers, and the bytes as it leaves them
pub record Stroke : Type 0 where
  pub ink : Option Pen
  pub out : List ℕ

abbrev pub stroke : Option Pen → List ℕ → Stroke
stroke r out = record { ink = r; out = out }

-- bits put to a page; for want of a code it stays as it was
unfoldable pub stroke_of : Written → Page → Stroke
stroke_of none q = stroke None q.out
stroke_of (some bs) q = stroke (Some (put_all q bs).pen) (put_all q bs).out
