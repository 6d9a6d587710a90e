-- Where writing a part of a scan from here on ends, and what lies there then; or none for want of a code. Stated so, the scan's
-- definition, which is built from the last block backwards, is followed forwards.
use Rattle.std.specs.Prelude.{ℕ, List}
use Rattle.std.proofs.Math.Option.{Option, none, some}
use Rattle.reading.specs.Settled.{Coded}
use Rattle.jpeg_write_bits.specs.Page.{Spot, bytes_at, Page, pack_at}

-- a part of a scan from here on: its bits, padding, and the bytes from the next marker on
unfoldable pub coded_at : Page → Coded → Spot
coded_at q c = bytes_at (pack_at q c.bits) c.after

unfoldable pub final_at : Option Coded → Page → Option Spot
final_at none q = none
final_at (some c) q = some (coded_at q c)

-- the bytes of a settled scan, or none, put at a spot
abbrev pub scan_at : Spot → Option (List ℕ) → Option Spot
scan_at s none = none
scan_at s (some bytes) = some (bytes_at s bytes)
