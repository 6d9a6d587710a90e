-- The length of a scan does not depend on the bytes that lie there: so it is known before anything is written.
use Prim.Native.Nat.{ℕ}
use mathlib.Core.Path.{◌≡◌, refl, sym, ap, ◌∙◌}
use mathlib.Core.List.{List, [], ◌∷◌}
use mathlib.Core.Option.{Option, none, some}
use Rattle.reading.specs.Settled.{Coded, pack_from}
use Rattle.jpeg_write_bits.specs.declared.Pen.{Pen}
use Rattle.jpeg_write_bits.specs.Page.{Spot, spot, byte_at, bytes_at, following, pack_at, page}
use Rattle.jpeg_write_scan.specs.Join.{final_at, coded_at}

-- where writing ends
abbrev pub ending : Option Spot → Option ℕ
ending none = none
ending (some s) = some s.place

-- the place behind bytes
abbrev end_of : ℕ → List ℕ → ℕ
end_of at [] = at
end_of at (x ∷ xs) = end_of (following at) xs

place_is : (xs : List ℕ) (s : Spot) → (bytes_at s xs).place ≡ end_of s.place xs
unfolding bytes_at byte_at
place_is [] s = refl
place_is (x ∷ xs) s = place_is xs (byte_at s x)

coded_place : (d : List ℕ) (p : Pen) (c : Coded) → (coded_at (page d p) c).place ≡ end_of (end_of p.at (pack_from c.bits p.value p.missing)) c.after
unfolding coded_at pack_at
coded_place d p c =
    place_is c.after (bytes_at (spot d p.at) (pack_from c.bits p.value p.missing))
    ∙ ap (λ n. end_of n c.after) (place_is (pack_from c.bits p.value p.missing) (spot d p.at))

-- two passes with the same pen end alike, whatever lies in their buffers
pub measured : (w : Option Coded) (d d' : List ℕ) (p : Pen) → ending (final_at w (page d p)) ≡ ending (final_at w (page d' p))
unfolding final_at
measured none d d' p = refl
measured (some c) d d' p = ap some (coded_place d p c ∙ sym (coded_place d' p c))
