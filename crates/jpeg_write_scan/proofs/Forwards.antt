-- The definition of a settled scan builds from the last block backwards; the code goes forwards. What joins them: the bytes of
-- what is written so far and of what is to come are the same whichever is put first.
use Prim.Native.Nat.{ℕ}
use mathlib.Core.Path.{◌≡◌, refl, sym, ap, ◌∙◌}
use mathlib.Core.Bool.{true, false}
use mathlib.Core.List.{List, [], ◌∷◌, ◌++◌}
use mathlib.Core.Option.{Option, none, some}
use Rattle.reading.specs.Settled.{Written, Coded, pack_from, bytes_of, onto, cut, scan_bytes}
use Rattle.jpeg_write_bits.specs.Page.{Spot, spot, bytes_at, Page, page, fresh, put_all, pack_at, closed_at, Proper, restarted, end_at}
use Rattle.jpeg_write_bits.proofs.Closings.{bytes_append, pack_put, restarted_is, end_is}
use Rattle.jpeg_write_scan.specs.Puts.{Wrote}
use Rattle.jpeg_write_scan.specs.Join.{coded_at, final_at, scan_at}

-- ---- bits, and a part of a scan behind them

pub coded_put : (q : Page) (w : List ℕ) (c : Coded) → coded_at q (record { bits = w ++ c.bits; after = c.after }) ≡ coded_at (put_all q w) c
unfolding coded_at
coded_put q w c = ap (λ (s : Spot). bytes_at s c.after) (pack_put q w c.bits)

-- the whole part, from a fresh pen, is its bytes
pub coded_bytes : (out : List ℕ) (at : ℕ) (c : Coded) → coded_at (page out (fresh at)) c ≡ bytes_at (spot out at) (bytes_of c)
unfolding coded_at pack_at
coded_bytes out at c = sym (bytes_append (spot out at) (pack_from c.bits 0 8) c.after)

pub coded_restart : (q : Page) (code : ℕ) (c : Coded) → Proper q.pen → coded_at q (record { bits = []; after = 255 ∷ code ∷ bytes_of c }) ≡ coded_at (restarted q code) c
unfolding coded_at closed_at pack_at
coded_restart q code c h =
    bytes_append (pack_at q []) (255 ∷ code ∷ []) (bytes_of c)
    ∙ bytes_append (bytes_at (pack_at q []) (255 ∷ code ∷ [])) (pack_from c.bits 0 8) c.after
    ∙ ap (λ (r : Page). coded_at r c) (sym (restarted_is q h code))

-- ---- parts that may lack a code

pub final_put : {w : Written} {q q' : Page} (r : Option Coded) → Wrote w q q' → final_at (onto w r) q ≡ final_at r q'
unfolding final_at
final_put {w} {q} {q'} none g = rw g.told
final_put {w} {q} {q'} (some c) g =
    rw g.told (ap some (coded_put q g.bits c ∙ ap (λ (q : Page). coded_at q c) (sym g.same)))

pub final_lacks : {w : Written} (r : Option Coded) (q : Page) → w ≡ none → final_at (onto w r) q ≡ none
unfolding final_at
final_lacks r q e = rw e

pub final_restart : (code : ℕ) (r : Option Coded) (q : Page) → Proper q.pen → final_at (cut true code r) q ≡ final_at r (restarted q code)
unfolding final_at
final_restart code none q h = refl
final_restart code (some c) q h = ap some (coded_restart q code c h)

pub final_on : (code : ℕ) (r : Option Coded) (q : Page) → final_at (cut false code r) q ≡ final_at r q
unfolding final_at
final_on code none q = refl
final_on code (some c) q = refl

pub final_end : (q : Page) → Proper q.pen → final_at (some (record { bits = []; after = 255 ∷ 217 ∷ [] })) q ≡ some (end_at q)
unfolding final_at coded_at closed_at
final_end q h = ap some (end_is q h)

-- from a fresh pen all is the scan's bytes, put at its place
pub final_scan : (out : List ℕ) (at : ℕ) (r : Option Coded) → final_at r (page out (fresh at)) ≡ scan_at (spot out at) (scan_bytes r)
unfolding final_at
final_scan out at none = refl
final_scan out at (some c) = ap some (coded_bytes out at c)
