-- What is promised of a block at a cursor is that it is alike the block at each bit place that the cursor meets, and the other way round.
use Prim.Native.Nat.{ℕ, ◌<◌}
use mathlib.Core.Path.{◌≡◌, refl, sym, ap, subst}
use mathlib.Core.Bool.{Bool, true, false, true≢false}
use mathlib.Core.List.{List, []}
use lib.IntN.{ℤ, pos}
use lib.ListN.{get_or}
use Rattle.reading.specs.declared.Bits.{Bits}
use Rattle.reading.specs.declared.Fault.{Fault}
use Rattle.reading.specs.declared.Fault.TheVariants.{Broken}
use Rattle.std.specs.Prelude.{Result, Ok, Err}
use Rattle.reading.specs.declared.BlockRead.{BlockRead}
use Rattle.reading.specs.Reader.{Read, got, fault}
use Rattle.reading.specs.Bits.{one}
use Rattle.reading.specs.Huffman.{Table, table_at}
use Rattle.reading.specs.Block.{block}
use Rattle.reading.specs.Code.Places.{places}
use Rattle.reading.specs.Code.Coming.{Plain, plain, pop, pending}
use Rattle.reading.proofs.Same.{Alike, block_alike}
use Rattle.reading.proofs.Unstuffed.{Pending, one_alike}
use Rattle.jpeg_bits_wide.specs.declared.Wide.{Wide}
use Rattle.jpeg_bits_wide.specs.Cursor.{to_come, Meets}
use Rattle.jpeg_bits_wide.proofs.Meeting.{pending_there}
use Rattle.jpeg_block_wide.specs.Blocks.{BlockAlike, BlockMeets, Said, saying, told, heard, Sound, Begun, Promised}

-- ---- from alike to what is promised

alike_told :
    (s : List ℕ) (x : Read Bits (List ℤ)) (r : Result (BlockRead Wide) Fault) (levels : List ℤ)
    → BlockAlike s x r levels
    → (told s r levels ≡ heard s x) × Sound r
unfolding heard
alike_told s (got l b) (Ok r) levels h = (both h.0 h.1 h.2 h.3.same, h.3.proper)
  where
    both :
        levels ≡ l
        → r.first ≡ get_or l 0 (pos 0)
        → r.reach ≡ places l
        → to_come s r.after ≡ pending s b
        → got (saying levels r.first r.reach) (to_come s r.after) ≡ got (saying l (get_or l 0 (pos 0)) (places l)) (pending s b)
    both u v x y = cc
alike_told s (got l b) (Err f) levels h = absurd h
alike_told s (fault f) (Ok r) levels h = absurd h
alike_told s (fault f) (Err g) levels h = (ap fault (sym h), tt)

pub promised :
    (t : List ℕ) (dc ac : ℕ) (look : List ℕ) (c : ℕ) (s : List ℕ) (from : Wide) (p : ℤ) (r : Result (BlockRead Wide) Fault) (levels : List ℤ)
    → BlockMeets t dc ac look c s from p r levels
    → Promised t dc ac look c s from p r levels
unfolding BlockMeets
promised t dc ac look c s from p r levels v o =
    alike_told s (block (one s) (table_at t dc) (table_at t ac) p o.place) r levels (v o.tabled o.place o.meets)

-- ---- and back

said_in : Read Plain Said → Said
said_in (got a p) = a
said_in (fault f) = record { levels = []; first = pos 0; reach = 0 }

place_in : Read Plain Said → Plain
place_in (got a p) = p
place_in (fault f) = plain [] []

fault_in : Read Plain Said → Fault
fault_in (got a p) = Broken
fault_in (fault f) = f

is_got : Read Plain Said → Bool
is_got (got a p) = true
is_got (fault f) = false

-- a place behind a block has fewer than eight bits of its byte left
behind_few :
    (s : List ℕ) (dc ac : Table) (p : ℤ) {b : Bits} {w : Wide}
    → Meets s b w
    → (x : Read Bits (List ℤ))
    → block (one s) dc ac p b ≡ x
    → (y : Read Plain (List ℤ))
    → Alike (Pending s) x y
    → (l : List ℤ) (q : Bits)
    → x ≡ got l q
    → q.left < 8
behind_few s dc ac p m (got l b) e (got k u) h l' q g = subst (λ (i : Bits). i.left < 8) (at g) h.1.1
  where
    placed : Read Bits (List ℤ) → Bits
    placed (got a i) = i
    placed (fault f) = b

    at : got l b ≡ got l' q → b ≡ q
    at g = ap placed g
behind_few s dc ac p m (got l b) e (fault f) h l' q g = absurd h
behind_few s dc ac p m (fault f) e y h l' q g = absurd (true≢false (sym (ap there g)))
  where
    there : Read Bits (List ℤ) → Bool
    there (got a i) = true
    there (fault f) = false

told_alike :
    (s : List ℕ) (x : Read Bits (List ℤ)) (r : Result (BlockRead Wide) Fault) (levels : List ℤ)
    → ((l : List ℤ) (q : Bits) → x ≡ got l q → q.left < 8)
    → told s r levels ≡ heard s x
    → Sound r
    → BlockAlike s x r levels
unfolding heard said_in place_in is_got fault_in
told_alike s (got l b) (Ok r) levels few e sound = (
  ap (λ y. (said_in y).levels) e,
  ap (λ y. (said_in y).first) e,
  ap (λ y. (said_in y).reach) e,
  record { proper = sound; same = ap place_in e; few = few l b refl },
)
told_alike s (got l b) (Err f) levels few e sound = absurd (true≢false (sym (ap is_got e)))
told_alike s (fault f) (Ok r) levels few e sound = absurd (true≢false (ap is_got e))
told_alike s (fault f) (Err g) levels few e sound = sym (ap fault_in e)

pub meets_block :
    (t : List ℕ) (dc ac : ℕ) (look : List ℕ) (c : ℕ) (s : List ℕ) (from : Wide) (p : ℤ) (r : Result (BlockRead Wide) Fault) (levels : List ℤ)
    → Promised t dc ac look c s from p r levels
    → BlockMeets t dc ac look c s from p r levels
unfolding BlockMeets
meets_block t dc ac look c s from p r levels v tabled b m =
    let o : Begun t dc ac look c s from = record { tabled = tabled; place = b; meets = m } in
    let x = block (one s) (table_at t dc) (table_at t ac) p b in
    told_alike s x r levels
    (behind_few s (table_at t dc) (table_at t ac) p m x refl (block pop (table_at t dc) (table_at t ac) p (to_come s from))
    (block_alike (Pending s) (one s) pop (one_alike s) (table_at t dc) (table_at t ac) p b (to_come s from) (pending_there m)))
    (v o).0 (v o).1
