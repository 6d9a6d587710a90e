-- What an engine reads, whose places are of a kind of their own: at every cursor of the scan that its cursor follows it reads what the rules
-- read there.
use Rattle.std.specs.Prelude.{ℕ, ◌≡◌, List, ℤ, pos, get_or, take, Result, Ok, Err}
use Rattle.reading.specs.declared.Bits.{Bits}
use Rattle.reading.specs.declared.BlockRead.{BlockRead}
use Rattle.reading.specs.declared.Fault.{Fault}
use Rattle.reading.specs.declared.ScanCursor.{ScanCursor}
use Rattle.reading.specs.Reader.{Read, got, fault}
use Rattle.reading.specs.Bits.{one}
use Rattle.reading.specs.Block.{block}
use Rattle.reading.specs.Code.Places.{places}
use Rattle.reading.specs.Huffman.{table_at}
use Rattle.jpeg_scan_plan.specs.declared.Plan.{Plan}

-- a cursor of the scan is followed: by a place that meets its bit place, by the same predictors, as many blocks done
pub record Follows {P : Type 0} (meets : Bits → P → Type 0) (q : ScanCursor Bits) (c : ScanCursor P) : Type 0 where
  pub met : meets q.bits c.bits
  pub predicts : c.predictors ≡ q.predictors
  pub place : c.done ≡ q.done

-- the same was answered of a restart at a cursor of the scan, and at one that follows it
abbrev pub Led : {P : Type 0} → (Bits → P → Type 0) → Result (ScanCursor Bits) Fault → Result (ScanCursor P) Fault → Type 0
Led meets (Ok q) (Ok c) = Follows meets q c
Led meets (Ok q) (Err f) = ⊥
Led meets (Err f) (Ok c) = ⊥
Led meets (Err f) (Err g) = f ≡ g

-- the rules' block of channel c at a bit place, behind the prediction z
abbrev pub block_here : List ℕ → Plan → ℕ → ℤ → Bits → Read Bits (List ℤ)
block_here s n c z b =
    let t = take n.start s in
    block (one s) (table_at t (get_or n.dcs c 0)) (table_at t (get_or n.acs c 0)) z b

-- a block that was read at a bit place, and at a place that meets it: the same levels, first level and reach, and the places behind meet; or
-- it is the same fault
abbrev pub Alike : {P : Type 0} → (Bits → P → Type 0) → Read Bits (List ℤ) → Result (BlockRead P) Fault → List ℤ → Type 0
Alike meets (got l b) (Ok r) levels = (levels ≡ l) × (r.first ≡ get_or l 0 (pos 0)) × (r.reach ≡ places l) × meets b r.after
Alike meets (got l b) (Err f) levels = ⊥
Alike meets (fault f) (Ok r) levels = ⊥
Alike meets (fault f) (Err g) levels = f ≡ g
