-- What the fast engine says of a block is what is said at each bit place that its cursor meets.
use Prim.Native.Nat.{ℕ, ◌<◌}
use mathlib.Core.Path.{◌≡◌, subst, subst⁻¹}
use mathlib.Core.List.{List}
use lib.IntN.{ℤ}
use lib.ListN.{get_or, take}
use Rattle.std.specs.Prelude.{Result, Ok, Err}
use Rattle.reading.specs.declared.Bits.{Bits}
use Rattle.reading.specs.declared.BlockRead.{BlockRead}
use Rattle.reading.specs.declared.Fault.{Fault}
use Rattle.reading.specs.Reader.{Read, got, fault}
use Rattle.jpeg_scan_plan.specs.declared.Plan.{Plan}
use Rattle.jpeg_bits_wide.specs.declared.Wide.{Wide}
use Rattle.jpeg_bits_wide.specs.Cursor.{Meets}
use Rattle.jpeg_huffman_table.specs.Looks.{looks}
use Rattle.jpeg_huffman_table.proofs.Entries.{first_entry, later_entry}
use Rattle.jpeg_block_wide.specs.Blocks.{Tabled, BlockAlike, BlockMeets, Promised}
use Rattle.jpeg_block_wide.proofs.Hearing.{meets_block}
use Rattle.jpeg_engine.specs.Engines.{block_here, Alike}

alike_so : (s : List ℕ) (o : Read Bits (List ℤ)) (r : Result (BlockRead Wide) Fault) (levels : List ℤ) → BlockAlike s o r levels → Alike (Meets s) o r levels
alike_so s (got l b) (Ok r) levels h = h
alike_so s (got l b) (Err f) levels h = h
alike_so s (fault f) (Ok r) levels h = h
alike_so s (fault f) (Err g) levels h = h

pub alike_met :
    (s : List ℕ) (n : Plan) (c : ℕ) {look : List ℕ} (from : Wide) {y z : ℤ} (r : Result (BlockRead Wide) Fault) (levels : List ℤ)
    → c < 4
    → look ≡ looks (take n.start s) n.dcs n.acs
    → y ≡ z
    → Promised (take n.start s) (get_or n.dcs c 0) (get_or n.acs c 0) look c s from y r levels
    → (b : Bits)
    → Meets s b from
    → Alike (Meets s) (block_here s n c z b) r levels
unfolding BlockMeets
alike_met s n c {look} from {y} {z} r levels few e same v b m =
    let t = take n.start s in
    let dc = get_or n.dcs c 0 in
    let ac = get_or n.acs c 0 in
    let tabled : Tabled t dc ac look c =
    subst⁻¹ (λ l. Tabled t dc ac l c) e (record { firsts = first_entry t n.dcs n.acs c few; laters = later_entry t n.dcs n.acs c few }) in
    let w : Promised t dc ac look c s from z r levels = subst (λ x. Promised t dc ac look c s from x r levels) same v in
    alike_so s (block_here s n c z b) r levels (meets_block t dc ac look c s from z r levels w tabled b m)
