-- A block that is read at a wide cursor: at every bit place of the file that the cursor meets, it is the rules' block.
use Rattle.std.specs.Prelude.{ℕ, ◌+◌, ◌*◌, ◌/◌, ◌^◌, ◌<◌, ◌≤◌, ◌≡◌, Bool, true, false, cond, List, leb, ltb, eqb, ℤ, pos, get_or, set, Result, Ok, Err}
use Rattle.reading.specs.declared.Bits.{Bits}
use Rattle.reading.specs.declared.BlockRead.{BlockRead}
use Rattle.reading.specs.declared.Fault.{Fault}
use Rattle.reading.specs.Reader.{Read, got, fault}
use Rattle.reading.specs.Bits.{one}
use Rattle.reading.specs.Huffman.{Table, table_at}
use Rattle.reading.specs.Block.{block, zeros}
use Rattle.reading.specs.Tests.{◌and◌}
use Rattle.reading.specs.Code.Places.{places}
use Rattle.reading.specs.Code.Coming.{Plain, pending}
use Rattle.jpeg_block.specs.declared.Step as code
use Rattle.jpeg_block.specs.declared.Step.TheVariants.{End, Skip, Put}
use Rattle.jpeg_block.specs.Step.{puts, step_read, stepped}
use Rattle.jpeg_bits_wide.specs.declared.Wide.{Wide}
use Rattle.jpeg_bits_wide.specs.Cursor.{Proper, to_come, Meets}
use Rattle.jpeg_huffman_table.specs.Looks.{entry_at, looked}

-- ---- the entries of a block's tables

-- the 512 entries from `from` on are those of a table, for first levels or for later ones
abbrev pub Looks : Bool → Table → List ℕ → ℕ → Type 0
Looks first t look from = (acc : ℕ) → acc < 2 ^ 64 → looked 9 look from acc ≡ entry_at 9 first t (acc / 2 ^ 55)

-- the entries of channel c are those of the block's two tables
pub record Tabled (t : List ℕ) (dc ac : ℕ) (look : List ℕ) (c : ℕ) : Type 0 where
  pub firsts : Looks true (table_at t dc) look (1024 * c)
  pub laters : Looks false (table_at t ac) look (1024 * c + 512)

-- where the entries of a channel begin; of one that is not there, behind all of them
abbrev pub part_of : ℕ → ℕ
part_of c = cond (ltb 3 c) 4096 (1024 * c)

-- an entry serves at a place: it has a value, all bits of code and value are there, and the value stands before place 64
abbrev pub serving : ℕ → ℕ → ℕ → ℕ → Bool
serving total left size k = ltb 0 total and ltb 0 size and leb total left and ltb k 64

-- an entry is that of the end code, whose bits are there
abbrev pub ending : ℕ → ℕ → ℕ → Bool
ending total left x = ltb 0 total and leb total left and eqb x 0

-- ---- one step

-- what was read at a bit place, and a cursor meets the place behind it
pub record Reads {A : Type 0} (s : List ℕ) (x : Read Bits A) (a : A) (w : Wide) : Type 0 where
  pub behind : Bits
  pub is : x ≡ got a behind
  pub meets : Meets s behind w

-- the same was read at a bit place and at a cursor, which meet behind it; or it is the same fault
abbrev pub Agree : {A : Type 0} → List ℕ → Read Bits A → Read Wide A → Type 0
Agree s x (got a w) = Reads s x a w
Agree s x (fault f) = x ≡ fault f

-- a level is put at this place or behind it, and before place 64
abbrev pub Inside : ℕ → Result (code.Step Wide) Fault → Type 0
Inside place (Ok (End w)) = Unit {0}
Inside place (Ok (Skip w)) = Unit {0}
Inside place (Ok (Put at z w)) = (place ≤ at) × (at < 64)
Inside place (Err f) = Unit {0}

-- one symbol and its value: the step of the rules' walk over a block
abbrev pub SameStep : List ℕ → ℕ → List ℕ → Wide → ℕ → ℤ → Result (code.Step Wide) Fault → Type 0
SameStep t base s w place p r = (b : Bits) → Meets s b w → Agree s (stepped (one s) (table_at t base) place p b) (step_read r)

pub record StepMeets (t : List ℕ) (base : ℕ) (s : List ℕ) (w : Wide) (place : ℕ) (p : ℤ) (r : Result (code.Step Wide) Fault) : Type 0 where
  pub inside : Inside place r
  pub same : SameStep t base s w place p r

-- the first one, where the entries are those of its table
abbrev pub FirstMeets : List ℕ → ℕ → List ℕ → ℕ → List ℕ → Wide → ℤ → Result (code.Step Wide) Fault → Type 0
FirstMeets t dc look from s w p r = Looks true (table_at t dc) look from → SameStep t dc s w 0 p r

-- ---- a block

-- a block that was read at a bit place, and one that was read at a cursor: the same levels, first level and reach, and the cursor meets the
-- place behind it; or it is the same fault
abbrev pub BlockAlike : List ℕ → Read Bits (List ℤ) → Result (BlockRead Wide) Fault → List ℤ → Type 0
BlockAlike s (got l b) (Ok r) levels = (levels ≡ l) × (r.first ≡ get_or l 0 (pos 0)) × (r.reach ≡ places l) × Meets s b r.after
BlockAlike s (got l b) (Err f) levels = ⊥
BlockAlike s (fault f) (Ok r) levels = ⊥
BlockAlike s (fault f) (Err g) levels = f ≡ g

-- the first level of a block was read, nothing else stands in its levels, the cursor meets the place behind it, and the entries are those of
-- the table for the others
pub record Opened (t : List ℕ) (ac : ℕ) (look : List ℕ) (from : ℕ) (s : List ℕ) (w : Wide) (levels : List ℤ) : Type 0 where
  pub dc : ℕ
  pub p : ℤ
  pub z : ℤ
  pub b : Bits
  pub here : Bits
  pub read : stepped (one s) (table_at t dc) 0 p b ≡ got (puts 0 z) here
  pub first : levels ≡ set (zeros 64) 0 z
  pub meets : Meets s here w
  pub looks : Looks false (table_at t ac) look from

-- the whole block behind it
abbrev pub RestMeets : List ℕ → ℕ → List ℕ → ℕ → List ℕ → Wide → List ℤ → Result (BlockRead Wide) Fault → List ℤ → Type 0
RestMeets t ac look from s w before r levels =
    (o : Opened t ac look from s w before) → BlockAlike s (block (one s) (table_at t o.dc) (table_at t ac) o.p o.b) r levels

-- where the entries are those of the block's two tables, at every bit place that the cursor meets
unfoldable pub BlockMeets : List ℕ → ℕ → ℕ → List ℕ → ℕ → List ℕ → Wide → ℤ → Result (BlockRead Wide) Fault → List ℤ → Type 0
unfolding block one
BlockMeets t dc ac look c s from p r levels =
    Tabled t dc ac look c
    → (b : Bits)
    → Meets s b from
    → BlockAlike s (block (one s) (table_at t dc) (table_at t ac) p b) r levels

-- ---- what is promised of a block

-- what is said of a block that was read: its levels, its first level, and how many places they reach
pub record Said : Type 0 where
  pub levels : List ℤ
  pub first : ℤ
  pub reach : ℕ

abbrev pub saying : List ℤ → ℤ → ℕ → Said
saying levels first reach = record { levels = levels; first = first; reach = reach }

-- that of a block at a cursor, with what is to come behind it
abbrev pub told : List ℕ → Result (BlockRead Wide) Fault → List ℤ → Read Plain Said
told s (Ok r) levels = got (saying levels r.first r.reach) (to_come s r.after)
told s (Err f) levels = fault f

-- that of a block at a bit place
unfoldable pub heard : List ℕ → Read Bits (List ℤ) → Read Plain Said
unfolding places
heard s (got l b) = got (saying l (get_or l 0 (pos 0)) (places l)) (pending s b)
heard s (fault f) = fault f

-- a cursor behind a block is a proper one
abbrev pub Sound : Result (BlockRead Wide) Fault → Type 0
Sound (Ok r) = Proper r.after
Sound (Err f) = Unit {0}

-- a bit place that a block's cursor meets, where the entries are those of its tables
pub record Begun (t : List ℕ) (dc ac : ℕ) (look : List ℕ) (c : ℕ) (s : List ℕ) (from : Wide) : Type 0 where
  pub tabled : Tabled t dc ac look c
  pub place : Bits
  pub meets : Meets s place from

-- at each such place a block says what the rules' block says, and the same is to come behind both
abbrev pub Promised : List ℕ → ℕ → ℕ → List ℕ → ℕ → List ℕ → Wide → ℤ → Result (BlockRead Wide) Fault → List ℤ → Type 0
Promised t dc ac look c s from p r levels =
    (o : Begun t dc ac look c s from) → (told s r levels ≡ heard s (block (one s) (table_at t dc) (table_at t ac) p o.place)) × Sound r
