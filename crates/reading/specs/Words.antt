-- The words in which the theorems are said (proofs/Theorems): the codes of a table, what a file reads as, which limits, budget and room suffice for it, by which
-- rule a call refuses, and what it means that an answer took its listed price. No call is defined by them.
use Rattle.std.specs.Prelude.{ℕ, zero, suc, ◌+◌, ◌*◌, ◌-◌, ◌/◌, ◌%◌, ◌^◌, ◌<◌, ◌≤◌, ◌≡◌, Bool, cond, List, [], ◌∷◌, ◌⊎◌, ◌↔◌, T, ltb, ℤ, pos, ◌+ℤ◌, ◌*ℤ◌, length, get_or}
use Rattle.std.proofs.Math.Option.{Option, some}
use Rattle.reading.specs.declared.Bits.{Bits}
use Rattle.reading.specs.declared.Break.{Break}
use Rattle.reading.specs.declared.Budget.{Budget}
use Rattle.reading.specs.declared.Frame.{Frame}
use Rattle.reading.specs.declared.Limits.{Limits}
use Rattle.reading.specs.declared.Record.{Record}
use Rattle.reading.specs.declared.Refusal.{Refusal}
use Rattle.reading.specs.declared.Refusal.TheVariants.{TooLong, OverBudget, CutShort, Malformed, Unsupported, TooLarge, WorkOverBudget, ShortRoom, NotItsRecord, NoEndCode, Scan}
use Rattle.reading.specs.Verdicts.{Verdict}
use Rattle.std.specs.declared.result.Result.TheVariants.{Ok}
use Rattle.whole.specs.Expressions.{at}
use Rattle.basis.specs.Basis.{basis, basis_at}
use Rattle.reading.specs.declared.Fault.{Fault}
use Rattle.reading.specs.declared.Fault.TheVariants.{RanOut, Broken}
use Rattle.reading.specs.Reader.{Read, Reader, got, fault}
use Rattle.reading.specs.Bits.{file, first_bit}
use Rattle.reading.specs.Huffman.{Table, symbol, code_of}
use Rattle.reading.specs.Layout.{ceiling, block_count, sample_at}
use Rattle.reading.specs.Tables.{shape_of}
use Rattle.reading.specs.Header.{done, stop, header}
use Rattle.reading.specs.Scan.{Plan, plan_of, ahead, Turn, turn, Cursor, broke, started, levels}
use Rattle.reading.specs.Reading.{Reading, accepted, refused, reading}
use Rattle.reading.specs.Calls.{header_price, inspect, Decoded}
use Rattle.reading.specs.Files.{settled_in}

-- a statement does not hold
abbrev pub Not : Type 0 → Type 0
Not A = A → ⊥

-- Each number is below 256. The lists of this crate are of any numbers; what a call is lent is a slice of bytes, and of such a slice the
-- language knows this of every entry (`FileBytes.all-bytes` takes it from there)
abbrev pub AllBytes : List ℕ → Type 0
AllBytes [] = Unit {0}
AllBytes (x ∷ l) = (x < 256) × AllBytes l

-- ---- the codes of a table

-- each number is a bit
abbrev pub AllBits : List ℕ → Type 0
AllBits [] = Unit {0}
AllBits (b ∷ l) = (b < 2) × AllBits l

-- a list of bits, from its first one on
abbrev pub next_in : Reader (List ℕ) ℕ
next_in [] = fault RanOut
next_in (b ∷ l) = got b l

-- bits are a code of a symbol: by the table they are read as the symbol, to the last of them
pub record IsCode (t : Table) (x : ℕ) (bits : List ℕ) : Type 0 where
  pub bitwise : AllBits bits
  pub reads : symbol next_in t bits ≡ got x []

-- what is known of a table that was read, by the rule for what it may list
pub record Careful (listed : ℕ → Bool) (t : Table) : Type 0 where
  -- every symbol has at most one code
  pub one_code : (x : ℕ) (v w : List ℕ) → IsCode t x v → IsCode t x w → v ≡ w
  -- the code is what settling writes
  pub the_code : (x : ℕ) (w : List ℕ) → IsCode t x w ↔ code_of t x ≡ some w
  -- a symbol that has one is one that a block takes
  pub taken : (x : ℕ) (w : List ℕ) → IsCode t x w → T (listed x)

-- ---- the double sum of a block, as one sum of 64 products

-- f 0 + .. + f (n - 1)
unfoldable pub sum_of : ℕ → (ℕ → ℤ) → ℤ
sum_of zero f = pos 0
sum_of (suc n) f = f 0 +ℤ sum_of n (λ j. f (suc j))

-- the sum over v and u of coefficient (v, u) x basis (x, u) x basis (y, v)
unfoldable pub double_sum : List ℤ → ℕ → ℕ → ℤ
unfolding basis sum_of
double_sum c y x = sum_of 8 (λ v. sum_of 8 (λ u. at c (8 * v + u) *ℤ basis_at x u *ℤ basis_at y v))

-- ---- the layout that pictures had before each channel could have factors of its own

-- sampling hs x vs in the first channel of a frame, and 1 x 1 in each other
pub record Sampled (f : Frame) (hs vs : ℕ) : Type 0 where
  pub some : 0 < f.channels
  pub wide : 0 < hs
  pub high : 0 < vs
  pub across : get_or f.across 0 0 ≡ hs
  pub down : get_or f.down 0 0 ≡ vs
  pub others : (c : ℕ) → 0 < c → c < f.channels → (get_or f.across c 0 ≡ 1) × (get_or f.down c 0 ≡ 1)

-- the MCU of pixel (x, y) then
abbrev pub mcu_then : Frame → ℕ → ℕ → ℕ → ℕ → ℕ
mcu_then f hs vs x y = y / (8 * vs) * ceiling f.width (8 * hs) + x / (8 * hs)

-- MCUs across = ceiling of width/(8hs), down likewise; an MCU has hs x vs first-channel blocks, then one of each other channel. Sample (x, y)
-- of the first channel is in its block at (x mod 8, y mod 8), another channel's at ((x mod 8hs)/hs, (y mod 8vs)/vs), rounded down
pub record OldLayout (f : Frame) (hs vs : ℕ) : Type 0 where
  pub blocks :
      block_count (shape_of f)
      ≡ ceiling f.width (8 * hs) * ceiling f.height (8 * vs) * (hs * vs + (f.channels - 1))
  pub first :
      (x y : ℕ)
      → sample_at (shape_of f) x y 0
      ≡ 64 * (mcu_then f hs vs x y * (hs * vs + (f.channels - 1)) + (y % (8 * vs) / 8 * hs + x % (8 * hs) / 8)) + (8 * (y % 8) + x % 8)
  pub others :
      (x y c : ℕ)
      → c < f.channels - 1
      → sample_at (shape_of f) x y (suc c)
      ≡ 64 * (mcu_then f hs vs x y * (hs * vs + (f.channels - 1)) + (hs * vs + c)) + (8 * (y % (8 * vs) / vs) + x % (8 * hs) / hs)

-- ---- a file, limits, budget and room aside

-- the file's reading by a colour choice is accepted with this record
abbrev pub ReadsAs : List ℕ → Bool → Record → Type 0
ReadsAs s colour r = (ls : List (List ℤ)) × (reading s colour ≡ accepted r ls)

-- a record with another choice
abbrev pub recolour : Bool → Record → Record
recolour c r =
    record {
      frame = r.frame;
      tables = r.tables;
      dcids = r.dcids;
      acids = r.acids;
      interval = r.interval;
      start = r.start;
      blocks = r.blocks;
      scratch = r.scratch;
      output = r.output;
      work = r.work;
      colour = c;
    }

-- a reading by another choice: of what is accepted the record alone changes, in that one field
abbrev pub reread : Bool → Reading → Reading
reread c (accepted r ls) = accepted (recolour c r) ls
reread c (refused x) = refused x

-- the file is accepted, and this is its settled file
abbrev pub SettlesTo : List ℕ → List ℕ → Type 0
SettlesTo s t = settled_in s ≡ some t

-- ---- an accepted file, cut: its bytes end at a place c behind its header

-- a fault in the turn that begins at a cursor
abbrev pub broken_at : Fault → Cursor Bits → Break
broken_at f q = record { fault = f; block = q.done; place = q.bits.at }

-- the turn that begins at a cursor, by where its restart ended in the whole file and where its bits did. If its restart took a byte at or
-- behind c, it breaks there; if its bits did, the bytes ran out in them; else the next turn. (A turn with a fault, which no accepted file has,
-- counts as one that took such a byte.)
abbrev pub cut_turn : ℕ → Cursor Bits → Read Bits (List ℤ) → Read Bits Turn → (Turn → Bits → Break) → Break
cut_turn c q (got ps b) (got t e) next =
    cond (ltb c b.at) (broken_at Broken q) (cond (ltb c e.at) (broken_at RanOut q) (next t e))
cut_turn c q (got ps b) (fault f) next = broken_at RanOut q
cut_turn c q (fault f) o next = broken_at Broken q

-- the first of n more blocks whose restart or bits take a byte at or behind c; if there is none, the final marker
unfoldable pub cut_from : List ℕ → Plan → ℕ → ℕ → Cursor Bits → Break
unfolding file
cut_from s p c zero q = broken_at Broken q
cut_from s p c (suc n) q =
    cut_turn c q (ahead (file s) p q.done q.predictors q.bits) (turn (file s) p q.done q.predictors q.bits)
    (λ t e. cut_from s p c n (record { bits = e; predictors = t.predictors; done = suc q.done }))

-- why and where the prefix breaks
unfoldable pub cut_at : List ℕ → Record → ℕ → Break
unfolding cut_from
cut_at s r c = cut_from s (plan_of s r) c r.blocks (started (first_bit r.start))

-- ---- limits, budget and room

-- number 1: the file is too long for the input limit, or for its price to be counted
abbrev pub Long : List ℕ → Limits → Type 0
Long s l = (l.input < length s) ⊎ (2 ^ 64 ≤ header_price s)

-- not number 1, and the header's price is there
pub record Begun (s : List ℕ) (l : Limits) (budget : Budget) : Type 0 where
  pub input : length s ≤ l.input
  pub counted : header_price s < 2 ^ 64
  pub paid : header_price s ≤ budget.left

-- not number 6: a record within the limits
pub record Within (l : Limits) (r : Record) : Type 0 where
  pub width : r.frame.width ≤ l.side
  pub height : r.frame.height ≤ l.side
  pub scratch : r.scratch ≤ l.output
  pub output : r.output ≤ l.output

-- limits and budget by which a file with this record is judged to its end
pub record Enough (s : List ℕ) (r : Record) (l : Limits) (budget : Budget) : Type 0 where
  pub input : length s ≤ l.input
  pub counted : header_price s < 2 ^ 64
  pub sizes : Within l r
  pub price : header_price s + r.work ≤ budget.left

-- not number 7 of decode: both buffers are long enough by the record's length fields
abbrev pub Roomy : Record → List ℕ → List ℕ → Type 0
Roomy r out scratch = (r.output ≤ length out) × (r.scratch ≤ length scratch)

-- ---- by which rule a call refuses

-- inspect, rule by rule in the order of the tests: each has what was passed before it
abbrev pub InspectRefuses : List ℕ → Bool → Limits → Budget → Refusal → Type 0
InspectRefuses s colour l budget TooLong = Long s l
InspectRefuses s colour l budget OverBudget = Not (Long s l) × (budget.left < header_price s)
InspectRefuses s colour l budget CutShort = Begun s l budget × (header s colour ≡ stop CutShort)
InspectRefuses s colour l budget Malformed = Begun s l budget × (header s colour ≡ stop Malformed)
InspectRefuses s colour l budget Unsupported = Begun s l budget × (header s colour ≡ stop Unsupported)
InspectRefuses s colour l budget TooLarge =
    Begun s l budget × ((r : Record) × (header s colour ≡ done r) × Not (Within l r))
InspectRefuses s colour l budget WorkOverBudget =
    Begun s l budget × ((r : Record) × (header s colour ≡ done r) × Within l r × (budget.left < header_price s + r.work))
InspectRefuses s colour l budget (Scan w) =
    (r : Record) × (header s colour ≡ done r) × Enough s r l budget × (levels s r ≡ broke w)
InspectRefuses s colour l budget ShortRoom = ⊥
InspectRefuses s colour l budget NotItsRecord = ⊥
InspectRefuses s colour l budget NoEndCode = ⊥

-- inspect would accept the file
abbrev pub Inspects : List ℕ → Bool → Limits → Budget → Type 0
Inspects s colour l budget = (inspect s colour l budget).verdict ≡ Ok tt

-- ---- what an answer takes, and what it leaves

-- a table lists a price for the answer, and what is left and that price are the budget
pub record Priced (listed : Verdict → Option ℕ) (budget : Budget) (verdict : Verdict) (left : Budget) : Type 0 where
  pub taken : ℕ
  pub price : listed verdict ≡ some taken
  pub all : left.left + taken ≡ budget.left

-- a second decode accepts as the first did, and leaves the same in both buffers
pub record Alike (d d' : Decoded) : Type 0 where
  pub verdict : d'.answer.verdict ≡ Ok tt
  pub output : d'.output ≡ d.output
  pub scratch : d'.scratch ≡ d.scratch
