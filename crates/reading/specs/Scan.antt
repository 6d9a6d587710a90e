-- The scan: blocks, restarts, the end; and where it broke.
use Rattle.std.specs.Prelude.{ℕ, zero, suc, cond, List, [], ◌∷◌, get_or, take, set, ℤ, pos}
use Rattle.reading.specs.declared.Bits.{Bits}
use Rattle.reading.specs.declared.Break.{Break}
use Rattle.reading.specs.declared.Record.{Record}
use Rattle.reading.specs.Reader.{Read, got, fault, Reader, ◌>>=◌, ◌>>◌, give, rule}
use Rattle.reading.specs.Bits.{Source, file, first_bit}
use Rattle.reading.specs.Huffman.{Table, table_at}
use Rattle.reading.specs.Block.{block, zeros}
use Rattle.reading.specs.Layout.{Shape, channel_of, mcu_of, opens_mcu, due_before, restart_before}
use Rattle.reading.specs.Tables.{shape_of, dc_at, ac_at}

-- a channel's Huffman tables
pub record Channel : Type 0 where
  pub dc : Table
  pub ac : Table

abbrev pub channel_at : List ℕ → Record → ℕ → Channel
channel_at s r c =
    record { dc = table_at s (dc_at r c); ac = table_at s (ac_at r c) }

-- what a scan is read by: the picture's shape, the restart interval and the tables of each channel
pub record Plan : Type 0 where
  pub shape : Shape
  pub interval : ℕ
  pub channels : ℕ → Channel

-- the tables stand before the first coded byte, so the plan is read from the bytes before it
abbrev pub plan_of : List ℕ → Record → Plan
plan_of s r =
    let head = take r.start s in
    record { shape = shape_of r.frame; interval = r.interval; channels = channel_at head r }

abbrev pub no_predictors : List ℤ
no_predictors = zeros 4

-- before MCU m: where a restart is due, its marker, and the predictors become 0
abbrev pub restart : {S : Type 0} → Source S → ℕ → ℕ → List ℤ → Reader S (List ℤ)
restart src interval m ps =
    cond (due_before interval m) (src.marker (restart_before interval m) >> give no_predictors) (give ps)

-- before block k: the restart of the MCU that it opens
abbrev pub ahead : {S : Type 0} → Source S → Plan → ℕ → List ℤ → Reader S (List ℤ)
ahead src p k ps = cond (opens_mcu p.shape k) (restart src p.interval (mcu_of p.shape k) ps) (give ps)

-- what a block's turn gives: its 64 levels in zigzag order, and the predictors behind it
pub record Turn : Type 0 where
  pub levels : List ℤ
  pub predictors : List ℤ

-- the turn of block k: the restart before it, where one is due, then the block. Its first level predicts its channel's next one
abbrev pub turn : {S : Type 0} → Source S → Plan → ℕ → List ℤ → Reader S Turn
turn src p k ps =
    ahead src p k ps >>= λ qs. let c = channel_of p.shape k in
    let ch = p.channels c in
    block src.next ch.dc ch.ac (get_or qs c (pos 0)) >>= λ l. give (record { levels = l; predictors = set qs c (get_or l 0 (pos 0)) })

-- ---- reading on

-- Each scan keeps the bit place, the predictors and the count of blocks done
pub record Cursor (S : Type 0) : Type 0 where
  pub bits : S
  pub predictors : List ℤ
  pub done : ℕ

-- what reading in a scan answers: a value and the place after it, or why and where the scan broke
pub data Scanned (S A : Type 0) : Type 0 where
  whole : A → S → Scanned S A
  broke : Break → Scanned S A

-- what is read at a cursor. A fault names the block whose turn it is, or the block count behind the last one, and the first byte not yet
-- taken when that turn began, before any restart
abbrev pub here : {S A : Type 0} → Source S → Cursor S → Read S A → Scanned S A
here src q (got a s) = whole a s
here src q (fault f) = broke (record { fault = f; block = q.done; place = src.place q.bits })

-- on with what was read; where the scan broke it stays broken
abbrev pub onwards : {S T A B : Type 0} → Scanned S A → (A → S → Scanned T B) → Scanned T B
onwards (whole a s) f = f a s
onwards (broke w) f = broke w

-- n more blocks from a cursor on, in the order of the scan: their levels, and the cursor behind them
abbrev pub read_on : {S : Type 0} → Source S → Plan → ℕ → Cursor S → Scanned (Cursor S) (List (List ℤ))
read_on src p zero q = whole [] q
read_on src p (suc n) q =
    onwards (here src q (turn src p q.done q.predictors q.bits)) (λ t s.
    onwards (read_on src p n (record { bits = s; predictors = t.predictors; done = suc q.done })) (λ ls e. whole (t.levels ∷ ls) e))

-- ---- the whole scan

-- after the last block: the marker 217, and no byte behind it
abbrev pub closed : {S : Type 0} → Source S → Reader S (Unit {0})
closed src = src.marker 217 >> λ s. rule (src.ends s) s

-- before the first block
abbrev pub started : {S : Type 0} → S → Cursor S
started s = record { bits = s; predictors = no_predictors; done = 0 }

-- the end, behind the blocks whose levels were read: a fault in it names the block count
abbrev pub ended : {S : Type 0} → Source S → List (List ℤ) → Cursor S → Scanned S (List (List ℤ))
ended src ls q = here src q ((closed src >> give ls) q.bits)

-- a scan of n blocks: reading on from its start, then the end
abbrev pub scan : {S : Type 0} → Source S → Plan → ℕ → S → Scanned S (List (List ℤ))
scan src p n s = onwards (read_on src p n (started s)) (ended src)

-- the levels of a file's scan
unfoldable pub levels : List ℕ → Record → Scanned Bits (List (List ℤ))
unfolding block file channel_of opens_mcu
levels s r = scan (file s) (plan_of s r) r.blocks (first_bit r.start)
