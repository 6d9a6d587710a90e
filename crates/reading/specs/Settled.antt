-- A scan settled (the rules' 'The settled scan').
use Rattle.std.specs.Prelude.{ℕ, zero, suc, ◌+◌, ◌*◌, ◌-◌, ◌/◌, ◌%◌, ◌^◌, Bool, true, false, cond, List, [], ◌∷◌, ◌++◌, ltb, eqb, get_or, take, set, ℤ, pos, negsuc, nat_abs, ◌-ℤ◌}
use Rattle.std.proofs.Math.Option.{Option, none, some}
use Rattle.reading.specs.declared.Record.{Record}
use Rattle.reading.specs.Huffman.{bits_of, code_of}
use Rattle.reading.specs.Layout.{channel_of, restart_due, restart_code}
use Rattle.reading.specs.Scan.{Plan, Channel, plan_of, no_predictors}
use Rattle.reading.specs.Tests.{◌and◌, ◌or◌, is_none}

-- bits that are written, or none for want of a code
abbrev pub Written : Type 0
Written = Option (List ℕ)

-- how a symbol is written: its code, or none. One definition serves a table and whatever stands in for it
abbrev pub Coder : Type 0
Coder = ℕ → Written

infixr 30 ◌then◌
abbrev pub ◌then◌ : Written → Written → Written
none then b = none
some a then none = none
some a then some b = some (a ++ b)

-- the smallest n from the one given with v < 2^n; `fuel` bounds the search
abbrev pub size_from : ℕ → ℕ → ℕ → ℕ
size_from zero n v = n
size_from (suc fuel) n v = cond (ltb v (2 ^ n)) n (size_from fuel (suc n) v)

-- the smallest category of a value
abbrev pub size : ℤ → ℕ
size v = size_from 12 0 (nat_abs v)

-- the n-bit field that means v: v, or v + 2^n - 1 where v is negative
abbrev pub field_of : ℕ → ℤ → ℕ
field_of n (pos v) = v
field_of n (negsuc v) = 2 ^ n - 1 - suc v

abbrev pub value_bits : ℤ → List ℕ
value_bits v = bits_of (size v) (field_of (size v) v)

-- the first level: its difference's category and field
abbrev pub first_bits : Coder → ℤ → Written
first_bits code d = code (size d) then some (value_bits d)

-- n times the symbol 240
abbrev pub skips : Coder → ℕ → Written
skips code zero = some []
skips code (suc n) = code 240 then skips code n

-- a level behind a run of zeros: one more zero, or the runs of 16, then run and size, and the value. `more` writes what follows, behind a run
abbrev pub level_bits : Coder → ℕ → ℤ → (ℕ → Written) → Bool → Written
level_bits code run v more true = more (suc run)
level_bits code run v more false =
    skips code (run / 16) then code (16 * (run % 16) + size v) then some (value_bits v) then more 0

-- the later levels, behind a run of zeros; the end code where the last of them is zero
abbrev pub rest_bits : Coder → List ℤ → ℕ → Written
rest_bits code [] zero = some []
rest_bits code [] (suc run) = code 0
rest_bits code (v ∷ l) run = level_bits code run v (rest_bits code l) (eqb (nat_abs v) 0)

-- a block behind the prediction p: its first level's difference, then the others
abbrev pub block_by : Coder → Coder → ℤ → List ℤ → Written
block_by dc ac p [] = none
block_by dc ac p (v ∷ l) = first_bits dc (v -ℤ p) then rest_bits ac l 0

abbrev pub block_bits : Channel → ℤ → List ℤ → Written
block_bits ch p l = block_by (code_of ch.dc) (code_of ch.ac) p l

-- 0 follows every 255
abbrev pub stuffed : ℕ → List ℕ → List ℕ
stuffed x rest = cond (eqb x 255) (x ∷ 0 ∷ rest) (x ∷ rest)

-- bytes of eight bits: `v` is the value of the bits before, and n more make a byte; padding is ones
abbrev pub padding : ℕ → Bool → ℕ → List ℕ
padding v true n = []
padding v false n = stuffed (v * 2 ^ n + (2 ^ n - 1)) []

abbrev pub pack_next : ℕ → ℕ → (ℕ → ℕ → List ℕ) → Bool → List ℕ
pack_next v n more true = stuffed v (more 0 8)
pack_next v n more false = more v (n - 1)

abbrev pub pack_from : List ℕ → ℕ → ℕ → List ℕ
pack_from [] v n = padding v (eqb n 8) n
pack_from (b ∷ bs) v n = pack_next (2 * v + b) n (pack_from bs) (eqb n 1)

abbrev pub packed : List ℕ → List ℕ
packed bs = pack_from bs 0 8

-- a part of a scan: the bits up to the next marker, and the bytes from that marker on
pub record Coded : Type 0 where
  pub bits : List ℕ
  pub after : List ℕ

-- as bytes: eight bits each, padded with ones, 0 behind every 255
abbrev pub bytes_of : Coded → List ℕ
bytes_of c = packed c.bits ++ c.after

-- bits put before a part
abbrev pub onto : Written → Option Coded → Option Coded
onto none c = none
onto (some w) none = none
onto (some w) (some c) = some (record { bits = w ++ c.bits; after = c.after })

-- a restart marker put before a part, where it is due
abbrev pub cut : Bool → ℕ → Option Coded → Option Coded
cut due code none = none
cut true code (some c) = some (record { bits = []; after = 255 ∷ code ∷ bytes_of c })
cut false code (some c) = some c

abbrev pub predictors : Bool → List ℤ → List ℤ
predictors true ps = no_predictors
predictors false ps = ps

-- block k, and the blocks behind it
abbrev pub written : Plan → ℕ → List ℤ → List (List ℤ) → Option Coded
written p k ps [] = some (record { bits = []; after = 255 ∷ 217 ∷ [] })
written p k ps (l ∷ ls) =
    let due = restart_due p.shape p.interval k in
    let qs = predictors due ps in
    let c = channel_of p.shape k in
    cut due (restart_code p.shape p.interval k)
    (onto (block_bits (p.channels c) (get_or qs c (pos 0)) l) (written p (suc k) (set qs c (get_or l 0 (pos 0))) ls))

abbrev pub scan_bytes : Option Coded → Option (List ℕ)
scan_bytes none = none
scan_bytes (some c) = some (bytes_of c)

-- the settled scan of some levels
unfoldable pub settled_scan : Plan → List (List ℤ) → Option (List ℕ)
unfolding code_of channel_of restart_due
settled_scan p ls = scan_bytes (written p 0 no_predictors ls)

abbrev pub behind : List ℕ → Option (List ℕ) → Option (List ℕ)
behind head none = none
behind head (some t) = some (head ++ t)

-- the settled file: all bytes before the first coded byte, and the settled scan
abbrev pub settled_file : List ℕ → Record → List (List ℤ) → Option (List ℕ)
settled_file s r ls = behind (take r.start s) (settled_scan (plan_of s r) ls)

-- a block whose last level is zero, and whose table has no end-of-block code
abbrev pub lacks_end : Channel → List ℤ → Bool
lacks_end ch l = eqb (nat_abs (get_or l 63 (pos 0))) 0 and is_none (code_of ch.ac 0)

-- some block from block k on is such a block
abbrev pub some_lacks_end : Plan → ℕ → List (List ℤ) → Bool
some_lacks_end p k [] = false
some_lacks_end p k (l ∷ ls) = lacks_end (p.channels (channel_of p.shape k)) l or some_lacks_end p (suc k) ls
