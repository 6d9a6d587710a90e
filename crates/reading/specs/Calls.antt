-- What inspect, decode and settle answer: each is a list of tests and payments in the order of the rules' 'Refusal numbers', one a line.
use Rattle.std.specs.Prelude.{ℕ, ◌+◌, ◌*◌, ◌^◌, Bool, true, false, not, cond, List, [], ◌∷◌, leb, ltb, eqb, length, ℤ}
use Rattle.reading.specs.declared.Fault.{Fault}
use Rattle.reading.specs.declared.Fault.TheVariants.{RanOut, Bare, NoCode, Broken}
use Rattle.reading.specs.declared.Named.{Named}
use Rattle.reading.specs.declared.Refusal.{Refusal}
use Rattle.reading.specs.declared.Refusal.TheVariants.{TooLong, OverBudget, CutShort, Malformed, Unsupported, TooLarge, WorkOverBudget, ShortRoom, NotItsRecord, NoEndCode, Scan}
use Rattle.reading.specs.declared.Frame.{Frame}
use Rattle.reading.specs.declared.Tables.{Tables}
use Rattle.reading.specs.declared.Record.{Record}
use Rattle.reading.specs.declared.Limits.{Limits}
use Rattle.reading.specs.declared.Budget.{Budget}
use Rattle.reading.specs.Verdicts.{Verdict}
use Rattle.std.specs.declared.result.Result.TheVariants.{Ok, Err}
use Rattle.reading.specs.declared.Inspection.{Inspection}
use Rattle.reading.specs.declared.Decoding.{Decoding}
use Rattle.reading.specs.declared.Settling.{Settling}
use Rattle.reading.specs.Tests.{◌and◌, ◌or◌, over}
use Rattle.reading.specs.Judging.{Judged, accepts, refuses, Judging, ◌>>=◌, ◌>>◌, give, refuse, refuse_if, pay, give_or, unbroken}
use Rattle.reading.specs.Header.{ending, header, no_record}
use Rattle.whole.specs.Lists.{from}
use Rattle.reading.specs.Layout.{output_length, channel_of, sample_at}
use Rattle.reading.specs.Transform.{coefficients, samples}
use Rattle.reading.specs.Colour.{red, green, blue}
use Rattle.reading.specs.Scan.{levels}
use Rattle.reading.specs.Reading.{Reading, accepted, refused, reading, samples_of, picture_of}
use Rattle.reading.specs.Settled.{settled_file, settled_scan}

-- why a scan broke: bytes ran out (3), a 255 followed by neither 0 nor the end (10), sixteen bits matching no code (11). Other scan
-- faults stay 4
abbrev pub fault_number : Fault → ℕ
fault_number RanOut = 3
fault_number Bare = 10
fault_number NoCode = 11
fault_number Broken = 4

-- the refusal numbers
abbrev pub number_of : Refusal → ℕ
number_of TooLong = 1
number_of OverBudget = 2
number_of CutShort = 3
number_of Malformed = 4
number_of Unsupported = 5
number_of TooLarge = 6
number_of WorkOverBudget = 2
number_of ShortRoom = 7
number_of NotItsRecord = 8
number_of NoEndCode = 9
number_of (Scan w) = fault_number w.fault

-- 0 where accepted
abbrev pub number : Verdict → ℕ
number (Ok u) = 0
number (Err x) = number_of x

abbrev pub nothing_named : Named
nothing_named = record { block = 0; place = 0 }

-- a refusal of the scan also names the block's number and the first byte not yet taken when its reading began; elsewhere both are 0
abbrev pub named_by : Refusal → Named
named_by (Scan w) = record { block = w.block; place = w.place }
named_by TooLong = nothing_named
named_by OverBudget = nothing_named
named_by CutShort = nothing_named
named_by Malformed = nothing_named
named_by Unsupported = nothing_named
named_by TooLarge = nothing_named
named_by WorkOverBudget = nothing_named
named_by ShortRoom = nothing_named
named_by NotItsRecord = nothing_named
named_by NoEndCode = nothing_named

abbrev pub named : Verdict → Named
named (Ok u) = nothing_named
named (Err x) = named_by x

-- 2n+1: what reading a header costs
abbrev pub header_price : List ℕ → ℕ
header_price s = 2 * length s + 1

-- ---- inspect

-- number 1: n > input limit, or 2n+1 does not fit 64 bits
abbrev pub too_long : List ℕ → Limits → Bool
too_long s l = ltb l.input (length s) or leb (2 ^ 64) (header_price s)

-- number 6: width or height above the side limit, or 64 x blocks or output bytes above the output limit
abbrev pub too_large : Limits → Record → Bool
too_large l r =
    ltb l.side r.frame.width or ltb l.side r.frame.height or ltb l.output r.scratch or ltb l.output r.output

-- the header's record, or its refusal
abbrev pub heading : List ℕ → Bool → Judging Record
heading s colour = ending give refuse (header s colour)

-- behind the header: 6; 2 for work (2n+1 taken)
abbrev pub weighing : Limits → Record → Judging Record
weighing l r = do
  refuse_if (too_large l r) TooLarge
  pay r.work WorkOverBudget
  give r

-- Inspect, in order: 1; 2 for 2n+1 (takes 0); the header 3/4/5; 6; 2 for work ..
abbrev pub admission : List ℕ → Bool → Limits → Judging Record
admission s colour l = do
  refuse_if (too_long s l) TooLong
  pay (header_price s) OverBudget
  r ← heading s colour
  weighing l r

-- a file that was read to its end: its record and the levels of its blocks
pub record ReadFile : Type 0 where
  pub found : Record
  pub blocks : List (List ℤ)

-- .. the scan, 3, 4, 10 or 11. Success takes 2n+1+work
abbrev pub judgement : List ℕ → Bool → Limits → Judging ReadFile
judgement s colour l = do
  r ← admission s colour l
  ls ← unbroken (levels s r)
  give (record { found = r; blocks = ls })

-- A refusal returns its number and an all-zero record
abbrev pub inspection : Judged Record → Inspection
inspection (accepts r left) = record { verdict = Ok tt; budget = left; found = r }
inspection (refuses x left) = record { verdict = Err x; budget = left; found = no_record }

abbrev pub inspecting : List ℕ → Bool → Limits → Judging Record
inspecting s colour l = do
  f ← judgement s colour l
  give f.found

unfoldable pub inspect : List ℕ → Bool → Limits → Budget → Inspection
unfolding header levels
inspect s colour l budget = inspection (inspecting s colour l budget)

-- ---- decode

-- decode's answer with the two buffers
pub record Decoded : Type 0 where
  pub answer : Decoding
  pub output : List ℕ
  pub scratch : List ℕ

abbrev pub eq_list : List ℕ → List ℕ → Bool
eq_list [] [] = true
eq_list [] (y ∷ ys) = false
eq_list (x ∷ xs) [] = false
eq_list (x ∷ xs) (y ∷ ys) = eqb x y and eq_list xs ys

abbrev pub eq_bool : Bool → Bool → Bool
eq_bool true b = b
eq_bool false true = false
eq_bool false false = true

-- two records are equal in every field: the frame, the places of tables, what the scan says, and what follows from them
abbrev pub same_frame : Frame → Frame → Bool
same_frame a b =
    eqb a.width b.width and eqb a.height b.height and eqb a.channels b.channels
    and eq_list a.across b.across and eq_list a.down b.down and eq_list a.ids b.ids and eq_list a.qids b.qids

abbrev pub same_tables : Tables → Tables → Bool
same_tables a b = eq_list a.quants b.quants and eq_list a.dcs b.dcs and eq_list a.acs b.acs

-- the scan's own: the ids of its tables, the interval and its first coded byte
abbrev pub same_scan : Record → Record → Bool
same_scan a b =
    eq_list a.dcids b.dcids and eq_list a.acids b.acids and eqb a.interval b.interval and eqb a.start b.start

abbrev pub same_sizes : Record → Record → Bool
same_sizes a b =
    eqb a.blocks b.blocks and eqb a.scratch b.scratch and eqb a.output b.output and eqb a.work b.work
    and eq_bool a.colour b.colour

unfoldable pub same : Record → Record → Bool
same a b =
    same_frame a.frame b.frame and same_tables a.tables b.tables and same_scan a b and same_sizes a b

-- number 7 of decode: output or scratch too short, by the record's length fields
abbrev pub short_room : Record → List ℕ → List ℕ → Bool
short_room r out scratch = ltb (length out) r.output or ltb (length scratch) r.scratch

-- number 8: reading these bytes does not accept them with a record equal in every field
abbrev pub its_levels : Record → Reading → Judging (List (List ℤ))
its_levels r (accepted q ls) = do
  refuse_if (not (same q r)) NotItsRecord
  give ls
its_levels r (refused x) = refuse NotItsRecord

-- Decode, in order: 7 by the record's length fields; 2 for 2n+1 + its work field, summed as whole numbers (takes 0); 8, limits set aside
-- and with the record's colour choice. Success takes that same price
abbrev pub decoding : List ℕ → Record → List ℕ → List ℕ → Judging (List (List ℤ))
decoding s r out scratch = do
  refuse_if (short_room r out scratch) ShortRoom
  pay (header_price s + r.work) OverBudget
  its_levels r (reading s r.colour)

-- Every refusal returns with output and scratch unchanged
abbrev pub undecoded : Refusal → Budget → List ℕ → List ℕ → Decoded
undecoded x left out scratch =
    record { answer = record { verdict = Err x; budget = left }; output = out; scratch = scratch }

-- On success scratch holds the block samples, then its old tail; output holds the picture, then its old tail
abbrev pub decoded_with : Record → List ℕ → List ℕ → Budget → List ℕ → Decoded
decoded_with r out scratch left t =
    record {
      answer = record { verdict = Ok tt; budget = left };
      output = over (picture_of r t) out;
      scratch = over t scratch;
    }

abbrev pub decoded : List ℕ → Record → List ℕ → List ℕ → Judged (List (List ℤ)) → Decoded
decoded s r out scratch (accepts ls left) = decoded_with r out scratch left (samples_of s r ls)
decoded s r out scratch (refuses x left) = undecoded x left out scratch

unfoldable pub decode : List ℕ → Record → List ℕ → List ℕ → Budget → Decoded
unfolding header levels same output_length channel_of coefficients samples from sample_at red green blue
decode s r out scratch budget = decoded s r out scratch (decoding s r out scratch budget)

-- ---- settle

-- settle's answer with the buffer
pub record Rewritten : Type 0 where
  pub answer : Settling
  pub output : List ℕ

-- Settle: as inspect, then 9 ..
abbrev pub settling : List ℕ → Limits → Judging (List ℕ)
settling s l = do
  f ← judgement s false l
  give_or NoEndCode (settled_file s f.found f.blocks)

abbrev pub unsettled : Refusal → Budget → ℕ → List ℕ → Rewritten
unsettled x left n out =
    record { answer = record { verdict = Err x; budget = left; length = n }; output = out }

-- .. then 7, which also returns the length needed; every other refusal returns length 0. Success returns the length and takes inspect's
-- price; output holds the settled file, then its old tail
abbrev pub rewritten : List ℕ → Judged (List ℕ) → Rewritten
rewritten out (accepts t left) =
    cond (ltb (length out) (length t)) (unsettled ShortRoom left (length t) out)
    (record {
      answer = record { verdict = Ok tt; budget = left; length = length t };
      output = over t out;
    })
rewritten out (refuses x left) = unsettled x left 0 out

unfoldable pub settle : List ℕ → Limits → Budget → List ℕ → Rewritten
unfolding header levels settled_scan
settle s l budget out = rewritten out (settling s l budget)
