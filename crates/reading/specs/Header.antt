-- The header (the rules' 'From SOI to SOS').
use Rattle.std.specs.Prelude.{ℕ, zero, suc, ◌+◌, ◌*◌, ◌-◌, ◌/◌, ◌%◌, Bool, true, false, not, cond, List, [], ◌∷◌, leb, ltb, eqb, get_or, take, drop, set, length, replicate}
use Rattle.reading.specs.declared.Refusal.{Refusal}
use Rattle.reading.specs.declared.Refusal.TheVariants.{CutShort, Malformed, Unsupported}
use Rattle.reading.specs.declared.Case.{Case}
use Rattle.reading.specs.declared.Case.TheVariants.{Marker, Quantizers, Huffman}
use Rattle.reading.specs.declared.Kind.{Kind}
use Rattle.reading.specs.declared.Kind.TheVariants.{Quants, Tables, Frames, Scans, Intervals, Skips, Others}
use Rattle.reading.specs.declared.Frame.{Frame}
use Rattle.reading.specs.declared.Tables as tables
use Rattle.reading.specs.declared.Header.{Header}
use Rattle.reading.specs.declared.Record.{Record}
use Rattle.reading.specs.Tests.{◌and◌, ◌or◌, within, apart, all, all_from}
use Rattle.reading.specs.Huffman.{sum, codes_fit}
use Rattle.reading.specs.Block.{dc_taken, ac_taken}
use Rattle.reading.specs.Tables.{shape_of, quant_at, dc_at, ac_at}
use Rattle.reading.specs.Layout.{areas, block_count, output_length, work_of}

-- where the header stands: more to read, the scan with its record, or a refusal
pub data Stage : Type 0 where
  more : Header → Stage
  done : Record → Stage
  stop : Refusal → Stage

-- a refusal where the test passes, else what follows
unfoldable pub stop_if : Bool → Refusal → Stage → Stage
stop_if true x st = stop x
stop_if false x st = st

abbrev pub byte : List ℕ → ℕ → ℕ
byte s p = get_or s p 0

-- two bytes, high byte first
abbrev pub word : List ℕ → ℕ → ℕ
word s p = 256 * byte s p + byte s (p + 1)

abbrev pub moved : Header → ℕ → Case → Header
moved h at c =
    record { at = at; case = c; tables = h.tables; frame = h.frame; interval = h.interval }

-- the bytes from a to e: a segment's body, or what is left of it. Every rule below reads such a list, never the file
abbrev pub window : List ℕ → ℕ → ℕ → List ℕ
window s a e = take (e - a) (drop a s)

-- a quantizer is an id 0..3 and 64 nonzero bytes
abbrev pub quantizer_fits : List ℕ → Bool
quantizer_fits b = leb 65 (length b) and leb (byte b 0) 3 and all (ltb 0) (take 64 (drop 1 b))

-- the tables with a later quantizer in place of an earlier one of its id
abbrev pub with_quant : tables.Tables → ℕ → ℕ → tables.Tables
with_quant t id place = record { quants = set t.quants id place; dcs = t.dcs; acs = t.acs }

abbrev pub with_quantizer : List ℕ → Header → Header
with_quantizer b h =
    record {
      at = h.at + 65;
      case = h.case;
      tables = with_quant h.tables (byte b 0) (h.at + 1);
      frame = h.frame;
      interval = h.interval;
    }

abbrev pub quantizer : List ℕ → Header → ℕ → Stage
quantizer b h e =
    cond (eqb h.at e) (more (moved h e Marker))
    (stop_if (not (quantizer_fits b)) Malformed (more (with_quantizer b h)))

-- the 16 counts behind a table's first byte
abbrev pub counts_of : List ℕ → List ℕ
counts_of b = take 16 (drop 1 b)

-- the symbols behind them
abbrev pub symbols_of : List ℕ → List ℕ
symbols_of b = take (sum (counts_of b)) (drop 17 b)

-- what a table of a class may list: what a block takes from it, as its first symbol (DC, class 0) or later (AC)
abbrev pub listable : ℕ → ℕ → Bool
listable class x = cond (eqb class 0) (dc_taken x) (ac_taken x)

-- a Huffman table is class 0 or 1, id 0..3, 16 counts, 1 to 256 symbols, inside its segment; its codes fit, no symbol is listed twice,
-- and none that a block does not take
abbrev pub table_fits : List ℕ → Bool
table_fits b =
    leb 17 (length b) and leb (byte b 0 / 16) 1 and leb (byte b 0 % 16) 3 and within 1 256 (sum (counts_of b))
    and leb (17 + sum (counts_of b)) (length b) and codes_fit (counts_of b) 0 0
    and apart (symbols_of b) and all (listable (byte b 0 / 16)) (symbols_of b)

abbrev pub put : Bool → List ℕ → ℕ → ℕ → List ℕ
put true l i x = set l i x
put false l i x = l

-- the tables with a later Huffman table in place of an earlier one of its class and id
abbrev pub with_huffman : tables.Tables → ℕ → ℕ → ℕ → tables.Tables
with_huffman t class id place =
    record { quants = t.quants; dcs = put (eqb class 0) t.dcs id place; acs = put (eqb class 1) t.acs id place }

abbrev pub with_table : List ℕ → Header → Header
with_table b h =
    record {
      at = h.at + (17 + sum (counts_of b));
      case = h.case;
      tables = with_huffman h.tables (byte b 0 / 16) (byte b 0 % 16) (h.at + 1);
      frame = h.frame;
      interval = h.interval;
    }

abbrev pub huffman : List ℕ → Header → ℕ → Stage
huffman b h e =
    cond (eqb h.at e) (more (moved h e Marker)) (stop_if (not (table_fits b)) Malformed (more (with_table b h)))

-- n numbers from channel c on: f of it below the count of channels, 0 behind the last
abbrev pub each_from : ℕ → ℕ → ℕ → (ℕ → ℕ) → List ℕ
each_from zero c ch f = []
each_from (suc n) c ch f = cond (ltb c ch) (f c) 0 ∷ each_from n (suc c) ch f

-- for each of four channels, f of it; 0 behind the last channel
abbrev pub each : ℕ → (ℕ → ℕ) → List ℕ
each ch f = each_from 4 0 ch f

-- a property of each channel
abbrev pub each_channel : ℕ → (ℕ → Bool) → Bool
each_channel ch p = all_from ch 0 p

-- the sampling of channel c, across and down
abbrev pub across_of : List ℕ → ℕ → ℕ
across_of b c = byte b (7 + 3 * c) / 16

abbrev pub down_of : List ℕ → ℕ → ℕ
down_of b c = byte b (7 + 3 * c) % 16

-- a single channel counts as 1 x 1
abbrev pub counted : ℕ → ℕ → ℕ
counted ch factor = cond (eqb ch 1) 1 factor

-- the frame of a body
abbrev pub frame_of : List ℕ → Frame
frame_of b =
    let ch = byte b 5 in
    record {
      width = word b 3;
      height = word b 1;
      channels = ch;
      across = each ch (λ c. counted ch (across_of b c));
      down = each ch (λ c. counted ch (down_of b c));
      ids = each ch (λ c. byte b (6 + 3 * c));
      qids = each ch (λ c. byte b (8 + 3 * c));
    }

-- the sampling of every channel is 1..4
abbrev pub sampling_fits : List ℕ → ℕ → Bool
sampling_fits b ch = each_channel ch (λ c. within 1 4 (across_of b c) and within 1 4 (down_of b c))

-- quantizer ids 0..3
abbrev pub quants_fit : Frame → Bool
quants_fit f = each_channel f.channels (λ c. leb (get_or f.qids c 0) 3)

-- the frame is one that is read: no zero side, sampling 1..4, quantizer ids 0..3, a sum of products up to 10, ids all different
abbrev pub frame_fits : List ℕ → Frame → Bool
frame_fits b f =
    ltb 0 f.width and ltb 0 f.height and sampling_fits b f.channels and quants_fit f
    and leb (areas (shape_of f).factors) 10 and apart (take f.channels f.ids)

-- the body can be read as a frame: long enough to hold a count, 8 bits, one to four channels
abbrev pub frame_known : List ℕ → Bool
frame_known b = leb 6 (length b) and eqb (byte b 0) 8 and within 1 4 (byte b 5)

abbrev pub has_frame : Header → Bool
has_frame h = ltb 0 h.frame.channels

abbrev pub with_frame : Header → ℕ → Frame → Header
with_frame h e f =
    record { at = e; case = Marker; tables = h.tables; frame = f; interval = h.interval }

abbrev pub frame : List ℕ → Header → ℕ → Stage
frame b h e =
    stop_if (has_frame h) Malformed
    (stop_if (not (frame_known b)) Unsupported
    (stop_if (not (eqb (length b) (6 + 3 * byte b 5))) Malformed
    (stop_if (not (frame_fits b (frame_of b))) Unsupported
    (more (with_frame h e (frame_of b))))))

abbrev pub with_interval : Header → ℕ → ℕ → Header
with_interval h e n =
    record { at = e; case = Marker; tables = h.tables; frame = h.frame; interval = n }

abbrev pub interval : List ℕ → Header → ℕ → Stage
interval b h e = stop_if (not (eqb (length b) 2)) Malformed (more (with_interval h e (word b 0)))

-- the DC and AC table ids of channel c in a scan's body
abbrev pub dc_id : List ℕ → ℕ → ℕ
dc_id b c = byte b (2 + 2 * c) / 16

abbrev pub ac_id : List ℕ → ℕ → ℕ
ac_id b c = byte b (2 + 2 * c) % 16

abbrev pub record_of : List ℕ → Bool → Header → ℕ → Record
record_of b colour h e =
    let sh = shape_of h.frame in
    record {
      frame = h.frame;
      tables = h.tables;
      dcids = each h.frame.channels (dc_id b);
      acids = each h.frame.channels (ac_id b);
      interval = h.interval;
      start = e;
      blocks = block_count sh;
      scratch = 64 * block_count sh;
      output = output_length sh;
      work = work_of sh;
      colour = colour;
    }

-- every channel has its quantizer and its two Huffman tables
abbrev pub complete : Record → Bool
complete r =
    each_channel r.frame.channels (λ c. ltb 0 (quant_at r c) and ltb 0 (dc_at r c) and ltb 0 (ac_at r c))

-- the scan's last three bytes are 0 63 0
abbrev pub sequential : List ℕ → ℕ → Bool
sequential b ch = eqb (byte b (1 + 2 * ch)) 0 and eqb (byte b (2 + 2 * ch)) 63 and eqb (byte b (3 + 2 * ch)) 0

-- the body can be read as the scan of a picture with ch channels
abbrev pub scan_known : List ℕ → ℕ → Bool
scan_known b ch = eqb (byte b 0) ch and eqb (length b) (4 + 2 * ch) and sequential b ch

-- the scan names the channels in the frame's order
abbrev pub in_order : List ℕ → List ℕ → ℕ → Bool
in_order b ids ch = each_channel ch (λ c. eqb (byte b (1 + 2 * c)) (get_or ids c 0))

-- each channel's two table ids are at most 3
abbrev pub selected : List ℕ → ℕ → Bool
selected b ch = each_channel ch (λ c. leb (dc_id b c) 3 and leb (ac_id b c) 3)

abbrev pub scan_segment : List ℕ → Bool → Header → ℕ → Stage
scan_segment b colour h e =
    let ch = h.frame.channels in
    stop_if (not (has_frame h)) Malformed
    (stop_if (not (scan_known b ch)) Unsupported
    (stop_if (not (in_order b h.frame.ids ch)) Malformed
    (stop_if (not (selected b ch)) Unsupported
    (stop_if (not (complete (record_of b colour h e))) Malformed
    (done (record_of b colour h e))))))

-- what a marker code asks for
abbrev pub kind_of : ℕ → Kind
kind_of c =
    cond (within 192 193 c) Frames
    (cond (eqb c 196) Tables
    (cond (eqb c 218) Scans
    (cond (eqb c 219) Quants
    (cond (eqb c 221) Intervals
    (cond (within 224 239 c or eqb c 254) Skips Others)))))

-- a segment from a to e with its body
abbrev pub segment : Bool → Header → Kind → List ℕ → ℕ → ℕ → Stage
segment colour h Quants b a e = stop_if (eqb a e) Malformed (more (moved h a (Quantizers e)))
segment colour h Tables b a e = stop_if (eqb a e) Malformed (more (moved h a (Huffman e)))
segment colour h Frames b a e = frame b h e
segment colour h Scans b a e = scan_segment b colour h e
segment colour h Intervals b a e = interval b h e
segment colour h Skips b a e = more (moved h e Marker)
segment colour h Others b a e = stop Unsupported

-- the end of the segment whose marker stands at p
abbrev pub segment_end : List ℕ → ℕ → ℕ
segment_end s p = p + 2 + word s (p + 2)

abbrev pub marker : List ℕ → Bool → Header → Stage
marker s colour h =
    let p = h.at in
    stop_if (ltb (length s) (p + 2) or not (eqb (byte s p) 255)) Malformed
    (cond (eqb (byte s (p + 1)) 255) (more (moved h (p + 1) Marker))
    (stop_if (eqb (byte s (p + 1)) 217) Malformed
    (stop_if (ltb (length s) (p + 4) or ltb (word s (p + 2)) 2 or ltb (length s) (segment_end s p)) CutShort
    (segment colour h (kind_of (byte s (p + 1))) (window s (p + 4) (segment_end s p)) (p + 4) (segment_end s p)))))

-- one step of the header
abbrev pub step_in : List ℕ → Bool → Header → Case → Stage
step_in s colour h Marker = marker s colour h
step_in s colour h (Quantizers e) = quantizer (window s h.at e) h e
step_in s colour h (Huffman e) = huffman (window s h.at e) h e

abbrev pub step : List ℕ → Bool → Header → Stage
step s colour h = step_in s colour h h.case

-- n steps, or fewer where it stops before
abbrev pub steps : List ℕ → Bool → ℕ → Stage → Stage
steps s colour zero st = st
steps s colour (suc n) (more h) = steps s colour n (step s colour h)
steps s colour (suc n) (done r) = done r
steps s colour (suc n) (stop x) = stop x

abbrev pub no_frame : Frame
no_frame = record { width = 0; height = 0; channels = 0; across = replicate 4 0; down = replicate 4 0; ids = replicate 4 0; qids = replicate 4 0 }

abbrev pub no_tables : tables.Tables
no_tables = record { quants = replicate 4 0; dcs = replicate 4 0; acs = replicate 4 0 }

abbrev pub opening : Header
opening =
    record { at = 2; case = Marker; tables = no_tables; frame = no_frame; interval = 0 }

-- the file opens 255 216
abbrev pub opens : List ℕ → Bool
opens s = leb 2 (length s) and eqb (byte s 0) 255 and eqb (byte s 1) 216

abbrev pub started : List ℕ → Stage
started s = stop_if (not (opens s)) Malformed (more opening)

unfoldable pub header : List ℕ → Bool → Stage
unfolding stop_if block_count output_length work_of
header s colour = steps s colour (2 * length s + 1) (started s)

-- the record of a refusal
abbrev pub no_record : Record
no_record =
    record {
      frame = no_frame;
      tables = no_tables;
      dcids = replicate 4 0;
      acids = replicate 4 0;
      interval = 0;
      start = 0;
      blocks = 0;
      scratch = 0;
      output = 0;
      work = 0;
      colour = false;
    }

-- a header ends with its record or with a refusal. (The first line is never met: `header-finishes`)
abbrev pub ending : {A : Type 0} → (Record → A) → (Refusal → A) → Stage → A
ending f g (more h) = g CutShort
ending f g (done r) = f r
ending f g (stop x) = g x
