-- A record as 46 numbers and back; a yes or no as a number.
use Rattle.std.specs.Prelude.{ℕ, Bool, cond, ltb, eqb}
use Rattle.reading.specs.declared.Frame.{Frame}
use Rattle.reading.specs.declared.Record.{Record}
use Rattle.c_record.specs.declared.FlatRecord.{FlatRecord}

-- 0 for no, 1 for yes
abbrev pub digit : Bool → ℕ
digit b = cond b 1 0

-- a record as numbers
abbrev pub flat : Record → FlatRecord
flat r =
    record {
      width = r.frame.width;
      height = r.frame.height;
      channels = r.frame.channels;
      across = r.frame.across;
      down = r.frame.down;
      ids = r.frame.ids;
      qids = r.frame.qids;
      dcids = r.dcids;
      acids = r.acids;
      quants = r.tables.quants;
      dcs = r.tables.dcs;
      acs = r.tables.acs;
      interval = r.interval;
      start = r.start;
      blocks = r.blocks;
      scratch = r.scratch;
      output = r.output;
      work = r.work;
      colour = digit r.colour;
    }

-- the frame of numbers, with a count of channels
abbrev pub frame_with : ℕ → FlatRecord → Frame
frame_with channels f =
    record {
      width = f.width;
      height = f.height;
      channels = channels;
      across = f.across;
      down = f.down;
      ids = f.ids;
      qids = f.qids;
    }

-- the record of numbers, with a count of channels
abbrev pub record_with : ℕ → FlatRecord → Record
record_with channels f =
    record {
      frame = frame_with channels f;
      tables = record { quants = f.quants; dcs = f.dcs; acs = f.acs };
      dcids = f.dcids;
      acids = f.acids;
      interval = f.interval;
      start = f.start;
      blocks = f.blocks;
      scratch = f.scratch;
      output = f.output;
      work = f.work;
      colour = eqb f.colour 1;
    }

-- the record of numbers
abbrev pub record_of : FlatRecord → Record
record_of f = record_with f.channels f

-- numbers are a record's where the last is 0 or 1
abbrev pub is_record : FlatRecord → Bool
is_record f = ltb f.colour 2
