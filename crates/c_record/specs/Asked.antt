-- The record by which the code decodes: no file's where the numbers are no record's, since it has no channels, and with their sizes and work.
use Rattle.std.specs.Prelude.{cond, ltb}
use Rattle.reading.specs.declared.Record.{Record}
use Rattle.c_record.specs.declared.FlatRecord.{FlatRecord}
use Rattle.c_record.specs.Flat.{record_with, record_of}

abbrev pub channelless : FlatRecord → Record
channelless f = record_with 0 f

abbrev pub asked : FlatRecord → Record
asked f = cond (ltb 1 f.colour) (channelless f) (record_of f)
