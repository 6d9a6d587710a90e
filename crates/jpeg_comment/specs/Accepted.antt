-- A reading as the code tests it.
use Rattle.std.specs.Prelude.{Bool, true, false}
use Rattle.reading.specs.Reading.{Reading, accepted, refused}

abbrev pub is_read : Reading → Bool
is_read (accepted r ls) = true
is_read (refused x) = false
