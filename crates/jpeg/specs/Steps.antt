-- Decode in the parts that its code has: behind its price a header that is read, and a record that is compared before it is drawn.
use Rattle.std.specs.Prelude.{List, ℕ}
use Rattle.reading.specs.declared.Budget.{Budget}
use Rattle.reading.specs.declared.Decoding.{Decoding}
use Rattle.reading.specs.declared.Record.{Record}
use Rattle.reading.specs.Scan.{levels}
use Rattle.reading.specs.Header.{header}
use Rattle.reading.specs.Reading.{scanned, reading}
use Rattle.reading.specs.Calls.{its_levels, Decoded, decoded}

-- behind the header, which gave the record q
unfoldable pub drawn_as : List ℕ → Record → Record → List ℕ → List ℕ → Budget → Decoded
unfolding levels
drawn_as s q r out scratch rest = decoded s r out scratch (its_levels r (scanned q (levels s q)) rest)

-- behind the price
unfoldable pub file_drawn : List ℕ → Record → List ℕ → List ℕ → Budget → Decoded
unfolding header levels
file_drawn s r out scratch rest = decoded s r out scratch (its_levels r (reading s r.colour) rest)

-- an answer and the two buffers as they are left
abbrev pub leaving : Decoding → List ℕ → List ℕ → Decoded
leaving answer out scratch = record { answer = answer; output = out; scratch = scratch }
