-- What stands before a record is drawn.
use Rattle.std.specs.Prelude.{◌≡◌, List, ℕ, ◌≤◌, length}
use Rattle.reading.specs.declared.Record.{Record}
use Rattle.reading.specs.Header.{done, header}

-- the header gave a record, and both buffers have room for the record that was given
pub record Meets (s : List ℕ) (q r : Record) (out scratch : List ℕ) : Type 0 where
  pub head : header s r.colour ≡ done q
  pub out_room : r.output ≤ length out
  pub scratch_room : r.scratch ≤ length scratch
