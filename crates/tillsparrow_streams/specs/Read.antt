-- What can be said of a buffer that was filled: no more bytes were read than it has, and a read can only have failed where there was
-- room to read into, so that an empty buffer gives 0 bytes.
use Rattle.std.specs.Prelude.{ℕ, ◌≤◌, ◌<◌, List, Option, Result, Ok, Err, length, take}
use Rattle.std.specs.Io.KnownBytes.{Consumes, IsAtEnd}
use Rattle.tillsparrow_streams.specs.declared.Unread.{Unread}

abbrev pub Within : ℕ → Result ℕ Unread → Type 0
Within room (Ok n) = n ≤ room
Within room (Err u) = 0 < room

pub record Fills (room : ℕ) (r : Result ℕ Unread) : Type 0 where
  pub within : Within room r

-- Where it is known which bytes a stream will give, old before and new after: the bytes that were read are its next ones, they stand at
-- the buffer's start, and a buffer that is not full was read to the stream's end. Where a read failed, the stream lost the
-- bytes before it.
abbrev pub Took : Option (List ℕ) → Option (List ℕ) → List ℕ → Result ℕ Unread → Type 0
Took old new buffer (Ok n) = Consumes old new (take n buffer) × (n < length buffer → IsAtEnd new)
Took old new buffer (Err u) = (u.behind < length buffer) × Consumes old new (take u.behind buffer)
