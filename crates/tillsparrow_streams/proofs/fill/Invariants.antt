-- What was read stands at the buffer's start, and is what the stream lost; each turn leaves less to fill.
use Rattle.std.proofs.Common.{length, take, ◌-◌, ◌≤◌, ◌≡◌}
use Rattle.std.specs.Io.KnownBytes.{Consumes}
use Rattle.tillsparrow_streams.proofs.fill.Given as goal

abbrev pub invariant-loop-n : goal.invariant-loop-n
invariant-loop-n g l =
    (length l.buffer ≡ length l.initial.buffer) × (l.n ≤ length l.buffer)
    × Consumes (g.R.Read.remaining l.initial.stream) (g.R.Read.remaining l.stream) (take l.n l.buffer)

abbrev pub decreases-loop-n : goal.decreases-loop-n
decreases-loop-n g l = length l.buffer - l.n
