-- What inspect and settle test before the scan is read, in the parts that the code has.
use Rattle.std.specs.Prelude.{Bool, List, ℕ}
use Rattle.reading.specs.declared.Budget.{Budget}
use Rattle.reading.specs.declared.Inspection.{Inspection}
use Rattle.reading.specs.declared.Limits.{Limits}
use Rattle.reading.specs.declared.Record.{Record}
use Rattle.reading.specs.Header.{header}
use Rattle.reading.specs.Calls.{weighing, admission, inspection}

-- behind the header: 6, then 2 for work
unfoldable pub weighed : Limits → Budget → Record → Inspection
weighed l left r = inspection (weighing l r left)

-- 1, 2 for the header's price, the header, 6, 2 for work
unfoldable pub admitted : List ℕ → Bool → Limits → Budget → Inspection
unfolding header
admitted s colour l budget = inspection (admission s colour l budget)
