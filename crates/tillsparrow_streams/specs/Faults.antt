-- What a program says where it cannot go on.
use Rattle.std.specs.Prelude.{ℕ, List, codes}
use Rattle.tillsparrow_streams.specs.declared.Fault.{Fault}
use Rattle.tillsparrow_streams.specs.declared.Fault.TheVariants.{Unread, Unwritten}

abbrev pub fault_text : Fault → List ℕ
fault_text Unread = codes "tillsparrow: the input cannot be read"
fault_text Unwritten = codes "tillsparrow: the output cannot be written"
