-- Whether a table's counts fit, for a list of any length: the rules' table has sixteen, of which `codes_fit` speaks.
use Rattle.std.specs.Prelude.{Bool, List, ℕ, leb, length}
use Rattle.reading.specs.Tests.{◌and◌}
use Rattle.reading.specs.Huffman.{codes_fit}

-- at most sixteen counts, and their codes fit
abbrev pub counts_fit : List ℕ → Bool
counts_fit counts = leb (length counts) 16 and codes_fit counts 0 0
