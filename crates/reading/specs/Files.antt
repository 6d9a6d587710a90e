-- A file as a whole, limits, budget and room aside: what demand 3 speaks of. Each is there where the file's reading is accepted.
use Rattle.std.specs.Prelude.{ℕ, Bool, false, List, ℤ, take}
use Rattle.std.proofs.Math.Option.{Option, none, some}
use Rattle.reading.specs.declared.Record.{Record}
use Rattle.reading.specs.Scan.{plan_of}
use Rattle.reading.specs.Reading.{Reading, accepted, refused, reading, coefficients_of, samples_of, picture_of}
use Rattle.reading.specs.Settled.{settled_file, some_lacks_end}

-- of an accepted reading f of its record and levels, else the other
abbrev pub if_accepted : {A : Type 0} → (Record → List (List ℤ) → A) → A → Reading → A
if_accepted f other (accepted r ls) = f r ls
if_accepted f other (refused x) = other

-- all bytes before the first coded byte
abbrev pub head_in : List ℕ → Option (List ℕ)
head_in s = if_accepted (λ r ls. some (take r.start s)) none (reading s false)

-- the coefficients of the blocks, in natural order
abbrev pub coefficients_in : List ℕ → Option (List (List ℤ))
coefficients_in s = if_accepted (λ r ls. some (coefficients_of s r ls)) none (reading s false)

-- the samples of the blocks, and the picture by a colour choice
abbrev pub samples_in : List ℕ → Option (List ℕ)
samples_in s = if_accepted (λ r ls. some (samples_of s r ls)) none (reading s false)

abbrev pub picture_in : List ℕ → Bool → Option (List ℕ)
picture_in s colour = if_accepted (λ r ls. some (picture_of r (samples_of s r ls))) none (reading s colour)

-- the settled file; none for want of a code too
abbrev pub settled_in : List ℕ → Option (List ℕ)
settled_in s = if_accepted (settled_file s) none (reading s false)

-- the file is accepted, and some block ends in a zero and its table has no end-of-block code
abbrev pub lacks_end_in : List ℕ → Bool
lacks_end_in s = if_accepted (λ r ls. some_lacks_end (plan_of s r) 0 ls) false (reading s false)
