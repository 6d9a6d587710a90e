-- One step of the walk over a block: a symbol, what it asks for, and the level that its value makes. The first level is read by
-- the same step, at place 0.
use Rattle.std.specs.Prelude.{ℕ, ◌+◌, cond, eqb, ℤ, ◌+ℤ◌, Result, Ok, Err}
use Rattle.reading.specs.declared.Fault.{Fault}
use Rattle.reading.specs.declared.Fault.TheVariants.{Broken}
use Rattle.reading.specs.Reader.{Read, got, fault, Reader, ◌>>=◌, ◌>>◌, give, fail, rule}
use Rattle.reading.specs.Bits.{amplitude}
use Rattle.reading.specs.Huffman.{Table, symbol}
use Rattle.reading.specs.Block.{Ask, end, skip, value, wrong, dc_taken, asked, predictable}
use Rattle.jpeg_block.specs.declared.Asked.{Asked}
use Rattle.jpeg_block.specs.declared.Asked.TheVariants as asked
use Rattle.jpeg_block.specs.declared.Step as declared
use Rattle.jpeg_block.specs.declared.Step.TheVariants as read

-- what a symbol asks for: the first one is a category
unfoldable pub ask_at : ℕ → ℕ → Ask
ask_at place x = cond (eqb place 0) (cond (dc_taken x) (value 0 x) wrong) (asked place x)

-- the code's answer for it
abbrev pub asked_for : Ask → Result Asked Fault
asked_for end = Ok asked.End
asked_for skip = Ok asked.Skip
asked_for (value run size) = Ok (asked.Value run size)
asked_for wrong = Err Broken

-- what a symbol and its value make
pub data Step : Type 0 where
  ends : Step
  skips : Step
  puts : ℕ → ℤ → Step

abbrev pub step_read : {P : Type 0} → Result (declared.Step P) Fault → Read P Step
step_read (Ok (read.End b)) = got ends b
step_read (Ok (read.Skip b)) = got skips b
step_read (Ok (read.Put at z b)) = got (puts at z) b
step_read (Err f) = fault f

-- the level that v makes at a place: the first is added to the prediction p
abbrev pub level_at : {S : Type 0} → ℕ → ℤ → ℤ → Reader S Step
level_at at p v = cond (eqb at 0) (rule (predictable (p +ℤ v)) >> give (puts at (p +ℤ v))) (give (puts at v))

unfoldable pub value_at : {S : Type 0} → Reader S ℕ → ℕ → ℕ → ℤ → Reader S Step
unfolding amplitude
value_at next at size p = amplitude next size >>= level_at at p

abbrev pub step_for : {S : Type 0} → Reader S ℕ → ℕ → ℤ → Ask → Reader S Step
step_for next place p end = give ends
step_for next place p skip = give skips
step_for next place p (value run size) = value_at next (place + run) size p
step_for next place p wrong = fail Broken

unfoldable pub stepped : {S : Type 0} → Reader S ℕ → Table → ℕ → ℤ → Reader S Step
unfolding ask_at value_at symbol
stepped next t place p = symbol next t >>= λ x. step_for next place p (ask_at place x)
