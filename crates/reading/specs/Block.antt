-- A block: 64 levels in zigzag order.
use Rattle.std.specs.Prelude.{ℕ, zero, suc, ◌+◌, ◌-◌, ◌/◌, ◌%◌, Bool, not, cond, List, [], ◌∷◌, ◌++◌, leb, ltb, eqb, replicate, ℤ, pos, negsuc, ◌+ℤ◌}
use Rattle.std.specs.Int.Signed.{le_z}
use Rattle.reading.specs.declared.Fault.TheVariants.{Broken}
use Rattle.reading.specs.Reader.{Reader, ◌>>=◌, ◌>>◌, give, fail, rule}
use Rattle.reading.specs.Bits.{field, amplitude}
use Rattle.reading.specs.Huffman.{Table, symbol}
use Rattle.reading.specs.Tests.{◌and◌, ◌or◌, within}

-- the symbols that a block takes: as its first one a category 0..11; later the end, 16 zeros, or any run of zeros with a value of size 1..10.
-- A table may list no others (`Header.listable`)
abbrev pub dc_taken : ℕ → Bool
dc_taken x = leb x 11

abbrev pub ac_taken : ℕ → Bool
ac_taken x = eqb x 0 or eqb x 240 or within 1 10 (x % 16)

-- -2048..2047
abbrev pub predictable : ℤ → Bool
predictable d = le_z (negsuc 2047) d and le_z d (pos 2047)

-- the first level: its category is taken; prediction plus difference lies in -2048..2047
abbrev pub first : {S : Type 0} → Reader S ℕ → Table → ℤ → Reader S ℤ
first next dc p = do
  c ← symbol next dc
  rule (dc_taken c)
  d ← amplitude next c
  rule (predictable (p +ℤ d))
  give (p +ℤ d)

-- what a later symbol asks for at a place: the end, 16 zeros, or a run of zeros and a value of a size
pub data Ask : Type 0 where
  end : Ask
  skip : Ask
  value : ℕ → ℕ → Ask
  wrong : Ask

abbrev pub asked : ℕ → ℕ → Ask
asked place x =
    cond (not (ac_taken x)) wrong
    (cond (eqb x 0) end
    (cond (eqb x 240) (cond (leb place 48) skip wrong)
    (cond (ltb (place + x / 16) 64) (value (x / 16) (x % 16)) wrong)))

abbrev pub zeros : ℕ → List ℤ
zeros n = replicate n (pos 0)

-- what an answer gives at a place: the levels from there to 63. `more` reads the levels from a later place
abbrev pub answered : {S : Type 0} → Reader S ℕ → ℕ → (ℕ → Reader S (List ℤ)) → Ask → Reader S (List ℤ)
answered next place more end = give (zeros (64 - place))
answered next place more skip = more (place + 16) >>= λ l. give (zeros 16 ++ l)
answered next place more (value run size) =
    amplitude next size >>= λ v. more (place + run + 1) >>= λ l. give (zeros run ++ v ∷ l)
answered next place more wrong = fail Broken

-- the levels from a place to 63: they stop at the end code, at place 64 or at a fault. `n` bounds the symbols that are left
unfoldable pub rest : {S : Type 0} → Reader S ℕ → Table → ℕ → ℕ → Reader S (List ℤ)
unfolding symbol amplitude field
rest next ac zero place = give []
rest next ac (suc n) place =
    cond (leb 64 place) (give []) (symbol next ac >>= λ x. answered next place (rest next ac n) (asked place x))

unfoldable pub block : {S : Type 0} → Reader S ℕ → Table → Table → ℤ → Reader S (List ℤ)
unfolding symbol amplitude field rest
block next dc ac p = do
  v ← first next dc p
  l ← rest next ac 63 1
  give (v ∷ l)
