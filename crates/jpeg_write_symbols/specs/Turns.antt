-- What is written next of a block: from a place on, behind a run of zeros that are not written yet.
use Rattle.std.specs.Prelude.{ℕ, zero, suc, ◌+◌, ◌*◌, ◌-◌, Bool, false, cond, List, [], ◌∷◌, leb, eqb, ℤ, pos, nat_abs, ◌-ℤ◌, length, get_or, drop}
use Rattle.reading.specs.Settled.{size_from, size, field_of}
use Rattle.jpeg_write_symbols.specs.declared.Turn.{Turn}

-- the smallest category, at most 12, of a value at the distance m from 0
unfoldable pub category_of : ℕ → ℕ
category_of m = size_from 12 0 m

-- how many levels at the front are zero
unfoldable pub zeros_of : List ℤ → ℕ
zeros_of [] = 0
zeros_of (v ∷ l) = cond (eqb (nat_abs v) 0) (suc (zeros_of l)) 0

-- how many levels from a place on are zero; none at the first place
unfoldable pub zeros_at : List ℤ → ℕ → ℕ
unfolding zeros_of
zeros_at l zero = 0
zeros_at l (suc k) = zeros_of (drop (suc k) l)

-- of `count` levels all are written
unfoldable pub over : ℕ → ℕ → ℕ → Bool
over count place run = cond (leb count place) (eqb run 0) false

-- what stands for the level at a place: of the first its difference from the prediction
unfoldable pub value_at : List ℤ → ℤ → ℕ → ℤ
value_at l p zero = get_or l 0 (pos 0) -ℤ p
value_at l p (suc k) = get_or l (suc k) (pos 0)

-- a symbol with no field
abbrev pub plain_turn : ℕ → ℕ → ℕ → Turn
plain_turn x place run = record { symbol = x; field = 0; size = 0; place = place; run = run }

-- a run of zeros and a value's category, and its field
unfoldable pub value_turn : ℕ → ℤ → ℕ → Turn
value_turn run d place =
    record { symbol = 16 * run + size d; field = field_of (size d) d; size = size d; place = place + 1; run = 0 }

-- what is written next: the end code, 240 for sixteen zeros, or a level
unfoldable pub turn_at : List ℤ → ℤ → ℕ → ℕ → Turn
unfolding value_turn value_at
turn_at l p place run =
    cond (leb (length l) place) (plain_turn 0 place 0)
    (cond (leb 16 run) (plain_turn 240 place (run - 16)) (value_turn run (value_at l p place) place))
