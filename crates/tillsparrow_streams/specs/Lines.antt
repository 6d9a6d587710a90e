-- The lines that the programs write: a refusal's and the head of a picture; and a text put into a line.
use Rattle.std.specs.Prelude.{ℕ, zero, suc, ◌+◌, ◌-◌, ◌/◌, ◌%◌, min, ◌≡◌, refl, cond, List, [], ◌∷◌, ◌++◌, ltb, eqb, length, take}
use Rattle.std.proofs.Math.Seq.{paste}
use Rattle.reading.specs.declared.Record.{Record}
use Rattle.reading.specs.Calls.{number_of}
use Rattle.tillsparrow_streams.specs.declared.Line.{Line}
use Rattle.tillsparrow_streams.specs.declared.Line.TheVariants.{Empty, Refused, Picture, Text}

-- ---- texts

-- the digits of a number that has at most k, the highest first and no zero in front; of a longer one the last k
unfoldable pub digits_in : ℕ → ℕ → List ℕ
digits_in zero n = []
digits_in (suc k) n = cond (ltb n 10) ((48 + n) ∷ []) (digits_in k (n / 10) ++ (48 + n % 10) ∷ [])

-- a number in decimal: n has at most n + 1 digits
abbrev pub decimal : ℕ → List ℕ
decimal n = digits_in (suc n) n

-- `refused`, a blank, the number and a newline
unfoldable pub refused : ℕ → List ℕ
refused n = (114 ∷ 101 ∷ 102 ∷ 117 ∷ 115 ∷ 101 ∷ 100 ∷ 32 ∷ []) ++ decimal n ++ 10 ∷ []

-- `P5` for one channel, else `P6`, and a newline
abbrev pub kind_of : ℕ → List ℕ
kind_of channels = 80 ∷ cond (eqb channels 1) 53 54 ∷ 10 ∷ []

-- the kind, then the width, a blank, the height and a newline, then `255` and a newline
unfoldable pub picture_head : Record → List ℕ
picture_head r =
    let f = r.frame in
    kind_of f.channels ++ decimal f.width ++ 32 ∷ [] ++ decimal f.height ++ 10 ∷ 50 ∷ 53 ∷ 53 ∷ 10 ∷ []

-- `0`, `10` and `65535`
pub numbers : (decimal 0 ≡ 48 ∷ []) × (decimal 10 ≡ 49 ∷ 48 ∷ []) × (decimal 65535 ≡ 54 ∷ 53 ∷ 53 ∷ 51 ∷ 53 ∷ [])
unfolding digits_in
numbers = (refl, refl, refl)

-- number 4: `refused 4`
pub fourth : refused 4 ≡ 114 ∷ 101 ∷ 102 ∷ 117 ∷ 115 ∷ 101 ∷ 100 ∷ 32 ∷ 52 ∷ 10 ∷ []
unfolding digits_in refused
fourth = refl

-- 8 x 8 in one channel: `P5`, `8 8`, `255`
pub square : (r : Record) → r.frame.channels ≡ 1 → r.frame.width ≡ 8 → r.frame.height ≡ 8
    → picture_head r ≡ 80 ∷ 53 ∷ 10 ∷ 56 ∷ 32 ∷ 56 ∷ 10 ∷ 50 ∷ 53 ∷ 53 ∷ 10 ∷ []
unfolding digits_in picture_head
square r one wide high = rw (one, wide, high) refl

-- ---- lines

-- what a line says
unfoldable pub line_text : Line → List ℕ
line_text Empty = []
line_text (Refused x) = refused (number_of x)
line_text (Picture r) = picture_head r
line_text (Text bytes n) = take n bytes

-- how many bytes of a text have room in a line from a place on
abbrev pub fitting : List ℕ → ℕ → List ℕ → ℕ
fitting line at text = min (length text) (length line - at)

-- the line with those bytes in it
abbrev pub placed : List ℕ → ℕ → List ℕ → List ℕ
placed line at text = paste line at text (fitting line at text)
