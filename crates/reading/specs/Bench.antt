-- Worked pieces (the rules' 'Bench pieces'), as one table that is computed: what is found, and what the rules say.
use Rattle.std.specs.Prelude.{ℕ, ◌+◌, ◌-◌, Bool, true, false, List, [], ◌∷◌, ◌++◌, T, eqb, length, take, replicate, ℤ, pos, negsuc}
use Rattle.whole.specs.Expressions.{neg}
use Rattle.reading.specs.declared.Limits.{Limits}
use Rattle.reading.specs.declared.Budget.{Budget}
use Rattle.reading.specs.declared.Record.{Record}
use Rattle.reading.specs.Verdicts.{Verdict}
use Rattle.reading.specs.Tests.{◌and◌, all}
use Rattle.reading.specs.Bits.{meaning}
use Rattle.reading.specs.Block.{zeros}
use Rattle.reading.specs.Colour.{red, green, blue}
use Rattle.reading.specs.Transform.{clamped, coefficients, samples}
use Rattle.reading.specs.Layout.{Factors, Shape, factors_of, block_count, output_length, work_of, sample_at}
use Rattle.reading.specs.Calls.{inspect, decode, settle, number, named, eq_list}
use Rattle.reading.specs.Comments.{comments, comment_part, comment, has_comment}

-- ---- files

-- a marker segment: its code and its body, of at most 253 bytes
abbrev segment : ℕ → List ℕ → List ℕ
segment code body = 255 ∷ code ∷ 0 ∷ (2 + length body) ∷ body

-- one channel, 8 high: its width, its quantizer, what stands before the tables, the DC and the AC table as counts and symbols, and
-- the coded bytes
abbrev file : ℕ → List ℕ → List ℕ → List ℕ → List ℕ → List ℕ → List ℕ
file width quantizer before dc ac coded =
    255 ∷ 216 ∷ segment 219 (0 ∷ quantizer)
    ++ segment 192 (8 ∷ 0 ∷ 8 ∷ 0 ∷ width ∷ 1 ∷ 1 ∷ 17 ∷ 0 ∷ [])
    ++ before
    ++ segment 196 (0 ∷ dc)
    ++ segment 196 (16 ∷ ac)
    ++ segment 218 (1 ∷ 1 ∷ 0 ∷ 0 ∷ 63 ∷ 0 ∷ [])
    ++ coded
    ++ 255 ∷ 217 ∷ []

-- 8 x 8, a quantizer of ones
abbrev square : List ℕ → List ℕ → List ℕ → List ℕ
square dc ac coded = file 8 (replicate 64 1) [] dc ac coded

-- one 1-bit code for a symbol
abbrev one_code : ℕ → List ℕ
one_code x = 1 ∷ replicate 15 0 ++ x ∷ []

-- codes 0 and 10 for two symbols
abbrev two_codes : ℕ → ℕ → List ℕ
two_codes x y = 1 ∷ 1 ∷ replicate 14 0 ++ x ∷ y ∷ []

abbrev F : List ℕ
F = square (one_code 0) (one_code 0) (63 ∷ [])

-- end and 240
abbrev runs : List ℕ → List ℕ
runs coded = square (one_code 0) (two_codes 0 240) coded

-- both DC codes mean 0
abbrev twice : List ℕ → List ℕ
twice coded = square (two_codes 0 0) (one_code 0) coded

-- F with another table, first byte and all, before its own
abbrev after_table : List ℕ → List ℕ
after_table body = file 8 (replicate 64 1) (segment 196 body) (one_code 0) (one_code 0) (63 ∷ [])

-- 240, and a run of 14 with a value of a size: no end code
abbrev long : ℕ → List ℕ → List ℕ
long size coded = square (one_code 0) (two_codes 240 (224 + size)) coded

-- two blocks; DC codes 0, 10 and 110 for the categories 11, 1 and 2
abbrev falling : List ℕ → List ℕ
falling coded = file 16 (replicate 64 1) [] (1 ∷ 1 ∷ 1 ∷ replicate 13 0 ++ 11 ∷ 1 ∷ 2 ∷ []) (one_code 0) coded

-- two blocks, a restart before the second, a quantizer of 16 at the first place; the DC code 0 for category 3; what stands before the
-- restart's 255 and before that of 217
abbrev between : List ℕ → List ℕ → List ℕ
between before last =
    file 16 (16 ∷ replicate 63 1) (segment 221 (0 ∷ 1 ∷ [])) (one_code 3) (one_code 0) (87 ∷ before ++ 255 ∷ 208 ∷ 87 ∷ last)

abbrev restarting : List ℕ
restarting = between [] []

-- the same with other coded bytes
abbrev two_parts : List ℕ → List ℕ
two_parts coded = file 16 (16 ∷ replicate 63 1) (segment 221 (0 ∷ 1 ∷ [])) (one_code 3) (one_code 0) coded

-- two blocks, and in each a value at place 63, as in `long`
abbrev two_long : List ℕ → List ℕ
two_long coded = file 16 (replicate 64 1) [] (one_code 0) (two_codes 240 233) coded

-- so many fill bytes before the restart, and before 217
abbrev filled : ℕ → ℕ → List ℕ
filled n m = between (replicate n 255) (replicate m 255)

-- F without its last marker
abbrev unended : List ℕ
unended = take 139 F

-- F with three comments before its tables, the second empty, fill before the third; between them a segment whose body looks like one
abbrev noted : List ℕ → List ℕ
noted coded =
    file 8 (replicate 64 1)
    (segment 254 (65 ∷ 66 ∷ []) ++ segment 225 (255 ∷ 254 ∷ 0 ∷ 3 ∷ 9 ∷ []) ++ segment 254 [] ++ 255 ∷ segment 254 (67 ∷ []))
    (one_code 0) (one_code 0) coded

-- ---- answers as numbers

abbrev wide : Limits
wide = record { input = 65536; side = 65535; output = 65536 }

abbrev holding : ℕ → Budget
holding n = record { left = n }

-- a budget that suffices for all of them
abbrev plenty : Budget
plenty = holding 1000000

-- inspect's number and what it leaves of the budget
abbrev inspected : List ℕ → ℕ → List ℕ
inspected s budget = let i = inspect s false wide (holding budget) in number i.verdict ∷ i.budget.left ∷ []

-- inspect's number
abbrev verdict : List ℕ → List ℕ
verdict s = take 1 (inspected s 10000)

-- a verdict's number, the block and the place that it names
abbrev told : Verdict → List ℕ
told v = number v ∷ (named v).block ∷ (named v).place ∷ []

abbrev broken : List ℕ → List ℕ
broken s = told (inspect s false wide plenty).verdict

-- of an 8 x 8 file with these tables
abbrev judged : List ℕ → List ℕ → List ℕ
judged dc ac = verdict (square dc ac (63 ∷ []))

-- settle's number and its buffer, which had room for the file and held zeros
abbrev settled : List ℕ → List ℕ
settled s = let w = settle s wide plenty (replicate (length s) 0) in number w.answer.verdict ∷ w.output

-- decode's number, what it leaves of the budget, output and scratch, which held 7 and 9
abbrev decoded : List ℕ → ℕ → ℕ → List ℕ
decoded s room budget =
    let d = decode s (inspect s false wide plenty).found (replicate room 7) (replicate room 9) (holding budget) in
    number d.answer.verdict ∷ d.answer.budget.left ∷ d.output ++ d.scratch

-- 1 for yes
abbrev flag : Bool → ℕ
flag true = 1
flag false = 0

-- where comment i stands, its length and its text
abbrev text : List ℕ → ℕ → List ℕ
text s i = (comment_part s i).at ∷ (comment_part s i).length ∷ comment s i

-- has_comment's number, what it leaves of the budget, and whether comment i is there
abbrev there : List ℕ → ℕ → ℕ → List ℕ
there s i budget =
    let q = has_comment s i wide (holding budget) in
    number q.verdict ∷ q.budget.left ∷ flag q.there ∷ []

-- the samples of a block with only a DC coefficient
abbrev flat : ℤ → List ℕ
flat d = samples (d ∷ zeros 63)

-- the record, field by field
abbrev pub numbers : Record → List ℕ
numbers r =
    let f = r.frame in
    let t = r.tables in
    f.width ∷ f.height ∷ f.channels
    ∷ f.across ++ f.down ++ f.ids ++ f.qids ++ r.dcids ++ r.acids ++ t.quants ++ t.dcs ++ t.acs
    ++ r.interval ∷ r.start ∷ r.blocks ∷ r.scratch ∷ r.output ∷ r.work ∷ flag r.colour ∷ []

-- luma 2 x 2, chroma 1 x 2
abbrev tall : Shape
tall =
    let chroma : Factors = record { across = 1; down = 2 } in
    record { width = 32; height = 16; factors = record { across = 2; down = 2 } ∷ chroma ∷ chroma ∷ [] }

-- ---- the table

-- what is found, and what the rules say
pub data Piece : Type 0 where
  gives : List ℕ → List ℕ → Piece
  means : List ℤ → List ℤ → Piece

abbrev eq_z : ℤ → ℤ → Bool
eq_z (pos a) (pos b) = eqb a b
eq_z (pos a) (negsuc b) = false
eq_z (negsuc a) (pos b) = false
eq_z (negsuc a) (negsuc b) = eqb a b

abbrev eq_zs : List ℤ → List ℤ → Bool
eq_zs [] [] = true
eq_zs [] (y ∷ ys) = false
eq_zs (x ∷ xs) [] = false
eq_zs (x ∷ xs) (y ∷ ys) = eq_z x y and eq_zs xs ys

abbrev right : Piece → Bool
right (gives found wanted) = eq_list found wanted
right (means found wanted) = eq_zs found wanted

abbrev pub table : List Piece
table =
    -- F: its length, its price, its record, its samples
    gives (length F ∷ []) (141 ∷ [])
    ∷ gives (inspected F 3483) (0 ∷ 0 ∷ [])
    ∷ gives (inspected F 3482) (2 ∷ 3199 ∷ [])
    ∷ gives (inspected F 282) (2 ∷ 282 ∷ [])
    ∷ gives (numbers (inspect F true wide plenty).found)
    (8 ∷ 8 ∷ 1 ∷ 1 ∷ 0 ∷ 0 ∷ 0 ∷ 1 ∷ 0 ∷ 0 ∷ 0 ∷ 1 ∷ replicate 15 0
    ++ 7 ∷ 0 ∷ 0 ∷ 0 ∷ 89 ∷ 0 ∷ 0 ∷ 0 ∷ 111 ∷ 0 ∷ 0 ∷ 0 ∷ 0 ∷ 138 ∷ 1 ∷ 64 ∷ 64 ∷ 3200 ∷ 1 ∷ [])
    ∷ gives (decoded F 65 3483) (0 ∷ 0 ∷ replicate 64 128 ++ 7 ∷ replicate 64 128 ++ 9 ∷ [])
    ∷ gives (decoded F 63 3483) (7 ∷ 3483 ∷ replicate 63 7 ++ replicate 63 9)
    -- P1: byte 63 in F is settled
    ∷ gives (settled F) (0 ∷ F)
    -- P2, P3, P4: runs of 16
    ∷ gives (settled (runs (79 ∷ []))) (0 ∷ runs (63 ∷ []))
    ∷ gives (settled (runs (84 ∷ []))) (0 ∷ runs (63 ∷ []))
    ∷ gives (settled (runs (85 ∷ 127 ∷ []))) (4 ∷ replicate 143 0)
    -- P5: a table that lists a symbol twice
    ∷ gives (settled (twice (159 ∷ []))) (4 ∷ replicate 142 0)
    ∷ gives (inspected (twice (63 ∷ [])) 10000) (4 ∷ (10000 - 285) ∷ [])
    ∷ gives (judged (one_code 0) (two_codes 0 0)) (4 ∷ [])
    -- a DC symbol above 11
    ∷ gives (judged (two_codes 0 12) (one_code 0)) (4 ∷ [])
    ∷ gives (judged (two_codes 0 11) (one_code 0)) (0 ∷ [])
    -- an AC symbol that no block takes: size 0 behind a run other than 0 and 15, a size above 10
    ∷ gives (judged (one_code 0) (two_codes 0 16)) (4 ∷ [])
    ∷ gives (judged (one_code 0) (two_codes 0 224)) (4 ∷ [])
    ∷ gives (judged (one_code 0) (two_codes 0 240)) (0 ∷ [])
    ∷ gives (judged (one_code 0) (two_codes 0 11)) (4 ∷ [])
    ∷ gives (judged (one_code 0) (two_codes 0 250)) (0 ∷ [])
    -- a table that is never used, and one that a later table replaces
    ∷ gives (verdict (after_table (3 ∷ two_codes 0 0))) (4 ∷ [])
    ∷ gives (verdict (after_table (0 ∷ two_codes 0 12))) (4 ∷ [])
    ∷ gives (verdict (after_table (0 ∷ two_codes 0 11))) (0 ∷ [])
    -- P6 to P10: a block with only a DC coefficient
    ∷ gives (flat (pos 4)) (replicate 64 128)
    ∷ gives (flat (pos 5)) (replicate 64 129)
    ∷ gives (flat (neg 5)) (replicate 64 127)
    ∷ gives (flat (pos 1012)) (replicate 64 254)
    ∷ gives (flat (pos 1013)) (replicate 64 255)
    ∷ gives (flat (neg 1020)) (replicate 64 1)
    ∷ gives (flat (neg 1021)) (replicate 64 0)
    -- P11: 11-bit fields
    ∷ means (meaning 11 0 ∷ meaning 11 1023 ∷ meaning 11 1024 ∷ []) (neg 2047 ∷ neg 1024 ∷ pos 1024 ∷ [])
    -- P12: a colour
    ∷ gives (red 100 127 ∷ green 100 128 127 ∷ blue 100 128 ∷ []) (99 ∷ 101 ∷ 100 ∷ [])
    -- the empty file
    ∷ gives (inspected [] 0) (2 ∷ 0 ∷ [])
    ∷ gives (inspected [] 1) (4 ∷ 0 ∷ [])
    -- prediction -2048 is taken, -2049 refused: 2047 and then 1 or 2 down
    ∷ gives (verdict (falling (0 ∷ 4 ∷ 127 ∷ []))) (0 ∷ [])
    ∷ gives (verdict (falling (0 ∷ 6 ∷ 95 ∷ []))) (4 ∷ [])
    -- the largest picture: four channels at 1 x 1 sampling; and of three
    ∷ gives (let p : Shape = record { width = 65535; height = 65535; factors = factors_of 1 1 4 } in block_count p ∷ output_length p ∷ work_of p ∷ [])
    (268435456 ∷ 17179344900 ∷ 858992934916 ∷ [])
    ∷ gives (let p : Shape = record { width = 65535; height = 65535; factors = factors_of 1 1 3 } in block_count p ∷ output_length p ∷ work_of p ∷ [])
    (201326592 ∷ 12884508675 ∷ 644244701187 ∷ [])
    -- chroma 1 x 2 beside luma 2 x 2: samples of both chroma channels at the first and the last pixel of an MCU, and of the next MCU's first
    ∷ gives (sample_at tall 0 0 1 ∷ sample_at tall 15 15 1 ∷ sample_at tall 15 15 2 ∷ sample_at tall 16 0 1 ∷ [])
    (256 ∷ 383 ∷ 511 ∷ 768 ∷ [])
    -- a value at place 63: no end code is read or written, and the table has none
    ∷ gives (settled (long 1 (11 ∷ []))) (0 ∷ long 1 (11 ∷ []))
    -- a 240 that reaches place 64 ends its block; settled, the block wants an end code, and there is none
    ∷ gives (verdict (long 1 (81 ∷ []))) (0 ∷ [])
    ∷ gives (take 1 (settled (long 1 (81 ∷ [])))) (9 ∷ [])
    -- a value at place 63 whose last bits and one bit of padding are a 255: a 0 follows it
    ∷ gives (settled (long 9 (11 ∷ 255 ∷ 0 ∷ []))) (0 ∷ long 9 (11 ∷ 255 ∷ 0 ∷ []))
    -- at a restart the predictors become 0: 16 x 5 in both blocks
    ∷ gives (decoded restarting 128 10000) (0 ∷ (10000 - 301 - 6400) ∷ replicate 256 138)
    -- fill before a restart and before 217, 1 and 3 bytes of it; the settled file has none
    ∷ gives (settled (filled 1 0)) (0 ∷ restarting ++ replicate 1 0)
    ∷ gives (settled (filled 3 0)) (0 ∷ restarting ++ replicate 3 0)
    ∷ gives (settled (filled 0 1)) (0 ∷ restarting ++ replicate 1 0)
    ∷ gives (settled (filled 0 3)) (0 ∷ restarting ++ replicate 3 0)
    ∷ gives (decoded (filled 3 1) 128 10000) (0 ∷ (10000 - 309 - 6400) ∷ replicate 256 138)
    -- a padded 255 and its 0, then fill; without the 0 it is a bare 255
    ∷ gives (settled (long 9 (11 ∷ 255 ∷ 0 ∷ 255 ∷ 255 ∷ []))) (0 ∷ long 9 (11 ∷ 255 ∷ 0 ∷ []) ++ replicate 2 0)
    ∷ gives (verdict (long 9 (11 ∷ 255 ∷ 255 ∷ 255 ∷ []))) (10 ∷ [])
    -- fill where a bit is wanted: before the first bit, and before a data byte 255
    ∷ gives (verdict (square (one_code 0) (one_code 0) (255 ∷ 255 ∷ []))) (10 ∷ [])
    ∷ gives (verdict (long 9 (11 ∷ 255 ∷ 255 ∷ 0 ∷ []))) (10 ∷ [])
    -- fill before the padding is complete
    ∷ gives (verdict (square (one_code 0) (one_code 0) (62 ∷ 255 ∷ []))) (4 ∷ [])
    -- fill with no marker behind it: the end, a byte of data, a 0; and with a wrong one
    ∷ gives (verdict (unended ++ replicate 3 255)) (4 ∷ [])
    ∷ gives (verdict (between (255 ∷ 255 ∷ 87 ∷ []) [])) (4 ∷ [])
    ∷ gives (verdict (between (255 ∷ 255 ∷ 0 ∷ []) [])) (4 ∷ [])
    ∷ gives (verdict (between (255 ∷ 255 ∷ 209 ∷ []) [])) (4 ∷ [])
    -- any byte behind 217
    ∷ gives (verdict (F ++ 0 ∷ [])) (4 ∷ [])
    ∷ gives (verdict (F ++ 255 ∷ [])) (4 ∷ [])
    -- why and where a scan broke. In block 0: the bytes ran out; a 255 is the very last byte; it is followed by neither 0 nor the end;
    -- sixteen bits are no code; they run out before, or meet a bare 255; a fourth run of 16
    ∷ gives (broken F) (0 ∷ 0 ∷ 0 ∷ [])
    ∷ gives (broken (take 138 F)) (3 ∷ 0 ∷ 138 ∷ [])
    ∷ gives (broken (take 138 F ++ 255 ∷ [])) (3 ∷ 0 ∷ 138 ∷ [])
    ∷ gives (broken (square (one_code 0) (one_code 0) (255 ∷ 1 ∷ []))) (10 ∷ 0 ∷ 138 ∷ [])
    ∷ gives (broken (square (one_code 0) (one_code 0) (255 ∷ 255 ∷ []))) (10 ∷ 0 ∷ 138 ∷ [])
    ∷ gives (broken (square (one_code 0) (one_code 0) (254 ∷ 254 ∷ []))) (11 ∷ 0 ∷ 138 ∷ [])
    ∷ gives (broken (square (one_code 0) (one_code 0) (254 ∷ []))) (10 ∷ 0 ∷ 138 ∷ [])
    ∷ gives (broken (take 138 F ++ 254 ∷ [])) (3 ∷ 0 ∷ 138 ∷ [])
    ∷ gives (broken (runs (85 ∷ 63 ∷ []))) (4 ∷ 0 ∷ 139 ∷ [])
    -- in the block behind a restart, which begins before it: each of them, and a prediction out of range
    ∷ gives (broken (take 147 restarting)) (3 ∷ 1 ∷ 145 ∷ [])
    ∷ gives (broken (two_parts (87 ∷ 255 ∷ 208 ∷ 255 ∷ 1 ∷ []))) (10 ∷ 1 ∷ 145 ∷ [])
    ∷ gives (broken (two_parts (87 ∷ 255 ∷ 208 ∷ 254 ∷ 254 ∷ []))) (11 ∷ 1 ∷ 145 ∷ [])
    ∷ gives (broken (falling (0 ∷ 6 ∷ 95 ∷ []))) (4 ∷ 1 ∷ 142 ∷ [])
    -- in the restart itself, also where the bytes run out in it or in its fill
    ∷ gives (broken (take 145 restarting)) (4 ∷ 1 ∷ 145 ∷ [])
    ∷ gives (broken (take 146 restarting)) (4 ∷ 1 ∷ 145 ∷ [])
    ∷ gives (broken (between (255 ∷ 255 ∷ 209 ∷ []) [])) (4 ∷ 1 ∷ 145 ∷ [])
    -- a block that begins in a byte 255, whose 0 is taken with it
    ∷ gives (broken (take 142 (two_long (11 ∷ 255 ∷ 0 ∷ [])))) (3 ∷ 1 ∷ 142 ∷ [])
    -- at the final marker: the block count, and the place then
    ∷ gives (broken (take 139 F)) (4 ∷ 1 ∷ 139 ∷ [])
    ∷ gives (broken (take 140 F)) (4 ∷ 1 ∷ 139 ∷ [])
    ∷ gives (broken (F ++ 0 ∷ [])) (4 ∷ 1 ∷ 139 ∷ [])
    ∷ gives (broken (square (one_code 0) (one_code 0) (62 ∷ []))) (4 ∷ 1 ∷ 139 ∷ [])
    ∷ gives (broken (take 149 restarting)) (4 ∷ 2 ∷ 148 ∷ [])
    -- settle names them too; a refusal of the header names none
    ∷ gives (told (settle (take 147 restarting) wide plenty []).answer.verdict) (3 ∷ 1 ∷ 145 ∷ [])
    ∷ gives (broken (take 100 F)) (3 ∷ 0 ∷ 0 ∷ [])
    -- the quantizer is taken by zigzag place: place 2 is natural place 8
    ∷ means (take 10 (coefficients (1 ∷ 1 ∷ 100 ∷ replicate 61 1) (zeros 2 ++ pos 1 ∷ zeros 61))) (zeros 8 ++ pos 100 ∷ pos 0 ∷ [])
    -- green's two products are rounded together
    ∷ gives (green 100 129 130 ∷ []) (98 ∷ [])
    -- the clamp's bounds
    ∷ gives (clamped (neg 1) ∷ clamped (pos 0) ∷ clamped (pos 1073741823) ∷ clamped (pos 1073741824) ∷ clamped (pos 273804165119) ∷ clamped (pos 273804165120) ∷ [])
    (0 ∷ 0 ∷ 0 ∷ 1 ∷ 254 ∷ 255 ∷ [])
    -- the comments before the scan, and whether they are there at inspect's price
    ∷ gives (text (noted (63 ∷ [])) 0) (88 ∷ 2 ∷ 65 ∷ 66 ∷ [])
    ∷ gives (text (noted (63 ∷ [])) 1) (103 ∷ 0 ∷ [])
    ∷ gives (text (noted (63 ∷ [])) 2) (108 ∷ 1 ∷ 67 ∷ [])
    ∷ gives (text (noted (63 ∷ [])) 3) (0 ∷ 0 ∷ [])
    ∷ gives (there (noted (63 ∷ [])) 1 3600) (0 ∷ 67 ∷ 1 ∷ [])
    ∷ gives (there (noted (63 ∷ [])) 2 3600) (0 ∷ 67 ∷ 1 ∷ [])
    ∷ gives (there (noted (63 ∷ [])) 3 3600) (0 ∷ 67 ∷ 0 ∷ [])
    ∷ gives (there (noted (63 ∷ [])) 0 3500) (2 ∷ 3167 ∷ 0 ∷ [])
    -- a file that is refused in its scan has none
    ∷ gives (text (noted (255 ∷ 1 ∷ [])) 0) (0 ∷ 0 ∷ [])
    ∷ gives (there (noted (255 ∷ 1 ∷ [])) 0 3600) (10 ∷ 65 ∷ 0 ∷ [])
    ∷ []

-- every piece is as the rules say
pub pieces : T (all right table)
unfolding inspect decode settle comments comment_part has_comment samples coefficients clamped red green blue block_count output_length work_of
pieces = tt
