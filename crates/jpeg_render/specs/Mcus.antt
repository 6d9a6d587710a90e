-- The words of `Rows` for the lanes of a row, as the code holds them.
use Rattle.std.specs.Prelude.{ℕ, ◌+◌, Bool, List, get_or}
use Rattle.jpeg_render.specs.declared.render.Lanes.{Lanes}
use Rattle.jpeg_render.specs.declared.render.LumaChroma.{LumaChroma}
use Rattle.jpeg_render.specs.Rows.{LaneFits, Spread, McuFits, in_mcu, mcu_drawn, ColourFits, in_three, Taken}

-- channel c in the MCU at an offset, and a list that has its samples
abbrev pub OneFits : Lanes → ℕ → ℕ → Type 0
OneFits l c offset = LaneFits l.samples.now (get_or l.places c 0 + offset) (get_or l.across c 0) l.largest

abbrev pub OneSpread : Lanes → ℕ → ℕ → List ℕ → Type 0
OneSpread l c offset u = Spread l.samples.now (get_or l.places c 0 + offset) (get_or l.across c 0) l.largest u

-- n pixels of the MCU at an offset lie within the lists
abbrev pub LanesFit : Lanes → List ℕ → ℕ → ℕ → ℕ → Type 0
LanesFit l out offset n channels = McuFits l.samples.now out l.places offset l.across l.largest n channels 0

-- pixel i of that MCU
abbrev pub in_lanes : Lanes → ℕ → Bool → ℕ → ℕ → ℕ
in_lanes l offset coloured i = in_mcu l.samples.now l.places offset l.across l.largest coloured i

-- a buffer with n of them at its start
abbrev pub lanes_drawn : Lanes → ℕ → ℕ → List ℕ → List ℕ
lanes_drawn l offset n d = mcu_drawn l.samples.now l.places offset l.across l.largest l.colour l.channels 0 n d

-- the same of the usual three, whose chroma samples serve hs pixels each
abbrev pub UsualFits : LumaChroma → List ℕ → ℕ → ℕ → ℕ → Type 0
UsualFits u out offset hs n = ColourFits u.samples.now out (u.luma + offset) (u.first + offset) (u.second + offset) hs n 0

abbrev pub in_usual : LumaChroma → ℕ → ℕ → Bool → ℕ → ℕ → ℕ
in_usual u offset hs coloured i = in_three u.samples.now (u.luma + offset) (u.first + offset) (u.second + offset) hs coloured i

-- the usual three are those of the row
abbrev pub TakenFrom : Lanes → LumaChroma → Type 0
TakenFrom l u =
    Taken l.samples.now l.places l.across l.largest l.channels l.colour u.samples.now u.luma u.first u.second u.hs u.colour
