-- What a frame's shape is, and where the tables of a channel stand: the record has each channel's ids and, by id, the place of each table.
use Rattle.std.specs.Prelude.{ℕ, zero, suc, List, [], ◌∷◌, get_or, take, drop}
use Rattle.reading.specs.declared.Frame.{Frame}
use Rattle.reading.specs.declared.Record.{Record}
use Rattle.reading.specs.Layout.{Factors, Shape}

-- the factors of channel c, by the numbers across and down of all channels
abbrev pub factors_in : List ℕ → List ℕ → ℕ → Factors
factors_in across down c = record { across = get_or across c 0; down = get_or down c 0 }

-- those of n channels from channel c on
abbrev pub factors_from : List ℕ → List ℕ → ℕ → ℕ → List Factors
factors_from across down c zero = []
factors_from across down c (suc n) = factors_in across down c ∷ factors_from across down (suc c) n

-- the sides of a frame and the factors of its channels
abbrev pub shape_of : Frame → Shape
shape_of f = record { width = f.width; height = f.height; factors = factors_from f.across f.down 0 f.channels }

-- the place that a list of places has for channel c, by the channel's id
abbrev pub chosen : List ℕ → List ℕ → ℕ → ℕ
chosen places ids c = get_or places (get_or ids c 0) 0

abbrev pub quant_at : Record → ℕ → ℕ
quant_at r c = chosen r.tables.quants r.frame.qids c

abbrev pub dc_at : Record → ℕ → ℕ
dc_at r c = chosen r.tables.dcs r.dcids c

abbrev pub ac_at : Record → ℕ → ℕ
ac_at r c = chosen r.tables.acs r.acids c

-- the quantizer of each channel: like all tables it stands before the first coded byte, so it is read from the bytes before it
abbrev pub quantizers_of : List ℕ → Record → ℕ → List ℕ
quantizers_of s r c = take 64 (drop (quant_at r c) (take r.start s))
