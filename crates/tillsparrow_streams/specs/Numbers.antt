-- A record as a list of numbers: the order in which the programs write it.
use Rattle.std.specs.Prelude.{ℕ, cond, List, [], ◌∷◌, ◌++◌, get_or, flat_map}
use Rattle.reading.specs.declared.Record.{Record}
use Rattle.tillsparrow_streams.specs.Lines.{decimal}

abbrev pub four : List ℕ → List ℕ
four l = get_or l 0 0 ∷ get_or l 1 0 ∷ get_or l 2 0 ∷ get_or l 3 0 ∷ []

-- the frame's numbers, the channels' factors and ids, the places of the tables, the scan's numbers, and 1 where colour is chosen, else 0
unfoldable pub numbers_of : Record → List ℕ
numbers_of r =
    let f = r.frame in
    let t = r.tables in
    (f.width ∷ f.height ∷ f.channels ∷ [])
    ++ four f.across ++ four f.down ++ four f.ids ++ four f.qids ++ four r.dcids ++ four r.acids
    ++ four t.quants ++ four t.dcs ++ four t.acs
    ++ (r.interval ∷ r.start ∷ r.blocks ∷ r.scratch ∷ r.output ∷ r.work ∷ cond r.colour 1 0 ∷ [])

-- a number's text: a blank, and its digits
abbrev pub numbered : ℕ → List ℕ
numbered n = 32 ∷ decimal n

-- the text of a list of numbers
abbrev pub numbers_text : List ℕ → List ℕ
numbers_text l = flat_map numbered l
