-- Records that `same` takes for equal are equal, and it takes equal ones for equal.
use mathlib.Core.Path.{◌≡◌, refl}
use mathlib.Core.Bool.{Bool, true, false}
use mathlib.Core.List.{List, [], ◌∷◌}
use Prim.Native.Nat.{ℕ}
use lib.Dec.{T, eqb, eqb→eq}
use borrow.Author.Tests.{eq-eqb}
use Rattle.reading.specs.declared.Frame.{Frame}
use Rattle.reading.specs.declared.Tables.{Tables}
use Rattle.reading.specs.declared.Record.{Record}
use Rattle.reading.specs.Tests.{◌and◌}
use Rattle.reading.specs.Calls.{eq_list, eq_bool, same_frame, same_tables, same_scan, same_sizes, same}
use Rattle.reading.proofs.Plain.{and_left, and_right}

pub lists_equal : (a b : List ℕ) → T (eq_list a b) → a ≡ b
lists_equal [] [] t = refl
lists_equal [] (y ∷ b) t = absurd t
lists_equal (x ∷ a) [] t = absurd t
lists_equal (x ∷ a) (y ∷ b) t = rw (eqb→eq x y (and_left (eqb x y) (eq_list a b) t), lists_equal a b (and_right (eqb x y) (eq_list a b) t)) refl

pub flags_equal : (a b : Bool) → T (eq_bool a b) → a ≡ b
flags_equal true true t = refl
flags_equal true false t = absurd t
flags_equal false true t = absurd t
flags_equal false false t = refl

self : (n : ℕ) → eqb n n ≡ true
self n = eq-eqb n n refl

lself : (l : List ℕ) → eq_list l l ≡ true
lself [] = refl
lself (x ∷ l) = rw (self x) (lself l)

bself : (b : Bool) → eq_bool b b ≡ true
bself true = refl
bself false = refl

pub same_self : (r : Record) → same r r ≡ true
unfolding same
same_self r =
    let f = r.frame in
    let t = r.tables in
    rw (self f.width, self f.height, self f.channels, lself f.across, lself f.down, lself f.ids, lself f.qids)
    (rw (lself t.quants, lself t.dcs, lself t.acs, lself r.dcids, lself r.acids, self r.interval, self r.start)
    (rw (self r.blocks, self r.scratch, self r.output, self r.work, bself r.colour) refl))

-- the two parts of a test
both : (a b : Bool) → T (a and b) → T a × T b
both a b t = (and_left a b t, and_right a b t)

frames_equal : (a b : Frame) → T (same_frame a b) → a ≡ b
frames_equal a b t =
    let f1 = both (eqb a.width b.width) _ t in
    let f2 = both (eqb a.height b.height) _ f1.1 in
    let f3 = both (eqb a.channels b.channels) _ f2.1 in
    let f4 = both (eq_list a.across b.across) _ f3.1 in
    let f5 = both (eq_list a.down b.down) _ f4.1 in
    let f6 = both (eq_list a.ids b.ids) (eq_list a.qids b.qids) f5.1 in
    made a b
    (eqb→eq _ _ f1.0) (eqb→eq _ _ f2.0) (eqb→eq _ _ f3.0) (lists_equal _ _ f4.0) (lists_equal _ _ f5.0)
    (lists_equal _ _ f6.0) (lists_equal _ _ f6.1)
  where
    made : (a b : Frame)
        → a.width ≡ b.width → a.height ≡ b.height → a.channels ≡ b.channels → a.across ≡ b.across → a.down ≡ b.down
        → a.ids ≡ b.ids → a.qids ≡ b.qids
        → ◌≡◌ {A = Frame}
        (record { width = a.width; height = a.height; channels = a.channels; across = a.across; down = a.down; ids = a.ids; qids = a.qids })
        (record { width = b.width; height = b.height; channels = b.channels; across = b.across; down = b.down; ids = b.ids; qids = b.qids })
    made a b e1 e2 e3 e4 e5 e6 e7 = rw (e1, e2, e3, e4, e5, e6, e7) refl

tables_equal : (a b : Tables) → T (same_tables a b) → a ≡ b
tables_equal a b t =
    let t1 = both (eq_list a.quants b.quants) _ t in
    let t2 = both (eq_list a.dcs b.dcs) (eq_list a.acs b.acs) t1.1 in
    made a b (lists_equal _ _ t1.0) (lists_equal _ _ t2.0) (lists_equal _ _ t2.1)
  where
    made : (a b : Tables) → a.quants ≡ b.quants → a.dcs ≡ b.dcs → a.acs ≡ b.acs
        → ◌≡◌ {A = Tables} (record { quants = a.quants; dcs = a.dcs; acs = a.acs }) (record { quants = b.quants; dcs = b.dcs; acs = b.acs })
    made a b e1 e2 e3 = rw (e1, e2, e3) refl

pub records_equal : (a b : Record) → T (same a b) → a ≡ b
unfolding same
records_equal a b t =
    let f = both (same_frame a.frame b.frame) _ t in
    let g = both (same_tables a.tables b.tables) _ f.1 in
    let h = both (same_scan a b) (same_sizes a b) g.1 in
    let s1 = both (eq_list a.dcids b.dcids) _ h.0 in
    let s2 = both (eq_list a.acids b.acids) _ s1.1 in
    let s3 = both (eqb a.interval b.interval) (eqb a.start b.start) s2.1 in
    let z1 = both (eqb a.blocks b.blocks) _ h.1 in
    let z2 = both (eqb a.scratch b.scratch) _ z1.1 in
    let z3 = both (eqb a.output b.output) _ z2.1 in
    let z4 = both (eqb a.work b.work) (eq_bool a.colour b.colour) z3.1 in
    made a b
    (frames_equal _ _ f.0) (tables_equal _ _ g.0) (lists_equal _ _ s1.0) (lists_equal _ _ s2.0)
    (eqb→eq _ _ s3.0) (eqb→eq _ _ s3.1) (eqb→eq _ _ z1.0) (eqb→eq _ _ z2.0) (eqb→eq _ _ z3.0) (eqb→eq _ _ z4.0)
    (flags_equal _ _ z4.1)
  where
    made : (a b : Record)
        → a.frame ≡ b.frame → a.tables ≡ b.tables → a.dcids ≡ b.dcids → a.acids ≡ b.acids
        → a.interval ≡ b.interval → a.start ≡ b.start → a.blocks ≡ b.blocks → a.scratch ≡ b.scratch → a.output ≡ b.output
        → a.work ≡ b.work → a.colour ≡ b.colour
        → ◌≡◌ {A = Record}
        (record {
          frame = a.frame;
          tables = a.tables;
          dcids = a.dcids;
          acids = a.acids;
          interval = a.interval;
          start = a.start;
          blocks = a.blocks;
          scratch = a.scratch;
          output = a.output;
          work = a.work;
          colour = a.colour;
        })
        (record {
          frame = b.frame;
          tables = b.tables;
          dcids = b.dcids;
          acids = b.acids;
          interval = b.interval;
          start = b.start;
          blocks = b.blocks;
          scratch = b.scratch;
          output = b.output;
          work = b.work;
          colour = b.colour;
        })
    made a b e1 e2 e3 e4 e5 e6 e7 e8 e9 e10 e11 = rw (e1, e2, e3, e4, e5, e6, e7, e8, e9, e10, e11) refl
