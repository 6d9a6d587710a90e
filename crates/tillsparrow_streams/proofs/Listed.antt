-- A record's numbers as three runs that are copied into a list, one behind another. Assumes nothing.
use Rattle.std.proofs.Common.{◌≡◌, refl, ℕ, Bool, true, false, cond, List, [], ◌∷◌, ◌++◌, length, replicate, flat_map}
use borrow.Rule.Slice.PartMut.{put_mid}
use mir.Val.{bool_byte}
use Rattle.reading.specs.declared.Record.{Record}
use Rattle.tillsparrow_streams.specs.Numbers.{four, numbers_of}

four_is : (l : List ℕ) → length l ≡ 4 → l ≡ four l
four_is [] e = cc
four_is (a ∷ []) e = cc
four_is (a ∷ b ∷ []) e = cc
four_is (a ∷ b ∷ c ∷ []) e = cc
four_is (a ∷ b ∷ c ∷ d ∷ []) e = refl
four_is (a ∷ b ∷ c ∷ d ∷ x ∷ l) e = cc

flag_is : (b : Bool) → bool_byte b ≡ cond b 1 0
flag_is true = refl
flag_is false = refl

-- lists of four numbers, as a record has them
pub record Fours (r : Record) : Type 0 where
  pub across : length r.frame.across ≡ 4
  pub down : length r.frame.down ≡ 4
  pub ids : length r.frame.ids ≡ 4
  pub qids : length r.frame.qids ≡ 4
  pub dcids : length r.dcids ≡ 4
  pub acids : length r.acids ≡ 4
  pub quants : length r.tables.quants ≡ 4
  pub dcs : length r.tables.dcs ≡ 4
  pub acs : length r.tables.acs ≡ 4

-- the lists, one behind another
abbrev pub lists_of : Record → List ℕ
lists_of r =
    flat_map (λ l. l)
    (r.frame.across ∷ r.frame.down ∷ r.frame.ids ∷ r.frame.qids ∷ r.dcids ∷ r.acids ∷ r.tables.quants ∷ r.tables.dcs ∷ r.tables.acs ∷ [])

pub listed :
    (r : Record) → Fours r → (head lists tail : List ℕ) (colour : ℕ)
    → head ≡ r.frame.width ∷ r.frame.height ∷ r.frame.channels ∷ []
    → lists ≡ lists_of r
    → tail ≡ r.interval ∷ r.start ∷ r.blocks ∷ r.scratch ∷ r.output ∷ r.work ∷ colour ∷ []
    → colour ≡ bool_byte r.colour
    → put_mid 39 7 (put_mid 3 36 (head ++ replicate 43 0) lists) tail ≡ numbers_of r
unfolding numbers_of
listed r f head lists tail colour a b c d =
    rw (
      a,
      b,
      c,
      d,
      flag_is r.colour,
      four_is r.frame.across f.across,
      four_is r.frame.down f.down,
      four_is r.frame.ids f.ids,
      four_is r.frame.qids f.qids,
      four_is r.dcids f.dcids,
      four_is r.acids f.acids,
      four_is r.tables.quants f.quants,
      four_is r.tables.dcs f.dcs,
      four_is r.tables.acs f.acs,
    )
    refl
