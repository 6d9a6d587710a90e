-- MCU after MCU by an engine. Its cursor follows a cursor of the scan, and there all is as the rules have it (ScanPassed).
use Prim.Native.Nat.{ℕ, ◌+◌, ◌*◌, ◌<◌, ◌≤◌}
use mathlib.Core.Path.{◌≡◌, refl, ap, ◌∙◌, subst, subst⁻¹}
use mathlib.Core.Bool.{true, false}
use mathlib.Core.List.{List}
use mathlib.Core.Option as math
use mathlib.Core.Option.{none, some}
use native.Mathlib.Nat.{add-mul}
use native.Mathlib.Omega.{arith}
use lib.ListN.{length}
use Rattle.std.specs.Prelude.{Option, Some, Result, Ok, Err}
use Rattle.std.specs.Int.{div_ceil}
use Rattle.std.proofs.Math.Nat.{mul-le-mul_right}
use Rattle.std.proofs.lemmas.Grind.{div_ceil_times}
use Rattle.reading.specs.declared.Bits.{Bits}
use Rattle.reading.specs.declared.Break.{Break}
use Rattle.reading.specs.declared.Fault.TheVariants.{Broken}
use Rattle.reading.specs.declared.ScanCursor.{ScanCursor}
use Rattle.reading.specs.declared.Unsettled.{Unsettled}
use Rattle.reading.specs.declared.Unsettled.TheVariants.{Broke}
use Rattle.reading.specs.Code.Scans.{at_start, broke_at}
use Rattle.jpeg_scan_plan.specs.declared.Plan.{Plan}
use Rattle.jpeg_scan_plan.specs.Marks.{closes}
use Rattle.jpeg_scan_plan.specs.Marks.{broke_in}
use Rattle.jpeg_scan_plan.proofs.Marks.{broke_first}
use Rattle.jpeg_write_bits.specs.declared.Pen.{Pen}
use Rattle.jpeg_write_bits.specs.Page.{Spot, fresh}
use Rattle.jpeg_write_scan.specs.declared.Moved.{Moved}
use Rattle.jpeg_write_scan.specs.Pass.{final_by, last_part, Closes, Went}
use Rattle.jpeg_engine.specs.Engines.{Follows}
use Rattle.jpeg_write_scan.specs.Engines.{Followed, Along, WentBy, told_by, RanBy}
use Rattle.jpeg_write_scan.proofs.ScanPassed as plain

-- ---- how many MCUs there are

abbrev pub mcus : Plan → ℕ
mcus n = div_ceil n.blocks n.per

pub mcu_inside : (n : Plan) {m d : ℕ} → 0 < n.per → d ≡ mcus n → m < d → m * n.per < n.blocks
mcu_inside n {m} {d} h e l =
    let most : d * n.per < n.blocks + n.per = rw e ((div_ceil_times n.blocks n.per h).1) in
    omega (arith, mul-le-mul_right n.per l, add-mul m 1 n.per, most)

pub mcus_all : (n : Plan) {m d : ℕ} → 0 < n.per → d ≡ mcus n → d ≤ m → n.blocks ≤ m * n.per
mcus_all n {m} {d} h e l =
    let all : n.blocks ≤ d * n.per = rw e ((div_ceil_times n.blocks n.per h).0) in
    omega (arith, mul-le-mul_right n.per l, all)

-- ---- what is answered

-- behind the last marker there is no more to break
closes_told : (says : Break → Break) (o : math.Option Spot) {r : Result ℕ Unsettled} {new : List ℕ} → Closes o r new → r ≡ told_by says r
closes_told says none k = subst⁻¹ (λ (x : Result ℕ Unsettled). x ≡ told_by says x) k.told refl
closes_told says (some t) k = subst⁻¹ (λ (x : Result ℕ Unsettled). x ≡ told_by says x) k.told.0 refl

module _ {P : Type 0} (meets : Bits → P → Type 0) where
  -- ---- the walk

  -- before MCU m, or behind the last block, where the pass stands follows `here`, where the rules stand
  pub record Walk (s : List ℕ) (n : Plan) (old new : List ℕ) (at : Moved P) (m : ℕ) : Type 0 where
    pub here : ScanCursor Bits
    pub follows : Follows meets here at.cursor
    pub walk : plain.Walk s n old new (record { cursor = here; ink = at.ink }) m

  pub begin :
      (s : List ℕ) (n : Plan) (old : List ℕ) {c : ScanCursor P} {p : Pen}
      → Follows meets (at_start n.start) c
      → p ≡ fresh 0
      → Walk s n old old (record { cursor = c; ink = Some p }) 0
  begin s n old {c} f e =
      subst⁻¹ (λ (p : Pen). Walk s n old old (record { cursor = c; ink = Some p }) 0) e
      (record { here = at_start n.start; follows = f; walk = plain.begin s n old })

  module _ (says : Break → Break) {s : List ℕ} {n : Plan} {old new : List ℕ} {at : Moved P} {m : ℕ} (x : Walk s n old new at m) where
    pub followed : Followed meets at.cursor
    followed = record { one = x.here; follows = x.follows }

    -- ---- the end

    module _ (h : n.blocks ≤ m * n.per) where
      pub ended_done :
          closes s x.here.bits ≡ true
          → {r : Result ℕ Unsettled} {new' : List ℕ}
          → length new' ≡ length new
          → Closes (final_by at.ink new (some last_part)) r new'
          → RanBy says s n old r new'
      ended_done g {r} long k =
          record { told = r; ran = plain.ended_done x.walk h g long k; same = closes_told says (final_by at.ink new (some last_part)) k }

      pub ended_not : closes s x.here.bits ≡ false → {b : Break} → b ≡ says (broke_in x.here x.here Broken) → RanBy says s n old (Err (Broke b)) new
      ended_not g e =
          record {
            told = Err (Broke (broke_at x.here Broken));
            ran = plain.ended_not x.walk h g;
            same = ap (λ (w : Break). Err (Broke w)) (e ∙ ap says (broke_first x.here x.here Broken refl));
          }

    -- ---- one MCU more

    module _ (h : m * n.per < n.blocks) {new' : List ℕ} where
      pub broken : {b : Break} → WentBy meets says s n m at new (Err b) new' → {r : Result ℕ Unsettled} → r ≡ Err (Broke b) → RanBy says s n old r new'
      broken {b} v {r} e =
          let p = v x.here x.follows in
          subst⁻¹ (λ (y : Result ℕ Unsettled). RanBy says s n old y new') e (go p.told p.went p.along)
        where
          go : (t : Result (Moved Bits) Break) → Went s n m (record { cursor = x.here; ink = at.ink }) new t new' → Along {P = P} meets says t (Err b) → RanBy says s n old (Err (Broke b)) new'
          go (Ok q) g a = absurd a
          go (Err w) g a = record { told = Err (Broke w); ran = plain.broken x.walk h g; same = ap (λ (w : Break). Err (Broke w)) a }

      pub further : {b : Moved P} → WentBy meets says s n m at new (Ok b) new' → Walk s n old new' b (m + 1)
      further {b} v = let p = v x.here x.follows in go p.told p.went p.along
        where
          go : (t : Result (Moved Bits) Break) → Went s n m (record { cursor = x.here; ink = at.ink }) new t new' → Along {P = P} meets says t (Ok b) → Walk s n old new' b (m + 1)
          go (Ok q) g a =
              record {
                here = q.cursor;
                follows = a.0;
                walk = subst (λ (i : Option Pen). plain.Walk s n old new' (record { cursor = q.cursor; ink = i }) (m + 1)) a.1 (plain.further x.walk h g);
              }
          go (Err w) g a = absurd a
