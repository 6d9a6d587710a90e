-- MCU after MCU. What is still to come is what was to come at the start; one MCU more keeps this (`further`), a fault in it is the scan's
-- (`broken`), and behind the last block stands the end (`ended_done`, `ended_not`).
use Prim.Native.Nat.{ℕ, ◌+◌, ◌*◌, ◌<◌, ◌≤◌, min}
use mathlib.Core.Path.{◌≡◌, refl, ◌∙◌, subst⁻¹}
use mathlib.Core.Bool.{true, false}
use mathlib.Core.List.{List}
use mathlib.Core.Option as math
use mathlib.Core.Option.{some}
use native.Mathlib.Nat.{add-mul}
use native.Mathlib.Omega.{arith}
use lib.ListN.{length}
use Rattle.std.specs.Prelude.{Some, Result, Ok, Err}
use Rattle.reading.specs.declared.Bits.{Bits}
use Rattle.reading.specs.declared.Break.{Break}
use Rattle.reading.specs.declared.Fault.TheVariants.{Broken}
use Rattle.reading.specs.declared.Unsettled.{Unsettled}
use Rattle.reading.specs.declared.Unsettled.TheVariants.{Broke}
use Rattle.reading.specs.Reader.{Read, onward, give}
use Rattle.reading.specs.Bits.{file}
use Rattle.reading.specs.Scan as scan
use Rattle.reading.specs.Scan.{Cursor, Scanned, whole, broke, here}
use Rattle.reading.specs.Code.Scans.{at_start, cursor_of, broke_at}
use Rattle.jpeg_scan_plan.specs.declared.Plan.{Plan}
use Rattle.jpeg_scan_plan.specs.Plans.{Stands}
use Rattle.jpeg_scan_plan.specs.Marks.{closes}
use Rattle.jpeg_scan_plan.proofs.Marks.{end_there, end_not}
use Rattle.jpeg_scan.proofs.OneMcu.{head}
use Rattle.jpeg_write_bits.specs.Page.{Spot, fresh}
use Rattle.jpeg_write_bits.proofs.Propers.{fresh_proper}
use Rattle.jpeg_write_scan.specs.declared.Moved.{Moved}
use Rattle.jpeg_write_scan.specs.Pass.{final_by, Fit, last_part, Closes, coming, Went, closing, Answers, Ran}
use Rattle.jpeg_write_scan.proofs.Comings.{coming_none}

-- a scan that is not begun
abbrev unbegun : List ℕ → scan.Plan → Plan → List ℕ → Scanned (Cursor Bits) (math.Option Spot)
unbegun s p n old = coming s p n.blocks (at_start n.start) (Some (fresh 0)) old

-- before MCU m, or behind the last block: `old` are the bytes at the start, `at` and `new` where the pass stands and the bytes now
pub record Walk (s : List ℕ) (n : Plan) (old new : List ℕ) (at : Moved Bits) (m : ℕ) : Type 0 where
  pub size : length new ≡ length old
  pub fit : Fit at.ink
  pub place : at.cursor.done ≡ min (m * n.per) n.blocks
  pub on : (p : scan.Plan) → Stands (head n s) n p → unbegun s p n old ≡ coming s p n.blocks at.cursor at.ink new

pub begin : (s : List ℕ) (n : Plan) (old : List ℕ) → Walk s n old old (record { cursor = at_start n.start; ink = Some (fresh 0) }) 0
begin s n old = record { size = refl; fit = fresh_proper 0; place = omega arith; on = λ p st. refl }

module _ {s : List ℕ} {n : Plan} {old new : List ℕ} {at : Moved Bits} {m : ℕ} (w : Walk s n old new at m) where
  -- ---- the end

  module _ (h : n.blocks ≤ m * n.per) where
    at_last : (p : scan.Plan) → Stands (head n s) n p → unbegun s p n old ≡ whole (final_by at.ink new (some last_part)) (cursor_of at.cursor)
    at_last p st = w.on p st ∙ coming_none s p n.blocks at.cursor at.ink new (omega (arith, w.place))

    pub ended_done : closes s at.cursor.bits ≡ true → {r : Result ℕ Unsettled} {new' : List ℕ} → length new' ≡ length new
        → Closes (final_by at.ink new (some last_part)) r new' → Ran s n old r new'
    ended_done e {r} {new'} long a =
        record {
          size = long ∙ w.size;
          each = λ p st.
              subst⁻¹ (λ (o : Scanned (Cursor Bits) (math.Option Spot)). Answers (closing s o) r new') (at_last p st)
              (subst⁻¹ (λ (o : Read Bits (Unit {0})). Answers (here (file s) (cursor_of at.cursor) (onward o (λ _. give (final_by at.ink new (some last_part))))) r new')
              (end_there s at.cursor.bits e) a.told);
        }

    pub ended_not : closes s at.cursor.bits ≡ false → Ran s n old (Err (Broke (broke_at at.cursor Broken))) new
    unfolding file
    ended_not e =
        record {
          size = w.size;
          each = λ p st.
              subst⁻¹ (λ (o : Scanned (Cursor Bits) (math.Option Spot)). Answers (closing s o) (Err (Broke (broke_at at.cursor Broken))) new) (at_last p st)
              (subst⁻¹ (λ (o : Read Bits (Unit {0})). Answers (here (file s) (cursor_of at.cursor) (onward o (λ _. give (final_by at.ink new (some last_part)))))
              (Err (Broke (broke_at at.cursor Broken))) new)
              (end_not s at.cursor.bits e) refl);
        }

  -- ---- one MCU more

  module _ (h : m * n.per < n.blocks) where
    at_mcu : at.cursor.done ≡ m * n.per
    at_mcu = omega (arith, w.place)

    pub broken : {x : Break} {new' : List ℕ} → Went s n m at new (Err x) new' → Ran s n old (Err (Broke x)) new'
    broken {x} {new'} v =
        record {
          size = v.size ∙ w.size;
          each = λ p st.
              subst⁻¹ (λ (o : Scanned (Cursor Bits) (math.Option Spot)). Answers (closing s o) (Err (Broke x)) new') (w.on p st ∙ v.each p st at_mcu) refl;
        }

    pub further : {b : Moved Bits} {new' : List ℕ} → Went s n m at new (Ok b) new' → Walk s n old new' b (m + 1)
    further {b} v =
        record {
          size = v.size ∙ w.size;
          fit = v.on.0;
          place = omega (arith, v.on.1, at_mcu, add-mul m 1 n.per);
          on = λ p st. w.on p st ∙ v.each p st at_mcu;
        }
