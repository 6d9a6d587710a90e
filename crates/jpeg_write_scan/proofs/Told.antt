-- What an engine answers of a scan: what the rules answer, but of a break what the engine says of breaks.
use Prim.Native.Nat.{ℕ, ◌-◌, ◌≤◌, ◌<◌, ◌^◌}
use mathlib.Core.Path.{◌≡◌, refl, sym, ap, ◌∙◌}
use mathlib.Core.Bool.{Bool, true}
use mathlib.Core.List.{List}
use mathlib.Core.Option as math
use mathlib.Core.Option.{none, some}
use native.Mathlib.Nat.{suc-ne-zero}
use lib.ListN.{length}
use Rattle.std.specs.Prelude.{Result, Ok, Err}
use Rattle.reading.specs.declared.Bits.{Bits}
use Rattle.reading.specs.declared.Break.{Break}
use Rattle.reading.specs.declared.Record.{Record}
use Rattle.reading.specs.declared.Unsettled.{Unsettled}
use Rattle.reading.specs.declared.Unsettled.TheVariants.{Lacking, Broke}
use Rattle.reading.specs.Scan.{Scanned}
use Rattle.reading.specs.Code.Answers.{scan_read}
use Rattle.reading.specs.Code.Scans.{scan_of, settled_of, scan_settled, laid_over}
use Rattle.reading.proofs.FileBytes.{AllBytes}
use Rattle.jpeg_scan_plan.specs.declared.Plan.{Plan}
use Rattle.jpeg_scan_plan.proofs.Standing.{Ready}
use Rattle.jpeg_scan.specs.Steps.{said_by}
use Rattle.jpeg_scan.proofs.ScanFollowed.{said_broken}
use Rattle.jpeg_write_codes.specs.Sheets.{sure}
use Rattle.jpeg_write_scan.specs.Pass.{foretold}
use Rattle.jpeg_write_scan.specs.Engines.{Worded, told_by, RanBy, MeasuresBy}
use Rattle.jpeg_write_scan.proofs.SettledAnswers.{Passed, passed_settled, measured_settled}
use Rattle.jpeg_write_scan.proofs.SureScans.{told_err, told_short, sure_written, read_stop}

-- ---- an answer, told by an engine

module _ (says : Break → Break) where
  -- what else but a break is answered is answered by both
  pub told_ok : {x : Result ℕ Unsettled} (y : Result ℕ Unsettled) {n : ℕ} → told_by says x ≡ told_by says y → x ≡ Ok n → y ≡ Ok n
  told_ok (Ok m) e g = sym e ∙ ap (told_by says) g
  told_ok (Err Lacking) e g = absurd (suc-ne-zero 0 cc)
  told_ok (Err (Broke w)) e g = absurd (suc-ne-zero 0 cc)

  pub told_lacking : {x : Result ℕ Unsettled} (y : Result ℕ Unsettled) → told_by says x ≡ told_by says y → x ≡ Err Lacking → y ≡ Err Lacking
  told_lacking (Ok m) e g = absurd (suc-ne-zero 0 cc)
  told_lacking (Err Lacking) e g = refl
  told_lacking (Err (Broke w)) e g = absurd (suc-ne-zero 0 cc)

  pub told_refused : {x : Result ℕ Unsettled} (y : Result ℕ Unsettled) {u : Unsettled} → told_by says x ≡ told_by says y → x ≡ Err u → (v : Unsettled) × (y ≡ Err v)
  told_refused (Ok m) {u} e g = absurd (go u (sym (ap (told_by says) g) ∙ e))
    where
      go : (u : Unsettled) → told_by says (Err u) ≡ Ok m → ⊥
      go Lacking h = suc-ne-zero 0 cc
      go (Broke w) h = suc-ne-zero 0 cc
  told_refused (Err v) e g = (v, refl)

  pub told_broken : {x : Result ℕ Unsettled} (y : Result ℕ Unsettled) {w : Break} → told_by says x ≡ told_by says y → x ≡ Err (Broke w) → (v : Break) × (y ≡ Err (Broke v))
  told_broken (Ok m) e g = absurd (suc-ne-zero 0 cc)
  told_broken (Err Lacking) e g = absurd (suc-ne-zero 0 cc)
  told_broken (Err (Broke v)) e g = (v, refl)

  module _ (once : (w : Break) → says (says w) ≡ says w) where
    pub told_twice : (x : Result ℕ Unsettled) → told_by says (told_by says x) ≡ told_by says x
    told_twice (Ok n) = refl
    told_twice (Err Lacking) = refl
    told_twice (Err (Broke w)) = ap (λ (v : Break). Err (Broke v)) (once w)

    pub measured_by :
        {s : List ℕ} {r : Record} {n : Plan}
        → Ready s r n
        → r.blocks < 2 ^ 32
        → {x : Result ℕ Unsettled}
        → MeasuresBy says s n x
        → told_by says x ≡ told_by says (scan_settled (settled_of s r))
    measured_by u few m = ap (told_by says) m.same ∙ told_twice m.told ∙ ap (told_by says) (measured_settled u few m.measured)

    -- what reading tells of a scan that breaks
    pub stop_by :
        {s : List ℕ} {r : Record} {n : Plan}
        → Ready s r n
        → {ws : List ℕ}
        → Worded s n ws
        → r.blocks < 2 ^ 32
        → (room : ℕ)
        → {x : Result (Unit {0}) Break}
        → x ≡ said_by says (scan_read (scan_of s r))
        → {v : Break}
        → x ≡ Err v
        → told_by says (Err (Broke v)) ≡ told_by says (foretold true room (settled_of s r))
    stop_by {s} {r} u w few room e g =
        let k = said_broken says (scan_read (scan_of s r)) (sym g ∙ e) in
        ap (λ (z : Break). Err (Broke (says z))) k.2
        ∙ ap (λ (z : Break). Err (Broke z)) (once k.0)
        ∙ ap (told_by says) (read_stop u w few room k.1 refl)

    -- ---- what follows for the answer and the buffer

    module _ (old : List ℕ) (t : Bool) (o : Scanned Bits (math.Option (List ℕ))) {x : Result ℕ Unsettled} (e : told_by says x ≡ told_by says (foretold t (length old) o)) where
      pub refused_by : {u : Unsettled} {y : Result ℕ Unsettled} → x ≡ Err u → y ≡ Err u → (told_by says y ≡ told_by says (scan_settled o)) × (old ≡ laid_over o old)
      refused_by g h =
          let v = told_refused (foretold t (length old) o) e g in
          let a = told_err old t o refl v.1 in
          (ap (told_by says) (h ∙ sym g) ∙ e ∙ ap (told_by says) (v.1 ∙ a.0), a.1)

      pub short_by : {n : ℕ} → x ≡ Ok n → length old < n → (told_by says (Ok n) ≡ told_by says (scan_settled o)) × (old ≡ laid_over o old)
      short_by g h = let a = told_short old t o refl (told_ok (foretold t (length old) o) e g) h in (ap (told_by says) a.0, a.1)

    -- what was foretold to fit is written
    module _ {s : List ℕ} {r : Record} {n : Plan} (u : Ready s r n) {ws : List ℕ} (w : Worded s n ws) (few : r.blocks < 2 ^ 32) (ab : AllBytes s) (old : List ℕ) where
      pub written_by :
          {x : Result ℕ Unsettled}
          → told_by says x ≡ told_by says (foretold (sure r ws (length s - n.start) (length old)) (length old) (settled_of s r))
          → {k : ℕ}
          → x ≡ Ok k
          → k ≤ length old
          → {y : Result ℕ Unsettled} {new : List ℕ}
          → RanBy says s n old y new
          → (told_by says y ≡ told_by says (scan_settled (settled_of s r))) × (new ≡ laid_over (settled_of s r) old)
      written_by e g h a =
          let f = told_ok (foretold (sure r ws (length s - n.start) (length old)) (length old) (settled_of s r)) e g in
          let p : Passed (settled_of s r) old a.told _ = passed_settled u few a.ran in (
            ap (told_by says) a.same ∙ told_twice a.told ∙ ap (told_by says) p.says,
            sure_written u w few ab old refl f h p,
          )

-- ---- where a break is told as it is, and where only that there was one

pub told_as_is : (x : Result ℕ Unsettled) → told_by (λ w. w) x ≡ x
told_as_is (Ok n) = refl
told_as_is (Err Lacking) = refl
told_as_is (Err (Broke w)) = refl
