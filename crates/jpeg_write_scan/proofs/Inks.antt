-- What is put behind an ink: a block, a restart, the end. After the want of a code nothing is put any more.
use Prim.Native.Nat.{ℕ}
use mathlib.Core.Path.{◌≡◌, refl, sym, ap, ◌∙◌, subst, subst⁻¹}
use mathlib.Core.Bool.{Bool, true, false}
use mathlib.Core.List.{List}
use mathlib.Core.Option as math
use mathlib.Core.Option.{some}
use Rattle.reading.specs.declared.Unsettled.TheVariants.{Lacking}
use Rattle.reading.specs.Settled.{Written, Coded, onto, cut}
use Rattle.jpeg_write_bits.specs.declared.Pen.{Pen}
use Rattle.std.specs.Prelude.{Option, Some, None, Ok, Err}
use Rattle.jpeg_write_bits.specs.Page.{Spot, spot, Page, page, Proper, restarted, end_at}
use Rattle.jpeg_write_bits.proofs.Closings.{restarted_proper}
use Rattle.jpeg_write_scan.specs.Puts.{Told, Puts}
use Rattle.jpeg_write_scan.specs.Join.{final_at}
use Rattle.jpeg_write_scan.specs.Pass.{final_by, Fit, Moves, last_part, Closes}
use Rattle.jpeg_write_scan.proofs.Forwards.{final_put, final_lacks, final_restart, final_on, final_end}

-- ---- the pen of an ink

pub fit_pen : {ink : Option Pen} {p : Pen} → ink ≡ Some p → Fit ink → Proper p
fit_pen e f = subst Fit e f

-- ---- after the want of a code

pub moves_none : {put : math.Option Coded → math.Option Coded} {old : List ℕ} {ink r : Option Pen} → ink ≡ None → r ≡ None → Moves put ink old r old
unfolding final_by
moves_none {put} {old} {ink} {r} e f =
    subst⁻¹ (λ (i : Option Pen). Moves put ink old i old) f (record { fit = tt; same = λ rest. ap (λ (i : Option Pen). final_by i old (put rest)) e })

-- ---- a block

block_puts : (w : Written) (p : Pen) (old new : List ℕ) (r : Option Pen) → Told w (page old p) r new → Moves (onto w) (Some p) old r new
unfolding final_by
block_puts w p old new (Some q) g = record { fit = g.proper; same = λ rest. final_put rest g }
block_puts w p old new None e = record { fit = tt; same = λ rest. final_lacks rest (page old p) e }

pub moves_block : {w v : Written} {p : Pen} {old new : List ℕ} {ink r : Option Pen} → ink ≡ Some p → w ≡ v → Puts w (page old p) r new → Moves (onto v) ink old r new
moves_block {w} {v} {p} {old} {new} {ink} {r} e f h =
    subst⁻¹ (λ (i : Option Pen). Moves (onto v) i old r new) e (subst (λ (x : Written). Moves (onto x) (Some p) old r new) f (block_puts w p old new r h.told))

-- ---- a restart

pub moves_not : {due : Bool} (code : ℕ) (ink : Option Pen) (old : List ℕ) → due ≡ false → Fit ink → Moves (cut due code) ink old ink old
unfolding final_by
moves_not {due} code ink old e f = subst⁻¹ (λ (d : Bool). Moves (cut d code) ink old ink old) e (record { fit = f; same = λ rest. on ink rest })
  where
    on : (i : Option Pen) (rest : math.Option Coded) → final_by i old (cut false code rest) ≡ final_by i old rest
    on (Some p) rest = final_on code rest (page old p)
    on None rest = refl

pub moves_mark :
    {due : Bool} (code : ℕ) {p q : Pen} (old : List ℕ) {new : List ℕ} {ink : Option Pen}
    → due ≡ true
    → ink ≡ Some p
    → Proper p
    → page new q ≡ restarted (page old p) code
    → Moves (cut due code) ink old (Some q) new
unfolding final_by
moves_mark {due} code {p} {q} old {new} {ink} d e h g =
    subst⁻¹ (λ (i : Option Pen). Moves (cut due code) i old (Some q) new) e
    (subst⁻¹ (λ (t : Bool). Moves (cut t code) (Some p) old (Some q) new) d
    (record {
      fit = subst⁻¹ (λ (x : Page). Proper x.pen) g (restarted_proper (page old p) h code);
      same = λ rest. final_restart code rest (page old p) h ∙ ap (final_at rest) (sym g);
    }))

-- ---- the end

pub closes_none : {ink : Option Pen} (old new : List ℕ) → ink ≡ None → Closes (final_by ink old (some last_part)) (Err Lacking) new
unfolding final_by
closes_none {ink} old new e = subst⁻¹ (λ (i : Option Pen). Closes (final_by i old (some last_part)) (Err Lacking) new) e (record { told = refl })

pub closes_end : {ink : Option Pen} {p : Pen} (old : List ℕ) {new : List ℕ} {n : ℕ} → ink ≡ Some p → Proper p → spot new n ≡ end_at (page old p) → Closes (final_by ink old (some last_part)) (Ok n) new
unfolding final_by
closes_end {ink} {p} old {new} {n} e h g =
    subst⁻¹ (λ (i : Option Pen). Closes (final_by i old (some last_part)) (Ok n) new) e
    (subst⁻¹ (λ (o : math.Option Spot). Closes o (Ok n) new) (final_end (page old p) h ∙ ap some (sym g)) (record { told = (refl, refl) }))
