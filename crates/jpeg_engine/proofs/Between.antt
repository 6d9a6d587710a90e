-- Between the MCUs, over the wide cursor: a marker and the end are looked for at the bit place of a cursor that has at most seven bits. Every
-- bit place that meets the cursor answers as that one does; and where eight bits or more are left, no marker is next.
use Prim.Native.Nat.{ℕ, ◌-◌, ◌^◌, ◌/◌, ◌<◌, ◌≤◌}
use mathlib.Core.Path.{◌≡◌, refl, sym, ap, ◌∙◌, subst, subst⁻¹}
use mathlib.Core.Bool.{Bool, true, false, cond}
use mathlib.Core.List.{List}
use native.Mathlib.Omega.{arith}
use lib.Dec.{lit<, ltb}
use lib.ListN.{length, drop, length-append}
use borrow.Author.Tests.{le-ltb, ltb-true, ltb-false}
use Rattle.std.specs.Prelude.{Result, Ok, Err}
use Rattle.reading.specs.declared.Bits.{Bits}
use Rattle.reading.specs.declared.Fault.{Fault}
use Rattle.reading.specs.declared.Fault.TheVariants.{Broken}
use Rattle.reading.specs.declared.ScanCursor.{ScanCursor}
use Rattle.reading.specs.Reader.{Read, got, fault}
use Rattle.reading.specs.Bits.{mark, file}
use Rattle.reading.specs.Layout.{due_before, restart_before}
use Rattle.reading.specs.Scan.{closed}
use Rattle.reading.specs.Code.Coming.{unstuff}
use Rattle.reading.specs.Huffman.{bits_of}
use Rattle.reading.proofs.Same.{Alike}
use Rattle.reading.proofs.Marks.{Looked, found, missed, mark_looked}
use Rattle.reading.proofs.Unstuffed.{Pending, plain_mark, mark_alike, length_bits_of}
use Rattle.jpeg_scan_plan.proofs.Marks.{restart_not}
use Rattle.jpeg_scan_plan.specs.Marks.{passes, closes, behind_marker, restarted}
use Rattle.jpeg_bits_wide.specs.declared.Wide.{Wide}
use Rattle.jpeg_bits_wide.specs.Cursor.{to_come, Meets, narrowed}
use Rattle.jpeg_bits_wide.proofs.Meeting.{alike_fault, pending_there, narrow_meets, fresh_meets, Peers, peers, peers_meets, peers_mark, peers_closed}
use Rattle.jpeg_engine.specs.Engines.{Follows, Led}
use Rattle.jpeg_engine.specs.Between.{narrowed_at, led_to, restarted_wide, ends_wide}
use Rattle.jpeg_engine.proofs.Following.{led_to_one, led_to_none}

-- ---- eight bits or more are left

module _ {s : List ℕ} {b : Bits} {w : Wide} (m : Meets s b w) (many : 8 ≤ w.left) where
  -- they are too many for padding
  plain_none : (code : ℕ) → plain_mark code (to_come s w) ≡ fault Broken
  plain_none code = rw (le-ltb (length (to_come s w).bits) 8 long) refl
    where
      there : List ℕ
      there = bits_of w.left (w.acc / 2 ^ (64 - w.left))

      long : 8 ≤ length (to_come s w).bits
      long = omega (arith, length-append there (unstuff (drop w.at s)).bits, length_bits_of w.left (w.acc / 2 ^ (64 - w.left)))

  mark_none : (code : ℕ) → 0 < code → mark s code b ≡ fault Broken
  mark_none code h =
      alike_fault (Pending s) (mark s code b) Broken
      (subst (λ y. Alike (Pending s) (mark s code b) y) (plain_none code) (mark_alike s code h b (to_come s w) (pending_there m)))

  pub end_none : false ≡ closes s b
  unfolding closes file
  end_none = rw (mark_none 217 (lit< tt)) refl

-- ---- fewer bits are left

passes_alike : (s : List ℕ) (x y : Read Bits (Unit {0})) → Alike (Peers s) x y → passes y ≡ passes x
passes_alike s (got _ b) (got _ c) h = refl
passes_alike s (got _ b) (fault f) h = absurd h
passes_alike s (fault e) (got _ c) h = absurd h
passes_alike s (fault e) (fault f) h = refl

pub end_narrow :
    {s : List ℕ} {b : Bits} {w : Wide}
    → Meets s b w
    → w.left < 8
    → closes s (narrowed w) ≡ closes s b
unfolding closes
end_narrow {s} {b} {w} m h = passes_alike s (closed (file s) b) (closed (file s) (narrowed w)) (peers_closed (peers m (narrow_meets s m.proper h)))

-- ---- the restart before MCU m

-- as it is at a cursor that is followed
abbrev Restarted : List ℕ → ℕ → ℕ → ScanCursor Bits → Result (ScanCursor Wide) Fault → Type 0
Restarted s interval m q r = Led (Meets s) (restarted s interval m q) r

module _ {s : List ℕ} {q : ScanCursor Bits} {from : ScanCursor Wide} (f : Follows (Meets s) q from) (interval m : ℕ) where
  restart_none : due_before interval m ≡ false → Restarted s interval m q (Ok from)
  restart_none e = led_to_one (Meets s) f (restart_not s interval m q e)

  module _ (due : due_before interval m ≡ true) where
    abbrev code : ℕ
    code = restart_before interval m

    sought : (x : ScanCursor Bits) → restarted s interval m x ≡ behind_marker x (mark s code x.bits)
    unfolding restarted
    sought x = rw due refl

    restart_early : 8 ≤ from.bits.left → Restarted s interval m q (Err Broken)
    restart_early many = led_to_none (Meets s) (sym (sought q ∙ ap (behind_marker q) (mark_none f.met many code (omega arith))))

    -- what was answered at the bit place, and at the scan's cursor
    beside :
        (x y : Read Bits (Unit {0}))
        → Alike (Peers s) x y
        → Looked s (narrowed from.bits) y
        → restarted s interval m q ≡ behind_marker q x
        → Restarted s interval m q (led_to from (behind_marker (narrowed_at from) y))
    beside (got _ b) _ h (found on a i) e =
        led_to_one (Meets s)
        (record { met = peers_meets h.1 (fresh_meets s on); predicts = refl; place = f.place })
        (sym e)
    beside (got _ b) _ h missed e = absurd h
    beside (fault g) _ h (found on a i) e = absurd h
    beside (fault g) _ h missed e = led_to_none (Meets s) (ap Err (sym h) ∙ sym e)

    restart_narrow : from.bits.left < 8 → Restarted s interval m q (led_to from (restarted s interval m (narrowed_at from)))
    restart_narrow few =
        subst⁻¹ (λ x. Restarted s interval m q (led_to from x)) (sought (narrowed_at from))
        (beside (mark s code q.bits) (mark s code (narrowed from.bits))
        (peers_mark (peers f.met (narrow_meets s f.met.proper few)) code (omega arith))
        (mark_looked s code (narrowed from.bits)) (sought q))

-- ---- what is promised, at a cursor that follows one of the scan

pub restarts :
    {s : List ℕ} (interval m : ℕ) {from : ScanCursor Wide} {a : Result (ScanCursor Wide) Fault}
    → a ≡ restarted_wide s interval m from
    → (q : ScanCursor Bits)
    → Follows (Meets s) q from
    → Led (Meets s) (restarted s interval m q) a
unfolding restarted_wide
restarts {s} interval m {from} e q f = subst⁻¹ (Restarted s interval m q) e (go (due_before interval m) refl)
  where
    there : Bool → Result (ScanCursor Wide) Fault
    there b = cond b (Err Broken) (led_to from (restarted s interval m (narrowed_at from)))

    few : due_before interval m ≡ true → (b : Bool) → ltb 7 from.bits.left ≡ b → Restarted s interval m q (there b)
    few due true g = restart_early f interval m due (omega (arith, ltb-true 7 from.bits.left g))
    few due false g = restart_narrow f interval m due (omega (arith, ltb-false 7 from.bits.left g))

    go : (b : Bool) → due_before interval m ≡ b → Restarted s interval m q (cond b (there (ltb 7 from.bits.left)) (Ok from))
    go true due = few due (ltb 7 from.bits.left) refl
    go false due = restart_none f interval m due

pub ends_there : {s : List ℕ} {w : Wide} {t : Bool} → t ≡ ends_wide s w → (b : Bits) → Meets s b w → t ≡ closes s b
unfolding ends_wide
ends_there {s} {w} e b m = e ∙ go (ltb 7 w.left) refl
  where
    go : (x : Bool) → ltb 7 w.left ≡ x → cond x false (closes s (narrowed w)) ≡ closes s b
    go true g = end_none m (omega (arith, ltb-true 7 w.left g))
    go false g = end_narrow m (omega (arith, ltb-false 7 w.left g))
