-- A whole scan: its MCUs, then its end; what is answered of it and what it leaves in the scratch.
use mathlib.Core.List.{List, ◌++◌}
use mathlib.Core.Path.{◌≡◌, refl, sym, ◌∙◌, ap}
use mathlib.Core.Bool.{Bool, true, false}
use Prim.Native.Nat.{ℕ, ◌+◌, ◌-◌, ◌*◌, ◌<◌, ◌≤◌}
use native.Mathlib.Nat.{add-mul}
use native.Mathlib.Omega.{arith}
use lib.ListN.{length, drop}
use lib.IntN.{ℤ}
use Rattle.std.specs.Option.{ok_or}
use Rattle.std.specs.Prelude.{Option, Some, None, Result, Ok, Err}
use Rattle.std.specs.Int.{div_ceil}
use Rattle.std.proofs.Math.Nat.{mul-le-mul_right}
use Rattle.std.proofs.lemmas.Grind.{div_ceil_times}
use Rattle.reading.specs.declared.Bits.{Bits}
use Rattle.reading.specs.declared.Break.{Break}
use Rattle.reading.specs.declared.Fault.TheVariants.{Broken}
use Rattle.reading.specs.declared.Record.{Record}
use Rattle.reading.specs.declared.ScanCursor.{ScanCursor}
use Rattle.reading.specs.Tests.{over}
use Rattle.reading.specs.Reader.{◌>>◌, give}
use Rattle.reading.specs.Bits.{file, first_bit}
use Rattle.reading.specs.Tables.{shape_of, quantizers_of}
use Rattle.reading.specs.Reading.{samples_of}
use Rattle.reading.specs.Scan.{plan_of, closed, Cursor, Scanned, whole, broke, here, onwards, levels}
use Rattle.reading.specs.Code.Answers.{scan_read}
use Rattle.reading.specs.Code.Scans.{at_start, cursor_of, broke_at, nowhere, readable, scan_of}
use Rattle.reading.proofs.ScanAnswers.{answer_done, answer_stop, Accepted, accepted, refused, drawn_stop, drawn_short, drawn_all}
use Rattle.reading.proofs.Reasons.{whole_val, no_break}
use Rattle.jpeg_scan_plan.specs.declared.Plan.{Plan}
use Rattle.jpeg_scan_plan.specs.Plans.{plan_for}
use Rattle.jpeg_scan_plan.specs.Marks.{closes}
use Rattle.jpeg_scan_plan.proofs.Standing.{Ready, unready}
use Rattle.jpeg_scan_plan.proofs.Marks.{end_there, end_not}
use Rattle.jpeg_scan.specs.Steps.{ahead, placed, inked, Left, Went, drawn_for}
use Rattle.jpeg_scan.proofs.AllMcus.{Walk, all_read, unchanged, broken, further}
use Rattle.jpeg_scan.proofs.Samples.{inked_not}

-- ---- the end

-- blocks that were read, and the end behind them
abbrev closing : List ℕ → List (List ℤ) → Cursor Bits → Scanned Bits (List (List ℤ))
closing s ls q = here (file s) q ((closed (file s) >> give ls) q.bits)

module _ (s : List ℕ) (r : Record) (e : readable s r ≡ true) where
  scan_is : scan_of s r ≡ onwards (ahead s (plan_of s r) r.blocks (at_start r.start)) (closing s)
  unfolding scan_of levels ahead file
  scan_is = let z : r.blocks - 0 ≡ r.blocks = omega arith in rw (e, z)

  pub scan_stop : {w : Break} → ahead s (plan_of s r) r.blocks (at_start r.start) ≡ broke w → scan_of s r ≡ broke w
  scan_stop g = scan_is ∙ rw g

  module _ {ls : List (List ℤ)} {q : ScanCursor Bits} (g : ahead s (plan_of s r) r.blocks (at_start r.start) ≡ whole ls (cursor_of q)) where
    pub scan_done : closes s q.bits ≡ true → scan_of s r ≡ whole ls (first_bit (length s))
    scan_done h = scan_is ∙ rw g (rw (end_there s q.bits h))

    pub scan_open : closes s q.bits ≡ false → scan_of s r ≡ broke (broke_at q Broken)
    unfolding file
    scan_open h = scan_is ∙ rw g (rw (end_not s q.bits h))

-- ---- the scratch

inked_all : (s : List ℕ) (r : Record) (ls : List (List ℤ)) (old : List ℕ) → inked true (shape_of r.frame) (quantizers_of s r) 0 ls old ≡ over (samples_of s r ls) old
unfolding inked placed
inked_all s r ls old = let z : 64 * 0 + length (samples_of s r ls) ≡ length (samples_of s r ls) = omega arith in ap (λ (k : ℕ). samples_of s r ls ++ drop k old) z

module _ (s : List ℕ) (r : Record) where
  pub left_done :
      (write : Bool) (old : List ℕ) {new : List ℕ} {ls : List (List ℤ)} {b : Bits}
      → scan_of s r ≡ whole ls b
      → new ≡ inked write (shape_of r.frame) (quantizers_of s r) 0 ls old
      → Left write s r old new
  left_done false old {new} {ls} e h = h ∙ inked_not (shape_of r.frame) (quantizers_of s r) 0 ls old
  left_done true old {new} {ls} {b} e h =
      λ ms c g. let same : ls ≡ ms = whole_val (sym e ∙ g) in
      h ∙ ap (λ (l : List (List ℤ)). inked true (shape_of r.frame) (quantizers_of s r) 0 l old) same ∙ inked_all s r ms old

  pub left_stop : (write : Bool) (old new : List ℕ) {w : Break} → scan_of s r ≡ broke w → (write ≡ false → new ≡ old) → Left write s r old new
  left_stop false old new e h = h refl
  left_stop true old new {w} e h = λ ms c g. absurd (no_break w ms c (sym e ∙ g))

-- ---- the walk over MCUs

-- how many MCUs have blocks
module _ (n k m : ℕ) (h : 0 < k) where
  pub mcu_begins : m < div_ceil n k → m * k < n
  mcu_begins l =
      let all : (m + 1) * k ≤ div_ceil n k * k = mul-le-mul_right k (omega arith) in
      omega (arith, all, (div_ceil_times n k h).1, add-mul m 1 k)

  pub mcus_done : div_ceil n k ≤ m → n ≤ m * k
  mcus_done l =
      let all : div_ceil n k * k ≤ m * k = mul-le-mul_right k l in
      omega (arith, all, (div_ceil_times n k h).0)

module _
    {s : List ℕ} {r : Record} {n : Plan} (u : Ready s r n) {write : Bool} {old new : List ℕ} {q : ScanCursor Bits} {m : ℕ}
    (w : Walk s n write old (at_start n.start) new q m)
  where
    from_start :
        {o : Scanned (Cursor Bits) (List (List ℤ))}
        → ahead s (plan_of s r) n.blocks (at_start n.start) ≡ o
        → ahead s (plan_of s r) r.blocks (at_start r.start) ≡ o
    from_start e = ap (λ (k : Plan). ahead s (plan_of s r) k.blocks (at_start k.start)) (sym u.plan_is) ∙ e

    abbrev Answered : Result (Unit {0}) Break → List ℕ → Type 0
    Answered x left = (x ≡ scan_read (scan_of s r)) × Left write s r old left

    -- all blocks are read
    module _ (h : div_ceil n.blocks n.per ≤ m) where
      all : ahead s (plan_of s r) r.blocks (at_start r.start) ≡ whole (w.on (plan_of s r) u.numbers).levels (cursor_of q)
      all = from_start (all_read w (plan_of s r) u.numbers (omega (arith, w.place, mcus_done n.blocks n.per m u.numbers.some h)))

      pub ended : closes s q.bits ≡ true → Answered (Ok tt) new
      ended c =
          let e = scan_done s r u.readable_is all c in
          (answer_done e, left_done s r write old e ((w.on (plan_of s r) u.numbers).here (quantizers_of s r) u.quantizers))

      pub unended : closes s q.bits ≡ false → Answered (Err (broke_at q Broken)) new
      unended c =
          let e = scan_open s r u.readable_is all c in
          (answer_stop e, left_stop s r write old new e (unchanged w (plan_of s r) u.numbers))

    -- MCU m
    module _ (h : m < div_ceil n.blocks n.per) where
      left_of : q.done < n.blocks
      left_of = omega (arith, w.place, mcu_begins n.blocks n.per m u.numbers.some h)

      pub stopped : {b : Break} {new' : List ℕ} → Went s n m q write new (Err b) new' → Answered (Err b) new'
      stopped {new' = new'} v =
          let x = broken w left_of v (plan_of s r) u.numbers in
          let e = scan_stop s r u.readable_is (from_start x.0) in
          (answer_stop e, left_stop s r write old new' e x.1)

      pub onward :
          {b : ScanCursor Bits} {new' : List ℕ}
          → Went s n m q write new (Ok b) new'
          → Walk s n write old (at_start n.start) new' b (m + 1)
      onward v = further w left_of v (plan_of s r) u.numbers

-- ---- the scan read, and read again with its samples

-- no scan can be read
pub unplanned : (s : List ℕ) (r : Record) (o : Option Plan) {w v : Break} → o ≡ plan_for s r → v ≡ nowhere → Err w ≡ ok_or o v
    → Err w ≡ scan_read (scan_of s r)
unplanned s r None {w} {v} e n h = let same : w ≡ v = cc in ap Err (same ∙ n) ∙ answer_stop (unready s r e)
unplanned s r (Some x) e n h = absurd cc

module _ (s : List ℕ) (r : Record) (old : List ℕ) where
  pub drawn_broken : {b : Break} {new : List ℕ} → Err b ≡ scan_read (scan_of s r) → new ≡ old → new ≡ drawn_for s r old
  drawn_broken e h = h ∙ drawn_stop (shape_of r.frame) (quantizers_of s r) r.blocks old (refused (scan_of s r) e refl)

  module _ (e : Ok tt ≡ scan_read (scan_of s r)) where
    read : Accepted (scan_of s r)
    read = accepted (scan_of s r) e refl

    pub drawn_without_room : {new : List ℕ} → length old < 64 * r.blocks → new ≡ old → new ≡ drawn_for s r old
    drawn_without_room l h = h ∙ drawn_short (shape_of r.frame) (quantizers_of s r) r.blocks old read l

    pub drawn_with_room :
        {new between : List ℕ}
        → 64 * r.blocks ≤ length old
        → between ≡ old
        → Left true s r between new
        → new ≡ drawn_for s r old
    drawn_with_room l b h =
        h read.blocks_read read.behind read.is
        ∙ ap (over (samples_of s r read.blocks_read)) b
        ∙ drawn_all (shape_of r.frame) (quantizers_of s r) r.blocks old read l
