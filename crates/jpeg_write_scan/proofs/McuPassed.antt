-- One MCU. Before its block j what is still to come is what was to come at the start. One block more keeps this (`further`), a fault is
-- the scan's fault (`stopped`, `broken`), and behind the last block it is what the contract says (`whole`).
use Prim.Native.Nat.{ℕ, ◌+◌, ◌*◌, ◌<◌, ◌≤◌}
use mathlib.Core.Path.{◌≡◌, refl, sym, ◌∙◌, ap}
use mathlib.Core.Bool.{Bool, true, false}
use mathlib.Core.List.{List}
use native.Mathlib.Omega.{arith}
use lib.Dec.{leb}
use lib.IntN.{ℤ, pos}
use lib.ListN.{length, get_or}
use borrow.Author.Tests.{leb-true, leb-false}
use Rattle.std.specs.Prelude.{Option, Ok, Err}
use Rattle.reading.specs.declared.Bits.{Bits}
use Rattle.reading.specs.declared.Fault.{Fault}
use Rattle.reading.specs.declared.ScanCursor.{ScanCursor}
use Rattle.reading.specs.Layout.{due_before, restart_before}
use Rattle.reading.specs.Reader.{got, fault}
use Rattle.reading.specs.Code.Scans.{broke_at}
use Rattle.reading.specs.Scan as scan
use Rattle.reading.specs.Scan.{broke}
use Rattle.reading.specs.Settled.{Written, onto, cut, block_by}
use Rattle.jpeg_scan_plan.specs.declared.Plan.{Plan}
use Rattle.jpeg_scan_plan.specs.Plans.{chan, Stands}
use Rattle.jpeg_scan_plan.specs.Marks.{restarted, broke_in}
use Rattle.jpeg_scan_plan.proofs.Marks.{restart_done}
use Rattle.jpeg_scan.proofs.Onward.{block_at, past}
use Rattle.jpeg_scan.proofs.OneMcu.{head, below, Along, along_none, along_at, along_more, entered, entered_later, entered_out, turn_of, entered_here, turn_names}
use Rattle.jpeg_write_bits.specs.declared.Pen.{Pen}
use Rattle.jpeg_write_codes.specs.Words.{coder_of}
use Rattle.jpeg_write_codes.specs.Sheets.{sheet, words_in}
use Rattle.jpeg_write_scan.specs.declared.Moved.{Moved}
use Rattle.jpeg_huffman_table.specs.Looks.{paired}
use Rattle.jpeg_write_scan.specs.Pass.{blocks_at, Fit, Moves, coming, resuming, Went}
use Rattle.jpeg_write_scan.proofs.SheetFilled.{sheet_block}
use Rattle.jpeg_write_scan.proofs.Comings.{coming_stop, coming_restart, resuming_none, coming_inside, resuming_stop, resuming_next}

-- the block of channel c as it is written by the words
abbrev pub block_in : List ℕ → ℕ → ℤ → List ℤ → Written
block_in ws c z l = block_by (coder_of (words_in (512 * c) ws)) (coder_of (words_in (512 * c + 256) ws)) z l

-- no block is left
pub over : (s : List ℕ) (n : Plan) (m : ℕ) (from : Moved Bits) (old : List ℕ) → Fit from.ink → n.blocks ≤ from.cursor.done → Went s n m from old (Ok from) old
over s n m from old f h = record { size = refl; on = (f, omega arith); each = λ p st e. refl }

-- the restart before MCU m is not read
pub stopped :
    (s : List ℕ) (n : Plan) (m : ℕ) (from : Moved Bits) (old : List ℕ) {f : Fault}
    → from.cursor.done < n.blocks
    → Err f ≡ restarted s n.interval m from.cursor
    → Went s n m from old (Err (broke_at from.cursor f)) old
stopped s n m from old i u =
    record { size = refl; on = tt; each = λ p st e. coming_stop st s m n.blocks from.cursor e i from.ink old u }

-- before block j: `pen` and `mid` are the ink and the bytes behind the restart, which led from the cursor of `from` to `start`; q, `ink` and
-- `new` are the cursor, the ink and the bytes now
pub record Walk
    (s : List ℕ) (n : Plan) (m : ℕ) (from : Moved Bits) (old : List ℕ) (start : ScanCursor Bits) (pen : Option Pen) (mid new : List ℕ)
    (q : ScanCursor Bits) (ink : Option Pen) (j : ℕ) : Type 0 where
  pub marked : length mid ≡ length old
  pub size : length new ≡ length mid
  pub led : Ok start ≡ restarted s n.interval m from.cursor
  pub put : Moves (cut (due_before n.interval m) (restart_before n.interval m)) from.ink old pen mid
  pub fit : Fit ink
  pub along : Along n start q j
  pub on :
      (p : scan.Plan)
      → Stands (head n s) n p
      → start.done ≡ m * n.per
      → resuming s p n.blocks from.cursor start pen mid ≡ entered j (coming s p n.blocks q ink new) (resuming s p n.blocks from.cursor q ink new)

pub begin :
    {s : List ℕ} {n : Plan} {m : ℕ} {from : Moved Bits} {old : List ℕ} {start : ScanCursor Bits} {pen : Option Pen} {mid : List ℕ}
    → length mid ≡ length old
    → Ok start ≡ restarted s n.interval m from.cursor
    → Moves (cut (due_before n.interval m) (restart_before n.interval m)) from.ink old pen mid
    → Walk s n m from old start pen mid mid start pen 0
begin {s} {n} {start = start} l u o =
    record { marked = l; size = refl; led = u; put = o; fit = o.fit; along = along_none n start; on = λ p st e. refl }

module _ {s : List ℕ} {n : Plan} {m : ℕ} {from : Moved Bits} {old : List ℕ} {start : ScanCursor Bits} {pen : Option Pen} {mid new : List ℕ} {q : ScanCursor Bits} {ink : Option Pen} {j : ℕ}
    (w : Walk s n m from old start pen mid new q ink j) where
  -- the restart counts no block
  same_done : start.done ≡ from.cursor.done
  same_done = restart_done s n.interval m from.cursor w.led

  module _ (p : scan.Plan) (st : Stands (head n s) n p) (e : from.cursor.done ≡ m * n.per) (i : from.cursor.done < n.blocks) where
    at_start : start.done ≡ m * n.per
    at_start = same_done ∙ e

    to_blocks : coming s p n.blocks from.cursor from.ink old ≡ entered j (coming s p n.blocks q ink new) (resuming s p n.blocks from.cursor q ink new)
    to_blocks = coming_restart st s m n.blocks from.cursor e i w.led from.ink old w.put ∙ w.on p st at_start

  -- ---- the last block is written

  pub whole : from.cursor.done < n.blocks → j ≡ blocks_at n start.done → Went s n m from old (Ok (record { cursor = q; ink = ink })) new
  whole i h =
      record {
        size = w.size ∙ w.marked;
        on = (w.fit, w.along.place ∙ ap (λ (k : ℕ). start.done + k) h ∙ ap (λ (k : ℕ). k + blocks_at n k) same_done);
        each = λ p st e. to_blocks p st e i ∙ all_in p st (leb n.per j) refl;
      }
    where
      all_in :
          (p : scan.Plan)
          → Stands (head n s) n p
          → (t : Bool)
          → leb n.per j ≡ t
          → entered j (coming s p n.blocks q ink new) (resuming s p n.blocks from.cursor q ink new) ≡ coming s p n.blocks q ink new
      all_in p st true l = entered_later j _ _ (omega (arith, st.some, leb-true n.per j l))
      all_in p st false l =
          let out : n.blocks ≤ q.done = omega (arith, leb-false n.per j l, w.along.place) in
          entered_out j _ _ (resuming_none s p n.blocks q ink new out from.cursor)

  -- ---- block j

  module _ (h : j < blocks_at n start.done) {c : ℕ} (u : c ≡ chan n.order j) where
    few_c : c < 4
    few_c = below n.order j u

    inside : j < n.per
    inside = omega arith

    left : q.done < n.blocks
    left = omega (arith, w.along.place)

    module _ (p : scan.Plan) (st : Stands (head n s) n p) (e : start.done ≡ m * n.per) where
      at : q.done ≡ m * n.per + j
      at = along_at w.along m e

      onto_block : entered j (coming s p n.blocks q ink new) (resuming s p n.blocks from.cursor q ink new) ≡ resuming s p n.blocks (turn_of j from.cursor q) q ink new
      onto_block = entered_here j _ (λ (c : ScanCursor Bits). resuming s p n.blocks c q ink new) from.cursor q (λ (l : 0 < j). coming_inside st s m j n.blocks q ink new at l inside)

    pub broken :
        from.cursor.done < n.blocks
        → {f : Fault}
        → block_at (head n s) n s c q ≡ fault f
        → Went s n m from old (Err (broke_in from.cursor q f)) new
    broken i {f} g =
        record {
          size = w.size ∙ w.marked;
          on = tt;
          each = λ p st e.
              to_blocks p st e i ∙ onto_block p st (same_done ∙ e)
              ∙ resuming_stop st s m j n.blocks (turn_of j from.cursor q) q ink new (at p st (same_done ∙ e)) inside left c u few_c g
              ∙ ap broke (turn_names w.along from.cursor (sym same_done) f);
        }

    pub further : {b : Bits} {l : List ℤ} → block_at (head n s) n s c q ≡ got l b → {ws : List ℕ} → ws ≡ sheet (head n s) (paired n.dcs n.acs)
        → {r : Option Pen} {new' : List ℕ} → length new' ≡ length new → Moves (onto (block_in ws c (get_or q.predictors c (pos 0)) l)) ink new r new'
        → Walk s n m from old start pen mid new' (past q c (get_or l 0 (pos 0)) b) r (j + 1)
    further {b} {l} g {ws} filled {r} {new'} long a =
        record {
          marked = w.marked;
          size = long ∙ w.size;
          led = w.led;
          put = w.put;
          fit = a.fit;
          along = along_more w.along inside left c _ _;
          on = λ p st e.
              w.on p st e ∙ onto_block p st e
              ∙ resuming_next st s m j n.blocks (turn_of j from.cursor q) q ink new (at p st e) inside left c u few_c g (sheet_block st filled c few_c (get_or q.predictors c (pos 0)) l) a
              ∙ sym (entered_later (j + 1) _ _ (omega arith));
        }
