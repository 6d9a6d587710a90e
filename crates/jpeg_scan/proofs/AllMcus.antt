-- MCU after MCU. Before MCU m the levels of its first blocks are read: put before what is still to be read they are the scan's, and their
-- samples fill the scratch up to there. One MCU more keeps this (`further`), a fault in one is the scan's fault (`broken`), and behind the
-- last block all are read (`all_read`).
use mathlib.Core.Path.{◌≡◌, refl, sym, ◌∙◌, ap, ap₂}
use mathlib.Core.Bool.{Bool, true, false}
use mathlib.Core.List.{List, [], ◌++◌}
use Prim.Native.Nat.{ℕ, ◌+◌, ◌*◌, ◌-◌, ◌<◌, ◌≤◌, min}
use native.Mathlib.Nat.{add-mul}
use native.Mathlib.Omega.{arith}
use lib.ListN.{length, take, length-append, drop, get_or}
use lib.IntN.{ℤ}
use Rattle.std.specs.Prelude.{Ok, Err}
use Rattle.reading.specs.declared.Bits.{Bits}
use Rattle.reading.specs.declared.Break.{Break}
use Rattle.reading.specs.declared.ScanCursor.{ScanCursor}
use Rattle.reading.specs.Scan as scan
use Rattle.reading.specs.Scan.{whole, broke}
use Rattle.reading.specs.Code.Scans.{cursor_of}
use Rattle.jpeg_scan_plan.specs.declared.Plan.{Plan}
use Rattle.jpeg_scan_plan.specs.Plans.{Stands, Quantizes}
use Rattle.jpeg_scan.specs.Steps.{ahead, before, inked, Passed, Behind, Went}
use Rattle.jpeg_scan.proofs.Onward.{before_none, before_before, before_broke, before_whole, ahead_none}
use Rattle.jpeg_scan.proofs.Samples.{inked_none, inked_not, inked_more}

-- what was read of the scan before the cursor q, for a plan of the rules
pub record On
    (s : List ℕ) (p : scan.Plan) (n : Plan) (write : Bool) (old : List ℕ) (q₀ : ScanCursor Bits)
    (new : List ℕ) (q : ScanCursor Bits) : Type 0 where
  pub levels : List (List ℤ)
  pub count : length levels ≡ q.done
  pub same : ahead s p n.blocks q₀ ≡ before levels (ahead s p n.blocks q)
  pub here : (quant : ℕ → List ℕ) → Quantizes (take n.start s) n quant → new ≡ inked write p.shape quant 0 levels old

-- before MCU m, or behind the last block: q₀ is the cursor and `old` the scratch at the start of the scan, q and `new` are those now
pub record Walk
    (s : List ℕ) (n : Plan) (write : Bool) (old : List ℕ) (q₀ : ScanCursor Bits)
    (new : List ℕ) (q : ScanCursor Bits) (m : ℕ) : Type 0 where
  pub size : length new ≡ length old
  pub place : q.done ≡ min (m * n.per) n.blocks
  pub on : (p : scan.Plan) → Stands (take n.start s) n p → On s p n write old q₀ new q

pub begin : (s : List ℕ) (n : Plan) (write : Bool) (old : List ℕ) (q : ScanCursor Bits) → q.done ≡ 0 → Walk s n write old q old q 0
begin s n write old q e =
    record {
      size = refl;
      place = omega (arith, e);
      on = λ p st. record { levels = []; count = sym e; same = sym (before_none (ahead s p n.blocks q)); here = λ quant h. sym (inked_none p.shape quant write 0 old) };
    }

module _
    {s : List ℕ} {n : Plan} {write : Bool} {old : List ℕ} {q₀ : ScanCursor Bits} {new : List ℕ} {q : ScanCursor Bits} {m : ℕ}
    (w : Walk s n write old q₀ new q m)
  where
    module _ (p : scan.Plan) (st : Stands (take n.start s) n p) where
      o : On s p n write old q₀ new q
      o = w.on p st

      pub all_read : n.blocks ≤ q.done → ahead s p n.blocks q₀ ≡ whole (w.on p st).levels (cursor_of q)
      unfolding o
      all_read h = o.same ∙ ap (before o.levels) (ahead_none s p n.blocks q h) ∙ before_whole o.levels (cursor_of q)

      pub unchanged : write ≡ false → new ≡ old
      unchanged t =
          let own : ℕ → List ℕ = λ c. take 64 (drop (get_or n.quants c 0) (take n.start s)) in
          o.here own (λ c h. refl) ∙ ap (λ (b : Bool). inked b p.shape own 0 o.levels old) t ∙ inked_not p.shape own 0 o.levels old

    module _ (i : q.done < n.blocks) where
      pub at_mcu : q.done ≡ m * n.per
      at_mcu = omega (arith, w.place)

      -- ---- MCU m

      module _ {new' : List ℕ} where
        -- it breaks
        pub broken :
            {b : Break}
            → Went s n m q write new (Err b) new'
            → (p : scan.Plan)
            → Stands (take n.start s) n p
            → (ahead s p n.blocks q₀ ≡ broke b) × (write ≡ false → new' ≡ old)
        broken {b} v p st =
            let x : Behind s p n q write new (Err b) new' = v.each p st at_mcu in
            ((o p st).same ∙ ap (before (o p st).levels) x.0 ∙ before_broke (o p st).levels b, λ (t : write ≡ false). x.1 t ∙ unchanged p st t)

        -- it is read
        module _ {b : ScanCursor Bits} (v : Went s n m q write new (Ok b) new') where
          passed : (p : scan.Plan) → Stands (take n.start s) n p → Passed s p n q b write new new'
          passed p st = v.each p st at_mcu

          pub gained : (p : scan.Plan) → Stands (take n.start s) n p → b.done ≡ q.done + min n.per (n.blocks - q.done)
          gained p st = let x = passed p st in omega (arith, x.place, x.count)

          more : (p : scan.Plan) → Stands (take n.start s) n p → On s p n write old q₀ new' b
          more p st =
              let x : Passed s p n q b write new new' = passed p st in
              let ls : List (List ℤ) = (o p st).levels in
              let ms : List (List ℤ) = x.levels in
              let z : q.done ≡ 0 + length ls = omega (arith, (o p st).count) in
              record {
                levels = ls ++ ms;
                count = length-append ls ms ∙ omega (arith, (o p st).count, x.place);
                same = (o p st).same ∙ ap (before ls) x.same ∙ before_before ls ms (ahead s p n.blocks b);
                here = λ quant h.
                    x.here quant h ∙ ap₂ (λ (k : ℕ) (x : List ℕ). inked write p.shape quant k ms x) z ((o p st).here quant h)
                    ∙ inked_more p.shape quant write 0 ls ms old (λ (t : write ≡ true). omega arith);
              }

          pub further : (p : scan.Plan) → Stands (take n.start s) n p → Walk s n write old q₀ new' b (m + 1)
          further p st =
              record {
                size = v.size ∙ w.size;
                place = omega (arith, gained p st, at_mcu, add-mul m 1 n.per);
                on = more;
              }
