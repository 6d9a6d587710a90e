-- The walk over the later levels of a block at a cursor. The one idea: at each place some bit place meets the cursor, and the plain walk
-- (`Walk`, of jpeg_block) stands there with the same place and the same levels.
use Prim.Native.Nat.{ℕ, ◌+◌, ◌*◌, ◌-◌, ◌/◌, ◌%◌, ◌^◌, ◌<◌, ◌≤◌}
use mathlib.Core.Path.{◌≡◌, refl, sym, ◌∙◌, ap, subst, subst⁻¹}
use mathlib.Core.Bool.{false, cond}
use mathlib.Core.List.{List}
use native.Mathlib.Omega.{arith}
use lib.Dec.{eqb, lit<}
use lib.IntN.{ℤ, pos}
use lib.ListN.{get_or, set}
use borrow.Author.Tests.{ne_eqb}
use Rattle.reading.specs.declared.Bits.{Bits}
use Rattle.reading.specs.declared.Fault.{Fault}
use Rattle.std.specs.Prelude.{Result, Ok, Err}
use Rattle.reading.specs.Reader.{Read, got, fault, Reader, onward}
use Rattle.reading.specs.Bits.{one, amplitude, meaning}
use Rattle.reading.specs.Huffman.{Table, table_at, symbol}
use Rattle.reading.specs.Block.{Ask, end, skip, value, wrong, block}
use Rattle.reading.specs.Code.Places.{places}
use Rattle.reading.proofs.FileBytes.{AllBytes}
use Rattle.jpeg_block.specs.Step.{ask_at, level_at, value_at, step_read, step_for, stepped}
use Rattle.jpeg_block.proofs.Steps.{level_later}
use Rattle.jpeg_block.proofs.Remaining.{Walk, begun, at_64, stopped, ended, skipped, put}
use Rattle.jpeg_bits_wide.specs.declared.Wide.{Wide}
use Rattle.jpeg_bits_wide.specs.Cursor.{Meets, topped, meant_by}
use Rattle.jpeg_bits_wide.proofs.Coming.{acc_fits}
use Rattle.jpeg_bits_wide.proofs.Meeting.{topped_meets}
use Rattle.jpeg_huffman_table.specs.Looks.{entry_at, looked, field_at}
use Rattle.jpeg_block.specs.declared.Step as code
use Rattle.jpeg_block.specs.declared.Step.TheVariants.{End, Skip, Put}
use Rattle.jpeg_block_wide.specs.Blocks.{Looks, Agree, SameStep, BlockAlike, Opened}
use Rattle.jpeg_block_wide.proofs.Stepping.{cursor_at}
use Rattle.jpeg_block_wide.proofs.Looking.{looked_value, looked_cursor, later_looked, later_end}

-- behind the first place no step asks for the prediction
later_any : {S : Type 0} (next : Reader S ℕ) (t : Table) (place : ℕ) (p q : ℤ) (b : S) → 0 < place → stepped next t place p b ≡ stepped next t place q b
unfolding stepped value_at
later_any {S} next t place p q b h = go (symbol next t b)
  where
    far : (run : ℕ) → place + run ≡ 0 → ⊥
    far run z = omega arith

    valued : (run : ℕ) (o : Read S ℤ) → onward o (level_at (place + run) p) ≡ onward o (level_at (place + run) q)
    valued run (got v c) = level_later (place + run) p v c (far run) ∙ sym (level_later (place + run) q v c (far run))
    valued run (fault f) = refl

    for : (a : Ask) (c : S) → step_for next place p a c ≡ step_for next place q a c
    for end c = refl
    for skip c = refl
    for wrong c = refl
    for (value run size) c = valued run (amplitude next size c)

    go : (o : Read S ℕ) → onward o (λ x. step_for next place p (ask_at place x)) ≡ onward o (λ x. step_for next place q (ask_at place x))
    go (got x c) = for (ask_at place x) c
    go (fault f) = refl

-- a block that was read, and one that was refused
module _ (s : List ℕ) {o : Read Bits (List ℤ)} (levels : List ℤ) where
  alike_read :
      {q : Bits} {w : Wide} (z : ℤ) (n : ℕ)
      → o ≡ got levels q
      → z ≡ get_or levels 0 (pos 0)
      → places levels ≡ n
      → Meets s q w
      → BlockAlike s o (Ok (record { after = w; first = z; reach = n })) levels
  alike_read {q} {w} z n e f g m = subst⁻¹ (λ r. BlockAlike s r (Ok (record { after = w; first = z; reach = n })) levels) e (refl, f, sym g, m)

  pub alike_stopped : {f : Fault} → o ≡ fault f → BlockAlike s o (Err f) levels
  alike_stopped {f} e = subst⁻¹ (λ r. BlockAlike s r (Err f) levels) e refl

-- the plain walk stands at a bit place that meets the cursor
pub record Going (t s : List ℕ) (dc ac : ℕ) (p : ℤ) (b : Bits) (at acc left place reach : ℕ) (levels : List ℤ) : Type 0 where
  pub here : Bits
  pub walk : Walk t s dc ac p b here place reach levels
  pub meets : Meets s here (cursor_at at acc left)

-- behind the first level
pub set_out :
    {t : List ℕ} {ac : ℕ} {look : List ℕ} {from : ℕ} {s : List ℕ} {w : Wide} {levels : List ℤ} (o : Opened t ac look from s w levels)
    → Going t s o.dc ac o.p o.b w.at w.acc w.left 1 1 levels
set_out {t} {ac} {s = s} o =
    record {
      here = o.here;
      walk = subst⁻¹ (Walk t s o.dc ac o.p o.b o.here 1 1) o.first (put (begun t s o.dc ac o.p o.b) (lit< tt) {base = o.dc} refl o.read);
      meets = o.meets;
    }

module _ {t s : List ℕ} {dc ac : ℕ} {p : ℤ} {b : Bits} {at acc left place reach : ℕ} {levels : List ℤ} (g : Going t s dc ac p b at acc left place reach levels) where
  -- at place 64
  pub arrived :
      64 ≤ place
      → {w : Wide} (z : ℤ)
      → w ≡ cursor_at at acc left
      → z ≡ get_or levels 0 (pos 0)
      → BlockAlike s (block (one s) (table_at t dc) (table_at t ac) p b) (Ok (record { after = w; first = z; reach = reach })) levels
  arrived h {w} z e f = alike_read s levels z reach (at_64 g.walk h) f g.walk.many (subst⁻¹ (Meets s g.here) e g.meets)

  -- filled up
  pub topped_going : AllBytes s → {w q : Wide} → w ≡ cursor_at at acc left → q ≡ topped s w → Going t s dc ac p b q.at q.acc q.left place reach levels
  topped_going bytes {w} {q} e f =
      record { here = g.here; walk = g.walk; meets = subst⁻¹ (Meets s g.here) (f ∙ ap (topped s) e) (topped_meets bytes g.meets) }

  module _ (h : place < 64) (later : 0 < place) where
    by_table : ac ≡ cond (eqb place 0) dc ac
    by_table = rw (ne_eqb place 0 (λ z. let none : ⊥ = omega arith in none))

    at_prediction : stepped (one s) (table_at t ac) place p g.here ≡ stepped (one s) (table_at t ac) place (pos 0) g.here
    at_prediction = later_any (one s) (table_at t ac) place p (pos 0) g.here later

    -- ---- by the plain walk
    module _ {r : Result (code.Step Wide) Fault} {w : Wide} (e : w ≡ cursor_at at acc left) (same : SameStep t ac s w place (pos 0) r) where
      agrees : {x : Result (code.Step Wide) Fault} → r ≡ x → Agree s (stepped (one s) (table_at t ac) place (pos 0) g.here) (step_read x)
      agrees f = subst (λ y. Agree s (stepped (one s) (table_at t ac) place (pos 0) g.here) (step_read y)) f (same g.here (subst⁻¹ (Meets s g.here) e g.meets))

      pub plain_stop : {f : Fault} → r ≡ Err f → BlockAlike s (block (one s) (table_at t dc) (table_at t ac) p b) (Err f) levels
      plain_stop {f} i = alike_stopped s levels (stopped g.walk h by_table (at_prediction ∙ agrees i))

      pub plain_end :
          {q : Wide} (z : ℤ)
          → r ≡ Ok (End q)
          → z ≡ get_or levels 0 (pos 0)
          → BlockAlike s (block (one s) (table_at t dc) (table_at t ac) p b) (Ok (record { after = q; first = z; reach = reach })) levels
      plain_end z i k =
          let a = agrees i in
          alike_read s levels z reach (ended g.walk h by_table (at_prediction ∙ a.is)) k g.walk.many a.meets

      pub plain_skip : {q : Wide} → r ≡ Ok (Skip q) → Going t s dc ac p b q.at q.acc q.left (place + 16) reach levels
      plain_skip i =
          let a = agrees i in
          record { here = a.behind; walk = skipped g.walk h by_table (at_prediction ∙ a.is); meets = a.meets }

      pub plain_put : {n : ℕ} {z : ℤ} {q : Wide} → r ≡ Ok (Put n z q) → Going t s dc ac p b q.at q.acc q.left (n + 1) (n + 1) (set levels n z)
      plain_put {n} {z} i =
          let a = agrees i in
          record { here = a.behind; walk = put g.walk h by_table (at_prediction ∙ a.is); meets = a.meets }

    -- ---- by a look
    module _ (look : List ℕ) (from : ℕ) (looks : Looks false (table_at t ac) look from) {e : ℕ} (is : e ≡ looked 9 look from acc) (some : 0 < e / 256) (there : e / 256 ≤ left) where
      entry : e ≡ entry_at 9 false (table_at t ac) (acc / 2 ^ 55)
      entry = is ∙ looks acc (acc_fits g.meets.proper)

      value_is : meant_by (e % 16 % 16) (field_at acc (e / 256) (e % 16)) ≡ meaning (e % 16) (acc / 2 ^ (64 - e / 256) % 2 ^ (e % 16))
      value_is = looked_value g.meets false t ac entry some there

      pub look_put :
          0 < e % 16
          → place + e % 256 / 16 < 64
          → Going t s dc ac p b at (acc * 2 ^ (e / 256 % 64) % 2 ^ 64) (left - e / 256) (place + e % 256 / 16 + 1) (place + e % 256 / 16 + 1)
          (set levels (place + e % 256 / 16) (meant_by (e % 16 % 16) (field_at acc (e / 256) (e % 16))))
      look_put sized inside =
          let a = later_looked g.meets t ac entry some there place p later sized inside in
          record {
            here = a.behind;
            walk =
                subst⁻¹ (λ z. Walk t s dc ac p b a.behind (place + e % 256 / 16 + 1) (place + e % 256 / 16 + 1) (set levels (place + e % 256 / 16) z))
                value_is (put g.walk h by_table a.is);
            meets = subst⁻¹ (Meets s a.behind) (looked_cursor g.meets false t ac entry some there) a.meets;
          }

      pub look_end :
          e % 256 ≡ 0
          → {w : Wide} (z : ℤ)
          → w ≡ cursor_at at (acc * 2 ^ (e / 256 % 64) % 2 ^ 64) (left - e / 256)
          → z ≡ get_or levels 0 (pos 0)
          → BlockAlike s (block (one s) (table_at t dc) (table_at t ac) p b) (Ok (record { after = w; first = z; reach = reach })) levels
      look_end none z i k =
          let a = later_end g.meets t ac entry some there place p later none in
          alike_read s levels z reach (ended g.walk h by_table a.is) k g.walk.many
          (subst⁻¹ (Meets s a.behind) (i ∙ looked_cursor g.meets false t ac entry some there) a.meets)
