-- The tables of an accepted record stand before the first coded byte, their codes fit, and they list what a block takes, each symbol once.
use Prim.Native.Nat.{ℕ, zero, suc, ◌+◌, ◌*◌, ◌-◌, ◌/◌, ◌%◌, ◌<◌, ◌≤◌, zero-le, min}
use mathlib.Core.Path.{◌≡◌, refl, sym, ap, ap₂, ◌∙◌, subst, subst⁻¹}
use mathlib.Core.Bool.{Bool, true, false, not}
use mathlib.Core.List.{List, [], ◌∷◌}
use native.Mathlib.Omega.{arith}
use native.Mathlib.Nat.{not-suc-le-zero, le_trans}
use native.Mathlib.Numerals.{add-one}
use Rattle.reading.specs.Layout.{block_count, channel_of}
use Rattle.reading.proofs.Sampling.{Sampling, channel_in_lem, channels_are, per_some, frame_sampling}
use Rattle.reading.specs.Scan.{plan_of}
use Rattle.reading.specs.Tables.{shape_of, quant_at, dc_at, ac_at}
use Rattle.reading.proofs.ScanWritten.{GoodPlan}
use lib.Dec.{T, eqb, ltb, leb, eqb→eq, leb→le, ltb→lt}
use lib.ListN.{length, take, drop, get_or, set, replicate, length-take, length-drop}
use lib.Seq.{drop-drop}
use Rattle.reading.specs.declared.Refusal.{Refusal}
use Rattle.reading.specs.declared.Refusal.TheVariants.{CutShort, Malformed, Unsupported}
use Rattle.reading.specs.declared.Case.{Case}
use Rattle.reading.specs.declared.Case.TheVariants.{Marker, Quantizers, Huffman}
use Rattle.reading.specs.declared.Kind.{Kind}
use Rattle.reading.specs.declared.Kind.TheVariants.{Quants, Tables, Frames, Scans, Intervals, Skips, Others}
use Rattle.reading.specs.declared.Header.{Header}
use Rattle.reading.specs.declared.Record.{Record}
use Rattle.reading.specs.Tests.{◌and◌, ◌or◌, apart, all}
use Rattle.reading.specs.Huffman.{table_at, sum, codes_fit}
use Rattle.reading.specs.Header.{Stage, more, done, stop, byte, word, moved, window, quantizer_fits, with_quantizer, counts_of, symbols_of, listable, put, table_fits, with_table, frame_of, frame_known, frame_fits}
use Rattle.reading.specs.Header.{with_frame, with_interval, record_of, complete, has_frame, kind_of, segment, segment_end, marker, step_in, step, opens, started, opening, header}
use Rattle.reading.proofs.Plain.{and_left, and_right, Good}
use Rattle.reading.proofs.Fits.{TableKnown, table_known, all_at}
use Rattle.reading.proofs.HeaderEnds.{is_so, segment_room, window_short, header_within}
use Rattle.reading.proofs.HeaderPrefix.{take_drop_take}
use Rattle.reading.proofs.Stages.{stop_or, chosen_or, steps_hold}

-- the place of a table of a class that ends by `at`
pub record TableOk (class : ℕ) (s : List ℕ) (at x : ℕ) : Type 0 where
  pub fitting : T (codes_fit (take 16 (drop x s)) 0 0)
  pub by : x + 16 + sum (take 16 (drop x s)) ≤ at
  -- 1 to 256 symbols
  pub some : (1 ≤ sum (take 16 (drop x s))) × (sum (take 16 (drop x s)) ≤ 256)
  -- none twice, and each one that a block takes from a table of the class
  pub alone : T (apart (table_at s x).symbols)
  pub taken : T (all (listable class) (table_at s x).symbols)

-- the place of a quantizer that ends by `at`
pub record QuantOk (s : List ℕ) (at x : ℕ) : Type 0 where
  pub nonzero : T (all (ltb 0) (take 64 (drop x s)))
  pub by : x + 64 ≤ at

-- each place of a list that is not 0 has the property
abbrev Places : (ℕ → Type 0) → List ℕ → Type 0
Places P [] = Unit {0}
Places P (x ∷ l) = (0 < x → P x) × Places P l

places_set : (P : ℕ → Type 0) (l : List ℕ) (i x : ℕ) → Places P l → P x → Places P (set l i x)
places_set P [] i x h p = tt
places_set P (y ∷ l) zero x h p = ((λ _. p), h.1)
places_set P (y ∷ l) (suc i) x h p = (h.0, places_set P l i x h.1 p)

places_map : (P Q : ℕ → Type 0) → ((x : ℕ) → P x → Q x) → (l : List ℕ) → Places P l → Places Q l
places_map P Q f [] h = tt
places_map P Q f (x ∷ l) h = ((λ k. f x (h.0 k)), places_map P Q f l h.1)

places_at : (P : ℕ → Type 0) (l : List ℕ) (i : ℕ) → Places P l → 0 < get_or l i 0 → P (get_or l i 0)
places_at P [] i h k = absurd (not-suc-le-zero k)
places_at P (x ∷ l) zero h k = h.0 k
places_at P (x ∷ l) (suc i) h k = places_at P l i h.1 k

module _ (s : List ℕ) (colour : Bool) where
  -- what holds of a header's state
  pub record Inv (h : Header) : Type 0 where
    pub dcs : Places (TableOk 0 s h.at) h.tables.dcs
    pub acs : Places (TableOk 1 s h.at) h.tables.acs
    pub quants : Places (QuantOk s h.at) h.tables.quants
    pub sampling : 0 < h.frame.channels → Sampling h.frame

  pub record Ready (r : Record) : Type 0 where
    pub dcs : Places (TableOk 0 s r.start) r.tables.dcs
    pub acs : Places (TableOk 1 s r.start) r.tables.acs
    pub quants : Places (QuantOk s r.start) r.tables.quants
    pub whole : T (complete r)
    pub sampling : Sampling r.frame
    pub count : r.blocks ≡ block_count (shape_of r.frame)

  pub data Kept : Stage → Type 0 where
    on : (h : Header) → Inv h → Kept (more h)
    ready : (r : Record) → Ready r → Kept (done r)
    off : (x : Refusal) → Kept (stop x)

  later : {class : ℕ} (a b : ℕ) → a ≤ b → (x : ℕ) → TableOk class s a x → TableOk class s b x
  later a b h x t = record { fitting = t.fitting; by = le_trans t.by h; some = t.some; alone = t.alone; taken = t.taken }

  later_q : (a b : ℕ) → a ≤ b → (x : ℕ) → QuantOk s a x → QuantOk s b x
  later_q a b h x t = record { nonzero = t.nonzero; by = le_trans t.by h }

  -- tables kept at a later place
  kept : (h : Header)
      → Inv h
      → (i : Header)
      → h.tables.dcs ≡ i.tables.dcs
      → h.tables.acs ≡ i.tables.acs
      → h.tables.quants ≡ i.tables.quants
      → h.at ≤ i.at
      → (0 < i.frame.channels → Sampling i.frame)
      → Inv i
  kept h v i d a q k l =
      record {
        sampling = l;
        quants = subst (Places (QuantOk s i.at)) q (places_map _ _ (later_q h.at i.at k) h.tables.quants v.quants);
        dcs = subst (Places (TableOk 0 s i.at)) d (places_map _ _ (later h.at i.at k) h.tables.dcs v.dcs);
        acs = subst (Places (TableOk 1 s i.at)) a (places_map _ _ (later h.at i.at k) h.tables.acs v.acs);
      }

  segment_kept : (h : Header) → Inv h → (k : Kind) (b : List ℕ) (a e : ℕ) → h.at ≤ a → a ≤ e → Kept (segment colour h k b a e)
  segment_kept h v Quants b a e p q = stop_or Kept off (eqb a e) Malformed _ (λ t. on _ (kept h v (moved h a (Quantizers e)) refl refl refl p v.sampling))
  segment_kept h v Tables b a e p q = stop_or Kept off (eqb a e) Malformed _ (λ t. on _ (kept h v (moved h a (Huffman e)) refl refl refl p v.sampling))
  segment_kept h v Frames b a e p q =
      stop_or Kept off _ _ _
      (λ t1. stop_or Kept off _ _ _
      (λ t2. stop_or Kept off _ _ _
      (λ t3. stop_or Kept off _ _ _
      (λ t4. on _ (kept h v (with_frame h e (frame_of b)) refl refl refl (le_trans p q) (λ _. frame_sampling b (is_so (frame_known b) t2) (is_so (frame_fits b (frame_of b)) t4)))))))
  segment_kept h v Scans b a e p q =
      stop_or Kept off _ _ _
      (λ t1. stop_or Kept off _ _ _
      (λ t2. stop_or Kept off _ _ _ (λ t3. stop_or Kept off _ _ _ (λ t4. stop_or Kept off _ _ _ (λ t5. ready (record_of b colour h e) (record {
        dcs = places_map _ _ (later h.at e (le_trans p q)) h.tables.dcs v.dcs;
        acs = places_map _ _ (later h.at e (le_trans p q)) h.tables.acs v.acs;
        quants = places_map _ _ (later_q h.at e (le_trans p q)) h.tables.quants v.quants;
        whole = is_so (complete (record_of b colour h e)) t5;
        sampling = v.sampling (ltb→lt 0 h.frame.channels (is_so (has_frame h) t1));
        count = refl;
      }))))))
  segment_kept h v Intervals b a e p q = stop_or Kept off _ _ _ (λ t. on _ (kept h v (with_interval h e (word b 0)) refl refl refl (le_trans p q) v.sampling))
  segment_kept h v Skips b a e p q = on _ (kept h v (moved h e Marker) refl refl refl (le_trans p q) v.sampling)
  segment_kept h v Others b a e p q = off Unsupported

  drop_next : (l : List ℕ) (p : ℕ) → drop 1 (drop p l) ≡ drop (p + 1) l
  drop_next l p = go l p ∙ ap (λ k. drop k l) (sym (add-one p))
    where
      go : (l : List ℕ) (p : ℕ) → drop 1 (drop p l) ≡ drop (suc p) l
      go [] zero = refl
      go [] (suc p) = refl
      go (x ∷ l) zero = refl
      go (x ∷ l) (suc p) = go l p

  counts_same : (p e : ℕ) → 17 ≤ e - p → counts_of (window s p e) ≡ take 16 (drop (p + 1) s)
  counts_same p e h = take_drop_take 1 16 (e - p) (drop p s) (omega (arith, h)) ∙ ap (take 16) (drop_next s p)

  symbols_same : (p e : ℕ) → 17 + sum (counts_of (window s p e)) ≤ e - p → symbols_of (window s p e) ≡ (table_at s (p + 1)).symbols
  symbols_same p e h =
      let far : p + 17 ≡ p + 1 + 16 = omega arith in
      take_drop_take 17 (sum (counts_of (window s p e))) (e - p) (drop p s) h
      ∙ ap₂ (λ (n : ℕ) (l : List ℕ). take n l) (ap sum (counts_same p e (omega arith))) (drop-drop 17 p s ∙ ap (λ k. drop k s) far)

  -- a table is put in its place where it is of the class
  put_kept : {class : ℕ} (b : Bool) (at : ℕ) (l : List ℕ) (i x : ℕ) → Places (TableOk class s at) l → (b ≡ true → TableOk class s at x) → Places (TableOk class s at) (put b l i x)
  put_kept true at l i x h k = places_set _ l i x h (k refl)
  put_kept false at l i x h k = h

  table_kept : (h : Header) → Inv h → (e : ℕ) → T (table_fits (window s h.at e)) → Inv (with_table (window s h.at e) h)
  table_kept h v e t =
      record {
        dcs =
            put_kept (eqb (byte w 0 / 16) 0) (h.at + (17 + sum (counts_of w))) h.tables.dcs (byte w 0 % 16) (h.at + 1)
            (places_map _ _ (later h.at (h.at + (17 + sum (counts_of w))) (omega arith)) h.tables.dcs v.dcs) (λ c. ok 0 (eqb→eq _ 0 (subst⁻¹ T c tt)));
        acs =
            put_kept (eqb (byte w 0 / 16) 1) (h.at + (17 + sum (counts_of w))) h.tables.acs (byte w 0 % 16) (h.at + 1)
            (places_map _ _ (later h.at (h.at + (17 + sum (counts_of w))) (omega arith)) h.tables.acs v.acs) (λ c. ok 1 (eqb→eq _ 1 (subst⁻¹ T c tt)));
        quants = places_map _ _ (later_q h.at (h.at + (17 + sum (counts_of w))) (omega arith)) h.tables.quants v.quants;
        sampling = v.sampling;
      }
    where
      w : List ℕ
      w = window s h.at e

      known : TableKnown w
      known = table_known w t

      same : counts_of w ≡ take 16 (drop (h.at + 1) s)
      same = counts_same h.at e (le_trans known.long (window_short s h.at e))

      listed : symbols_of w ≡ (table_at s (h.at + 1)).symbols
      listed = symbols_same h.at e (le_trans known.whole (window_short s h.at e))

      ok : (class : ℕ) → byte w 0 / 16 ≡ class → TableOk class s (h.at + (17 + sum (counts_of w))) (h.at + 1)
      ok class c =
          record {
            fitting = subst (λ l. T (codes_fit l 0 0)) same known.codes;
            by = subst (λ l. h.at + 1 + 16 + sum l ≤ h.at + (17 + sum (counts_of w))) same (omega arith);
            some = subst (λ l. (1 ≤ sum l) × (sum l ≤ 256)) same known.some;
            alone = subst (λ l. T (apart l)) listed known.alone;
            taken = subst (λ l. T (all (listable class) l)) listed (subst (λ k. T (all (listable k) (symbols_of w))) c known.taken);
          }

  quant_kept : (h : Header) → Inv h → (e : ℕ) → T (quantizer_fits (window s h.at e)) → Inv (with_quantizer (window s h.at e) h)
  quant_kept h v e t =
      record {
        dcs = places_map _ _ (later h.at (h.at + 65) (omega arith)) h.tables.dcs v.dcs;
        acs = places_map _ _ (later h.at (h.at + 65) (omega arith)) h.tables.acs v.acs;
        quants = places_set (QuantOk s (h.at + 65)) h.tables.quants (byte w 0) (h.at + 1) (places_map _ _ (later_q h.at (h.at + 65) (omega arith)) h.tables.quants v.quants) ok;
        sampling = v.sampling;
      }
    where
      w : List ℕ
      w = window s h.at e

      room : 65 ≤ length w
      room = leb→le 65 (length w) (and_left (leb 65 (length w)) (leb (byte w 0) 3 and all (ltb 0) (take 64 (drop 1 w))) t)

      same : take 64 (drop 1 w) ≡ take 64 (drop (h.at + 1) s)
      same = take_drop_take 1 64 (e - h.at) (drop h.at s) (omega (arith, window_short s h.at e, room)) ∙ ap (take 64) (drop_next s h.at)

      ok : QuantOk s (h.at + 65) (h.at + 1)
      ok = record { nonzero = subst (λ l. T (all (ltb 0) l)) same (and_right (leb (byte w 0) 3) (all (ltb 0) (take 64 (drop 1 w))) (and_right (leb 65 (length w)) (leb (byte w 0) 3 and all (ltb 0) (take 64 (drop 1 w))) t)); by = omega arith }

  marker_kept : (h : Header) → Inv h → Kept (marker s colour h)
  marker_kept h v =
      stop_or Kept off (ltb (length s) (h.at + 2) or not (eqb (byte s h.at) 255)) Malformed _
      (λ t1. chosen_or Kept (eqb (byte s (h.at + 1)) 255) _ _ (λ t2. on _ (kept h v (moved h (h.at + 1) Marker) refl refl refl (omega arith) v.sampling))
      (λ t2. stop_or Kept off (eqb (byte s (h.at + 1)) 217) Malformed _
      (λ t3. stop_or Kept off (ltb (length s) (h.at + 4) or ltb (word s (h.at + 2)) 2 or ltb (length s) (segment_end s h.at)) CutShort _
      (λ t4. segment_kept h v (kind_of (byte s (h.at + 1))) (window s (h.at + 4) (segment_end s h.at)) (h.at + 4) (segment_end s h.at) (omega arith)
      (segment_room s h.at t4).behind))))

  -- inside a segment of tables the place stays below its end
  step_in_kept : (h : Header) → Inv h → (c : Case) → Kept (step_in s colour h c)
  step_in_kept h v Marker = marker_kept h v
  step_in_kept h v (Quantizers e) =
      chosen_or Kept (eqb h.at e) _ _
      (λ t. on _ (kept h v (moved h e Marker) refl refl refl (omega (arith, eqb→eq h.at e (subst⁻¹ T t tt))) v.sampling))
      (λ t. stop_or Kept off (not (quantizer_fits (window s h.at e))) Malformed _ (λ u. on _ (quant_kept h v e (is_so (quantizer_fits (window s h.at e)) u))))
  step_in_kept h v (Huffman e) =
      chosen_or Kept (eqb h.at e) _ _
      (λ t. on _ (kept h v (moved h e Marker) refl refl refl (omega (arith, eqb→eq h.at e (subst⁻¹ T t tt))) v.sampling))
      (λ t. stop_or Kept off _ Malformed _ (λ u. on _ (table_kept h v e (is_so (table_fits (window s h.at e)) u))))

  pub step_kept : (h : Header) → Inv h → Kept (step s colour h)
  step_kept h v = step_in_kept h v h.case

  pub opening_kept : Inv opening
  opening_kept = record { dcs = zero_places; acs = zero_places; quants = zero_quants; sampling = λ k. absurd (not-suc-le-zero k) }
    where
      zero_quants : Places (QuantOk s 2) (replicate 4 0)
      zero_quants = ((λ k. absurd (not-suc-le-zero k)), ((λ k. absurd (not-suc-le-zero k)), ((λ k. absurd (not-suc-le-zero k)), ((λ k. absurd (not-suc-le-zero k)), tt))))

      zero_places : {class : ℕ} → Places (TableOk class s 2) (replicate 4 0)
      zero_places = ((λ k. absurd (not-suc-le-zero k)), ((λ k. absurd (not-suc-le-zero k)), ((λ k. absurd (not-suc-le-zero k)), ((λ k. absurd (not-suc-le-zero k)), tt))))

  goes_on : (h : Header) → Kept (more h) → Kept (step s colour h)
  goes_on h (on _ v) = step_kept h v

  ready_so : (r : Record) → Kept (done r) → Ready r
  ready_so r (ready _ q) = q

  pub header_ready : (r : Record) → header s colour ≡ done r → Ready r
  unfolding header
  header_ready r e =
      ready_so r (subst Kept e
      (steps_hold s colour Kept goes_on (2 * length s + 1) (started s) (stop_or Kept off (not (opens s)) Malformed (more opening) (λ t. on opening opening_kept))))

-- ---- the plan of an accepted record

-- a table that ends by m is read alike from the first m bytes, and is good
pub good_table : {class : ℕ} (s : List ℕ) (m x : ℕ) → m ≤ length s → TableOk class s m x → Good (table_at (take m s) x)
good_table s m x h t = record { fitting = subst⁻¹ (λ l. T (codes_fit l 0 0)) same t.fitting; full = full }
  where
    same : take 16 (drop x (take m s)) ≡ take 16 (drop x s)
    same = take_drop_take x 16 m s (omega (arith, t.by))

    k : ℕ
    k = sum (take 16 (drop x (take m s)))

    room : x + 16 + k ≤ m
    room = subst⁻¹ (λ l. x + 16 + sum l ≤ m) same t.by

    full : length (take k (drop (x + 16) (take m s))) ≡ k
    full = length-take k (drop (x + 16) (take m s)) ∙ ap (min k) (length-drop (x + 16) (take m s) ∙ ap (λ i. i - (x + 16)) (length-take m s)) ∙ fits
      where
        fits : min k (min m (length s) - (x + 16)) ≡ k
        fits = omega (arith, room, h)

-- what an accepted record says of the tables of one channel of its picture
pub record Stands (s : List ℕ) (r : Record) (c : ℕ) : Type 0 where
  pub quant : QuantOk s r.start (quant_at r c)
  pub dc : TableOk 0 s r.start (dc_at r c)
  pub ac : TableOk 1 s r.start (ac_at r c)

pub tables_stand : (s : List ℕ) (colour : Bool) (r : Record) → header s colour ≡ done r → (k : ℕ) → Stands s r (channel_of (shape_of r.frame) k)
tables_stand s colour r e k =
    record {
      quant = places_at _ r.tables.quants (get_or r.frame.qids c 0) q.quants (ltb→lt 0 _ (and_left (ltb 0 (quant_at r c)) _ there));
      dc = places_at _ r.tables.dcs (get_or r.dcids c 0) q.dcs (ltb→lt 0 _ (and_left (ltb 0 (dc_at r c)) (ltb 0 (ac_at r c)) (and_right (ltb 0 (quant_at r c)) _ there)));
      ac = places_at _ r.tables.acs (get_or r.acids c 0) q.acs (ltb→lt 0 _ (and_right (ltb 0 (dc_at r c)) (ltb 0 (ac_at r c)) (and_right (ltb 0 (quant_at r c)) _ there)));
    }
  where
    c : ℕ
    c = channel_of (shape_of r.frame) k

    q : Ready s colour r
    q = header_ready s colour r e

    none : (n : ℕ) → 0 + n ≡ n
    none n = omega arith

    there : T (ltb 0 (quant_at r (channel_of (shape_of r.frame) k)) and ltb 0 (dc_at r (channel_of (shape_of r.frame) k)) and ltb 0 (ac_at r (channel_of (shape_of r.frame) k)))
    there =
        all_at (λ c. ltb 0 (quant_at r c) and ltb 0 (dc_at r c) and ltb 0 (ac_at r c)) r.frame.channels 0 q.whole
        (channel_of (shape_of r.frame) k) zero-le
        (subst (λ i. channel_of (shape_of r.frame) k < i) (channels_are r.frame ∙ sym (none r.frame.channels))
        (channel_in_lem (shape_of r.frame) k (per_some r.frame q.sampling)))

pub good_plan : (s : List ℕ) (colour : Bool) (r : Record) → header s colour ≡ done r → GoodPlan (plan_of s r)
good_plan s colour r e =
    record {
      dcs = λ k. good_table s r.start (dc_at r (channel_of (shape_of r.frame) k)) (header_within s colour r e) (tables_stand s colour r e k).dc;
      acs = λ k. good_table s r.start (ac_at r (channel_of (shape_of r.frame) k)) (header_within s colour r e) (tables_stand s colour r e k).ac;
    }
