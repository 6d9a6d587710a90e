-- Clauses of the source's contracts that ours imply through a short argument, one lemma each, under the source's function.
-- Our contracts are equations with definitions, so each lemma speaks of a definition.
use Prim.Native.Nat.{ℕ, ◌+◌, ◌*◌, ◌^◌, ◌<◌, ◌≤◌}
use mathlib.Core.Path.{◌≡◌, sym, ap, ◌∙◌, subst}
use mathlib.Core.Logic.{⊎_elim}
use mathlib.Core.Bool.{Bool}
use mathlib.Core.List.{List}
use native.Mathlib.Omega.{arith}
use native.Mathlib.Nat.{lt_of_lt_of_le}
use lib.Pow.{pow_mono}
use lib.IntN.{ℤ, pos, nat_abs, ◌*ℤ◌}
use lib.Signed.{mag}
use lib.ListN.{length, get_or}
use Rattle.whole.specs.Expressions.{Within}
use Rattle.reading.specs.declared.Bits.{Bits}
use Rattle.reading.specs.declared.Budget.{Budget}
use Rattle.reading.specs.declared.Limits.{Limits}
use Rattle.reading.specs.declared.Record.{Record}
use Rattle.reading.specs.declared.Refusal.{Refusal}
use Rattle.std.specs.declared.result.Result.TheVariants.{Ok, Err}
use Rattle.reading.specs.Reader.{got, Reader}
use Rattle.reading.specs.Bits.{one, file, field, amplitude}
use Rattle.reading.specs.Huffman.{Table}
use Rattle.reading.specs.Block.{block}
use Rattle.reading.specs.Scan.{Plan, Cursor, whole, read_on, levels}
use Rattle.reading.specs.Transform.{coefficients, line, sample_of, samples}
use Rattle.reading.specs.Calls.{header_price, inspect, decode}
use Rattle.reading.proofs.FileBytes.{AllBytes, byte_below}
use Rattle.reading.proofs.Inside.{Stands, Keeps, keeps_field, keeps_amplitude, Inside, one_inside, From, one_onward, block_inside, blocks_inside}
use Rattle.reading.proofs.FineRead.{file_bits, field_below, amplitude_below}
use Rattle.reading.proofs.BlockLevels.{small_within, block_small, block_long}
use Rattle.reading.proofs.Zigzag as zigzag
use Rattle.reading.proofs.DoubleSum.{sum_of, basis_at, double_sum, line_sum, line_small, sample_at, length_samples, sample_small}
use Rattle.reading.proofs.States.{Fit, header_fits}
use Rattle.reading.proofs.Judgement.{inspect_accepted, inspect_most}
use Rattle.reading.proofs.Decodings.{decode_accepted, decode_refused, decode_taken, decode_lengths}
use Rattle.reading.proofs.Reasons.{blocks, forget_on, blocks_forget}

-- what a reader keeps holds behind what it gave
stays : {A : Type 0} (P : Bits → Type 0) (m : Reader Bits A) → Keeps P m → (b c : Bits) (a : A) → P b → m b ≡ got a c → P c
stays P m k b c a h e = subst (Stands P) e (k.kept b h)

module _ (s : List ℕ) (b c : Bits) where
  -- ---- bit

  -- the bit is 0 or 1
  pub bit_two : (x : ℕ) → one s b ≡ got x c → x < 2
  bit_two x e = file_bits s b c x e

  -- the new cursor is valid
  pub bit_valid : (x : ℕ) → Inside s b → one s b ≡ got x c → Inside s c
  bit_valid x h e = stays (Inside s) (one s) (one_inside s) b c x h e

  -- and never stands before the old one
  pub bit_onward : (x : ℕ) → one s b ≡ got x c → b.at ≤ c.at
  bit_onward x e = (stays (From b.at) (one s) (one_onward s b.at) b c x (record { place = omega arith }) e).place

  -- ---- read

  -- the new cursor is valid
  pub read_valid : (n v : ℕ) → Inside s b → field (one s) n b ≡ got v c → Inside s c
  unfolding field
  read_valid n v h e = stays (Inside s) (field (one s) n) (keeps_field (Inside s) (one s) (one_inside s) n 0) b c v h e

  -- the value is below 2 to the n
  pub read_below : (n v : ℕ) → field (one s) n b ≡ got v c → v < 2 ^ n
  unfolding field
  read_below n v e = field_below (one s) (file_bits s) n b c v e

  -- ---- amplitude

  -- the new cursor is valid
  pub amplitude_valid : (n : ℕ) (z : ℤ) → Inside s b → amplitude (one s) n b ≡ got z c → Inside s c
  amplitude_valid n z h e = stays (Inside s) (amplitude (one s) n) (keeps_amplitude (Inside s) (one s) (one_inside s) n) b c z h e

  -- the number of at most 11 bits lies in -2047..2047
  pub amplitude_near : (n : ℕ) (z : ℤ) → n ≤ 11 → amplitude (one s) n b ≡ got z c → nat_abs z < 2048
  amplitude_near n z h e = lt_of_lt_of_le (amplitude_below (one s) (file_bits s) n b c z e) (pow_mono {i = n} {j = 11} h)

  -- ---- block

  module _ (dc ac : Table) (p : ℤ) (l : List ℤ) (e : block (one s) dc ac p b ≡ got l c) where
    -- the cursor is valid
    pub block_valid : Inside s b → Inside s c
    block_valid h = stays (Inside s) (block (one s) dc ac p) (block_inside s dc ac p) b c l h e

    -- the block is done: it has 64 levels
    pub block_done : length l ≡ 64
    block_done = block_long s dc ac p b e

    -- the prediction, its first level, lies in -2048..2047, and so does every other
    pub block_levels : (k : ℕ) → mag (get_or l k (pos 0)) < 2048
    block_levels k = (block_small s dc ac p b e).each k

    -- each coefficient, by a quantizer of bytes, lies within 522240 of 0
    pub block_coefficients : (q : List ℕ) → AllBytes q → Within 522240 (coefficients q l)
    block_coefficients q y = zigzag.coefficients_small q l 2048 255 (small_within l (block_small s dc ac p b e)).each (λ k. omega (arith, byte_below q y k))

  -- ---- next

  -- behind blocks, and the restarts before them, the cursor is valid
  pub next_valid : (p : Plan) (n : ℕ) (q e : Cursor Bits) (ls : List (List ℤ)) → Inside s q.bits → read_on (file s) p n q ≡ whole ls e → Inside s e.bits
  next_valid p n q e ls h k =
      stays (Inside s) (blocks (file s) p n q.done q.predictors) (blocks_inside s p n q.done q.predictors) q.bits e.bits ls h
      (sym (blocks_forget (file s) p n q) ∙ ap forget_on k)

-- ---- transform

-- each of the eight results is the whole sum of eight products
pub transform_sum : (f : ℕ → ℤ) (x : ℕ) → line f x ≡ sum_of 8 (λ u. f u *ℤ basis_at x u)
transform_sum f x = line_sum f x

-- and lies within 131072 x limit of 0
pub transform_small : (f : ℕ → ℤ) (limit : ℕ) → ((u : ℕ) → nat_abs (f u) ≤ limit) → (x : ℕ) → nat_abs (line f x) ≤ limit * 131072
transform_small f limit h x = line_small f limit h x

-- ---- idct

-- each of the 64 results is the sample of the double sum at its place
pub idct_sample : (l : List ℤ) (y x : ℕ) → y < 8 → x < 8 → get_or (samples l) (8 * y + x) 0 ≡ sample_of (double_sum l y x)
idct_sample l y x h k = sample_at l y x h k

-- there are 64 of them, each a byte
pub idct_bytes : (l : List ℤ) → (length (samples l) ≡ 64) × ((k : ℕ) → get_or (samples l) k 0 < 256)
idct_bytes l = (length_samples l, λ k. sample_small l k)

-- ---- inspect_jpeg

-- a record as the source's `well_formed` has it: what the header's rules give, and a scan that is read to its end
pub record WellFormed (s : List ℕ) (colour : Bool) (r : Record) : Type 0 where
  pub fit : Fit s colour r
  pub levels_read : List (List ℤ)
  pub behind : Bits
  pub read : levels s r ≡ whole levels_read behind

module _ (s : List ℕ) (y : AllBytes s) (colour : Bool) (l : Limits) (budget : Budget) where
  -- on success the segment is well formed
  pub inspect_formed : (inspect s colour l budget).verdict ≡ Ok tt → WellFormed s colour (inspect s colour l budget).found
  inspect_formed e =
      let a = inspect_accepted s colour l budget e in
      record { fit = header_fits s colour y _ a.head; levels_read = a.blocks; behind = a.behind; read = a.scan }

  -- and 2n + 1 and its work were there to be taken
  pub inspect_paid : (inspect s colour l budget).verdict ≡ Ok tt → header_price s + (inspect s colour l budget).found.work ≤ budget.left
  inspect_paid e = (inspect_accepted s colour l budget e).enough.price

  -- the budget does not grow
  pub inspect_budget : (inspect s colour l budget).budget.left ≤ budget.left
  inspect_budget = (inspect_most s colour l budget y).0

-- ---- decode_with_scratch

module _ (s : List ℕ) (r : Record) (out scratch : List ℕ) (budget : Budget) where
  -- output and scratch keep their lengths
  pub decode_keeps : AllBytes s → (length (decode s r out scratch budget).output ≡ length out) × (length (decode s r out scratch budget).scratch ≡ length scratch)
  decode_keeps y = decode_lengths s r out scratch budget y

  -- the budget does not grow: the whole price is taken, or nothing
  pub decode_budget : (decode s r out scratch budget).answer.budget.left ≤ budget.left
  decode_budget = ⊎_elim (λ e. subst (λ (a : Budget). (decode s r out scratch budget).answer.budget.left ≤ a.left) e (omega arith)) (λ p. subst (λ (a : Budget). a.left ≤ budget.left) (sym p.1) (omega arith)) (decode_taken s r out scratch budget)

  -- on success the output, the scratch and the budget suffice
  pub decode_only : (decode s r out scratch budget).answer.verdict ≡ Ok tt → (r.output ≤ length out) × (r.scratch ≤ length scratch) × (header_price s + r.work ≤ budget.left)
  decode_only e = let d = decode_accepted s r out scratch budget e in (d.room.0, d.room.1, d.paid)

  -- a refusal changes no byte of output and scratch
  pub decode_leaves : (x : Refusal) → (decode s r out scratch budget).answer.verdict ≡ Err x → ((decode s r out scratch budget).output ≡ out) × ((decode s r out scratch budget).scratch ≡ scratch)
  decode_leaves x e = let d = decode_refused s r out scratch budget x e in (d.output, d.scratch_is)
