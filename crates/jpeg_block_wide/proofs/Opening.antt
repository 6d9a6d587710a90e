-- A block by its first step: a fault, or a level at the first place, behind which the others are read.
use Prim.Native.Nat.{ℕ, ◌+◌, ◌*◌}
use mathlib.Core.Path.{◌≡◌, refl, sym, ◌∙◌, ap, subst}
use mathlib.Core.Bool.{Bool, true, false, cond}
use mathlib.Core.List.{List}
use native.Mathlib.Omega.{arith}
use lib.Dec.{lit<}
use lib.IntN.{ℤ, ◌+ℤ◌}
use lib.ListN.{set}
use Rattle.reading.specs.declared.Bits.{Bits}
use Rattle.reading.specs.declared.Fault.{Fault}
use Rattle.std.specs.Prelude.{Result, Ok, Err}
use Rattle.reading.specs.declared.BlockRead.{BlockRead}
use Rattle.reading.specs.Reader.{Read, got, fault, onward, rule, give}
use Rattle.reading.specs.Bits.{one, amplitude}
use Rattle.reading.specs.Huffman.{table_at, symbol}
use Rattle.reading.specs.Block.{value, wrong, dc_taken, zeros, predictable}
use Rattle.jpeg_block.specs.Step.{ask_at, Step, ends, skips, puts, step_read, level_at, value_at, step_for, stepped}
use Rattle.jpeg_block.proofs.Remaining.{begun, stopped}
use Rattle.jpeg_bits_wide.specs.declared.Wide.{Wide}
use Rattle.jpeg_bits_wide.specs.Cursor.{Meets}
use Rattle.jpeg_huffman_table.specs.Looks.{looked}
use Rattle.jpeg_block.specs.declared.Step as code
use Rattle.jpeg_block.specs.declared.Step.TheVariants.{End, Skip, Put}
use Rattle.jpeg_block_wide.specs.Blocks.{Looks, Tabled, part_of, Agree, FirstMeets, RestMeets, BlockMeets, Promised}
use Rattle.jpeg_block_wide.proofs.Looking.{part_looks}
use Rattle.jpeg_block_wide.proofs.Going.{alike_stopped}
use Rattle.jpeg_block_wide.proofs.Hearing.{promised}

-- the first step only puts a level at the first place
abbrev AtFirst : Read Bits Step → Type 0
AtFirst (got ends b) = ⊥
AtFirst (got skips b) = ⊥
AtFirst (got (puts at z) b) = at ≡ 0
AtFirst (fault f) = Unit {0}

first_leads : (t s : List ℕ) (dc : ℕ) (p : ℤ) (b : Bits) → AtFirst (stepped (one s) (table_at t dc) 0 p b)
unfolding stepped ask_at value_at
first_leads t s dc p b = go (symbol (one s) (table_at t dc) b)
  where
    level : (u : Bool) (z : ℤ) (q : Bits) → AtFirst (onward (rule u q) (λ _. give (puts 0 z)))
    level true z q = refl
    level false z q = tt

    valued : (o : Read Bits ℤ) → AtFirst (onward o (level_at 0 p))
    valued (got v q) = level (predictable (p +ℤ v)) (p +ℤ v) q
    valued (fault f) = tt

    category : (u : Bool) (x : ℕ) (q : Bits) → AtFirst (step_for (one s) 0 p (cond u (value 0 x) wrong) q)
    category true x q = valued (amplitude (one s) x q)
    category false x q = tt

    go : (o : Read Bits ℕ) → AtFirst (onward o (λ x. step_for (one s) 0 p (ask_at 0 x)))
    go (got x q) = category (dc_taken x) x q
    go (fault f) = tt

module _
    (t : List ℕ) (dc ac : ℕ) (look : List ℕ) (c : ℕ) (s : List ℕ) (from : Wide) (p : ℤ) {n : ℕ} (part : n ≡ part_of c)
    (r : Result (code.Step Wide) Fault) (h : FirstMeets t dc look n s from p r) where
  agrees : Tabled t dc ac look c → (b : Bits) → Meets s b from → Agree s (stepped (one s) (table_at t dc) 0 p b) (step_read r)
  agrees tabled b m = h looks b m
    where
      none : (k : ℕ) → k ≡ k + 0
      none k = omega arith

      looks : Looks true (table_at t dc) look n
      looks acc fits =
          ap (λ k. looked 9 look k acc) (part ∙ none (part_of c)) ∙ part_looks look c 0 acc ∙ ap (λ k. looked 9 look k acc) (sym (none (1024 * c)))
          ∙ tabled.firsts acc fits

  at_first :
      {x : code.Step Wide}
      → r ≡ Ok x
      → Tabled t dc ac look c
      → (b : Bits)
      → Meets s b from
      → Agree s (stepped (one s) (table_at t dc) 0 p b) (step_read (Ok x))
  at_first e tabled b m = subst (λ y. Agree s (stepped (one s) (table_at t dc) 0 p b) (step_read y)) e (agrees tabled b m)

  -- a fault
  stopped_meets : {f : Fault} → r ≡ Err f → (levels : List ℤ) → BlockMeets t dc ac look c s from p (Err f) levels
  unfolding BlockMeets
  stopped_meets e levels tabled b m =
      alike_stopped s levels
      (stopped (begun t s dc ac p b) (lit< tt) {base = dc} refl
      (subst (λ y. Agree s (stepped (one s) (table_at t dc) 0 p b) (step_read y)) e (agrees tabled b m)))

  pub block_stopped : {f : Fault} → r ≡ Err f → (levels : List ℤ) → Promised t dc ac look c s from p (Err f) levels
  block_stopped {f} e levels = promised t dc ac look c s from p (Err f) levels (stopped_meets e levels)

  -- neither the end nor 16 zeros come first
  never_meets :
      (z : code.Step Wide)
      → r ≡ Ok z
      → ((at : ℕ) (l : ℤ) (q : Wide) → z ≡ Put at l q → ⊥)
      → (x : Result (BlockRead Wide) Fault) (levels : List ℤ)
      → BlockMeets t dc ac look c s from p x levels
  unfolding BlockMeets
  never_meets (End q) e other x levels tabled b m = absurd (subst AtFirst (at_first e tabled b m).is (first_leads t s dc p b))
  never_meets (Skip q) e other x levels tabled b m = absurd (subst AtFirst (at_first e tabled b m).is (first_leads t s dc p b))
  never_meets (Put at l q) e other x levels tabled b m = absurd (other at l q refl)

  pub block_never :
      (z : code.Step Wide)
      → r ≡ Ok z
      → ((at : ℕ) (l : ℤ) (q : Wide) → z ≡ Put at l q → ⊥)
      → (x : Result (BlockRead Wide) Fault) (levels : List ℤ)
      → Promised t dc ac look c s from p x levels
  block_never z e other x levels = promised t dc ac look c s from p x levels (never_meets z e other x levels)

  -- behind the first level
  module _
      {at : ℕ} {z : ℤ} {q : Wide} (e : r ≡ Ok (Put at z q)) {before : List ℤ} (x : Result (BlockRead Wide) Fault) (levels : List ℤ)
      (first : before ≡ set (zeros 64) 0 z) (rest : RestMeets t ac look (n + 512) s q before x levels) where
    goes_meets : BlockMeets t dc ac look c s from p x levels
    unfolding BlockMeets
    goes_meets tabled b m =
        let a = at_first e tabled b m in
        let none : at ≡ 0 = subst AtFirst a.is (first_leads t s dc p b) in
        rest (record {
          dc = dc;
          p = p;
          z = z;
          b = b;
          here = a.behind;
          read = a.is ∙ ap (λ k. got (puts k z) a.behind) none;
          first = first;
          meets = a.meets;
          looks = λ acc fits. ap (λ k. looked 9 look (k + 512) acc) part ∙ part_looks look c 512 acc ∙ tabled.laters acc fits;
        })

    pub block_goes : Promised t dc ac look c s from p x levels
    block_goes = promised t dc ac look c s from p x levels goes_meets
