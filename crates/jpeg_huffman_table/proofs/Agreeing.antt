-- The plain walk and the rules' reader over the bits to come find the same symbol.
use Prim.Native.Nat.{ℕ, zero, suc, ◌+◌, ◌*◌, ◌-◌, ◌/◌, ◌^◌, ◌<◌, ◌≤◌}
use mathlib.Core.Path.{◌≡◌, refl, subst}
use mathlib.Core.Bool.{Bool, true, false, cond}
use mathlib.Core.Logic.{inl, inr, ⊎_elim}
use mathlib.Core.List.{List, [], ◌∷◌}
use native.Mathlib.Omega.{arith}
use lib.Dec.{ltb}
use lib.ListN.{length, get_or, take, length-take, drop}
use Rattle.std.specs.Prelude.{Result, Ok, Err}
use Rattle.reading.specs.declared.Fault.{Fault}
use Rattle.reading.specs.Reader.{Read, got, fault, Reader, give}
use Rattle.reading.specs.Huffman.{Table, table_at, sum, code_from, symbol}
use Rattle.reading.specs.Code.Coming.{Plain, pop}
use Rattle.reading.proofs.Readings.{Two, two}
use Rattle.reading.proofs.Same.{Alike, onward_alike}
use Rattle.reading.proofs.FileBytes.{AllBytes, byte_below, all_bytes, bytes_take, bytes_drop}
use Rattle.jpeg_bits_wide.specs.declared.Wide.{Wide}
use Rattle.jpeg_bits_wide.specs.Cursor.{Proper, to_come, filled, bit, taken}
use Rattle.jpeg_bits_wide.proofs.Coming.{Bared, Enough, filled_ready, taken_proper}
use Rattle.jpeg_bits_wide.proofs.Meeting.{Stands, alike_map}
use Rattle.jpeg_bits_wide.proofs.Ending.{none_left, bit_none, bit_there, pop_there}
use Rattle.jpeg_huffman_table.specs.Symbols.{told, plainly}

-- a proper cursor, what is to come there, and so many bits
abbrev pub Holds : List ℕ → ℕ → Wide → Plain → Type 0
Holds s n w p = Stands s w p × Enough s n w

-- a code takes a bit for each count at most
pub codes_hold :
    (s : List ℕ) (m : ℕ) (cs : List ℕ) (v f index : ℕ) (w : Wide)
    → Proper w
    → Enough s (length cs + m) w
    → Alike (Holds s m) (code_from (bit s) cs v f index w) (code_from pop cs v f index (to_come s w))
codes_hold s m [] v f index w p h = refl
codes_hold s m (c ∷ cs) v f index w p h = go w.left refl (codes_hold s m cs)
  where
    go :
        (n : ℕ)
        → w.left ≡ n
        → ((v f index : ℕ) (w : Wide) → Proper w → Enough s (length cs + m) w → Alike (Holds s m) (code_from (bit s) cs v f index w) (code_from pop cs v f index (to_come s w)))
        → Alike (Holds s m) (code_from (bit s) (c ∷ cs) v f index w) (code_from pop (c ∷ cs) v f index (to_come s w))
    go zero e ih = rw (bit_none s w e, none_left s w bared e) refl
      where
        bared : Bared s w.at
        bared = ⊎_elim (λ l. absurd (over l e)) (λ b. b) h
          where
            over : suc (length cs) + m ≤ w.left → w.left ≡ 0 → ⊥
            over a b = omega arith
    go (suc n) e ih = rw (bit_there s w some, pop_there s w p more) (test (ltb (2 * v + w.acc / 2 ^ 63) (2 * f + c)))
      where
        some : w.left ≡ 0 → ⊥
        some z = omega arith

        more : 0 < w.left
        more = omega arith

        rest : Enough s (length cs + m) (taken 1 w)
        rest = ⊎_elim (λ l. inl (less l)) inr h
          where
            less : suc (length cs) + m ≤ w.left → length cs + m ≤ w.left - 1
            less a = omega arith

        fewer : Enough s m (taken 1 w)
        fewer = ⊎_elim (λ l. inl (less l)) inr rest
          where
            less : length cs + m ≤ w.left - 1 → m ≤ w.left - 1
            less a = omega arith

        test :
            (t : Bool)
            → Alike (Holds s m)
            (cond t (give (index + (2 * v + w.acc / 2 ^ 63 - 2 * f))) (code_from (bit s) cs (2 * v + w.acc / 2 ^ 63) (2 * f + c) (index + c)) (taken 1 w))
            (cond t (give (index + (2 * v + w.acc / 2 ^ 63 - 2 * f))) (code_from pop cs (2 * v + w.acc / 2 ^ 63) (2 * f + c) (index + c)) (to_come s (taken 1 w)))
        test true = (refl, ((refl, taken_proper p 1 more), fewer))
        test false = ih (2 * v + w.acc / 2 ^ 63) (2 * f + c) (index + c) (taken 1 w) (taken_proper p 1 more) rest

pub symbol_holds :
    (s : List ℕ) (m : ℕ) (t : Table) (w : Wide)
    → Proper w
    → Enough s (length t.counts + m) w
    → Alike (Holds s m) (symbol (bit s) t w) (symbol pop t (to_come s w))
unfolding symbol
symbol_holds s m t w p h =
    onward_alike (Holds s m) (code_from (bit s) t.counts 0 0 0 w) (code_from pop t.counts 0 0 0 (to_come s w)) _ _
    (codes_hold s m t.counts 0 0 0 w p h) (λ i u q r. (refl, r))

pub symbol_stands :
    (s : List ℕ) (t : Table) (w : Wide)
    → Proper w
    → Enough s (length t.counts) w
    → Alike (Stands s) (symbol (bit s) t w) (symbol pop t (to_come s w))
symbol_stands s t w p h =
    alike_map (Holds s 0) (Stands s) (λ u q r. r.0) (symbol (bit s) t w) (symbol pop t (to_come s w))
    (symbol_holds s 0 t w p (⊎_elim (λ l. inl (omega (arith, l))) inr h))

-- a table of a file has at most sixteen counts
pub few_counts : (t : List ℕ) (base : ℕ) → length (table_at t base).counts ≤ 16
few_counts t base = rw (length-take 16 (drop base t)) (omega arith)

-- a table of bytes has symbols below 256
pub table_bytes : (t : List ℕ) (base : ℕ) → ((i : ℕ) → get_or t i 0 < 256) → AllBytes (table_at t base).symbols
table_bytes t base h = bytes_take (sum (take 16 (drop base t))) (drop (base + 16) t) (bytes_drop (base + 16) t (all_bytes t h))

-- ---- the answer

-- what an answer says
abbrev pub symbol_said : Result (ℕ × Wide) Fault → Read Wide ℕ
symbol_said (Ok (x, q)) = got x q
symbol_said (Err f) = fault f

pub symbol_byte : {S : Type 0} (next : Reader S ℕ) (t : Table) → AllBytes t.symbols → (w q : S) (x : ℕ) → symbol next t w ≡ got x q → x < 256
unfolding symbol
symbol_byte next t bytes w q x e = from (two (code_from next t.counts 0 0 0 w) (λ i. give (get_or t.symbols i 0)) x q e)
  where
    from : Two (code_from next t.counts 0 0 0 w) (λ i. give (get_or t.symbols i 0)) x q → x < 256
    from r = subst (λ k. k < 256) (value r.snd) (byte_below t.symbols bytes r.val)
      where
        value : got (get_or t.symbols r.val 0) r.at ≡ got x q → get_or t.symbols r.val 0 ≡ x
        value g = cc

-- `plain` answers what the rules' reader finds in what is to come; behind the code 41 bits are there, or all that come
pub plain_agrees :
    (s : List ℕ)
    → AllBytes s
    → (t : Table)
    → length t.counts ≤ 16
    → (w : Wide)
    → Proper w
    → Alike (Holds s 41) (symbol_said (plainly t s w)) (symbol pop t (to_come s w))
unfolding plainly
plain_agrees s bytes t few w p =
    let r = filled_ready s bytes w p in
    subst (λ q. Alike (Holds s 41) (symbol_said (plainly t s w)) (symbol pop t q)) r.still.same
    (go (symbol (bit s) t (filled s w))
    (symbol_holds s 41 t (filled s w) r.still.proper (⊎_elim (λ l. inl (omega (arith, l, few))) inr r.enough)))
  where
    go :
        (a : Read Wide ℕ)
        → Alike (Holds s 41) a (symbol pop t (to_come s (filled s w)))
        → Alike (Holds s 41) (symbol_said (told a)) (symbol pop t (to_come s (filled s w)))
    go (got x q) h = h
    go (fault c) h = h
