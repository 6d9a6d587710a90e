-- How long a settled scan can be. What is written of a block has at most 16 bits more than what was read of it: every code that is
-- written is that of a symbol that was read, and no longer than the one that was read (a table that no header read may have two); only an
-- end code may come new. So a settled scan has at most twice the bytes from the first coded byte to the end of the file, and 4 bytes for each block.
use Prim.Native.Nat.{ℕ, zero, suc, ◌+◌, ◌*◌, ◌-◌, ◌/◌, ◌%◌, ◌^◌, ◌<◌, ◌≤◌}
use mathlib.Core.Path.{◌≡◌, refl, sym, ap, ◌∙◌, subst, subst⁻¹}
use mathlib.Core.Bool.{Bool, true, false, cond}
use mathlib.Core.List.{List, [], ◌∷◌, ◌++◌}
use mathlib.Core.Option.{Option, none, some}
use native.Mathlib.Omega.{arith}
use native.Mathlib.Nat.{le_trans}
use lib.Dec.{T, eqb, ltb, leb, leb→le}
use lib.IntN.{ℤ, pos, nat_abs, ◌+ℤ◌, ◌-ℤ◌}
use lib.ListN.{length, get_or, set, take, drop, length-append, length-take}
use borrow.Author.Tests.{lt-ltb, ltb-true, ltb-false, eqb-true, eqb-false}
use Rattle.reading.specs.declared.Bits.{Bits}
use Rattle.reading.specs.declared.Record.{Record}
use Rattle.reading.specs.Reader.{Read, got, fault, Reader, onward, ◌>>=◌, ◌>>◌, give, rule}
use Rattle.reading.specs.Bits.{one, file, mark, field_from, field, amplitude, first_bit}
use Rattle.reading.specs.Huffman.{Table, table_at, bits_of, code_from, symbol, code_at, code_at_place, code_of}
use Rattle.reading.specs.Block.{Ask, end, skip, value, wrong, asked, answered, zeros, rest, first, block, predictable}
use Rattle.reading.specs.Layout.{channel_of, restart_due, restart_code}
use Rattle.reading.proofs.Restarts.{ahead_is}
use Rattle.reading.specs.Scan.{Channel, Plan, plan_of, closed, whole, levels, no_predictors}
use Rattle.reading.specs.Settled.{Written, ◌then◌, size, size_from, field_of, value_bits, skips, level_bits, rest_bits, first_bits, block_bits, stuffed, padding, pack_next, pack_from, packed, Coded, bytes_of, onto, cut, predictors, written, scan_bytes, settled_scan}
use Rattle.reading.specs.Tables.{dc_at, ac_at}
use Rattle.reading.specs.Tests.{place_of, place_from}
use Rattle.reading.proofs.FileBytes.{AllBytes, byte_below, bytes_take}
use Rattle.reading.proofs.Inside.{Stands, one_leads}
use Rattle.reading.proofs.Marks.{Looked, found, missed, mark_looked, Ended, ended, unended, closed_ended}
use Rattle.reading.proofs.Unstuffed.{length_bits_of}
use Rattle.reading.proofs.Written.{absurd_some}
use Rattle.reading.proofs.FineRead.{minus, file_bits, from}
use Rattle.reading.proofs.WantOfCode.{amplitude_size, zeros_run, table_bytes}
use Rattle.reading.proofs.Taken.{Says, asked_says}
use Rattle.reading.proofs.Reasons.{blocks, scan, plainly}

-- ---- how many bits are written

-- at most n bits, where any are written
abbrev pub UpTo : ℕ → Written → Type 0
UpTo n none = Unit {0}
UpTo n (some w) = length w ≤ n

pub up_then : (m n : ℕ) (a b : Written) → UpTo m a → UpTo n b → UpTo (m + n) (a then b)
up_then m n none b h l = tt
up_then m n (some v) none h l = tt
up_then m n (some v) (some w) h l = omega (arith, length-append v w)

pub up_wide : (m n : ℕ) (w : Written) → m ≤ n → UpTo m w → UpTo n w
up_wide m n none l h = tt
up_wide m n (some w) l h = le_trans h l

-- a code is as long as there are lengths, at most
code_length : (cs : List ℕ) (len f i : ℕ) → length (code_at cs len f i) ≤ len + length cs
code_length [] len f i = omega arith
code_length (c ∷ cs) len f i = go (ltb i c) (code_length cs (suc len) (2 * f + c) (i - c))
  where
    go : (t : Bool) → length (code_at cs (suc len) (2 * f + c) (i - c)) ≤ suc len + length cs
        → length (cond t (bits_of (suc len) (2 * f + i)) (code_at cs (suc len) (2 * f + c) (i - c))) ≤ len + suc (length cs)
    go true h = omega (arith, length_bits_of (suc len) (2 * f + i))
    go false h = omega arith

-- a table with counts of at most 16 lengths
pub code_few : (t : Table) → length t.counts ≤ 16 → (x : ℕ) → UpTo 16 (code_of t x)
unfolding code_of
code_few t h x = go (place_of t.symbols x)
  where
    go : (o : Option ℕ) → UpTo 16 (code_at_place t o)
    go none = tt
    go (some i) = omega (arith, h, code_length t.counts 0 0 i)

-- ---- what reading gives

-- Q holds of what is read and the place behind it
abbrev Gives : {A : Type 0} → (A → Bits → Type 0) → Read Bits A → Type 0
Gives Q (got a t) = Q a t
Gives Q (fault f) = Unit {0}

gives : {A : Type 0} (Q : A → Bits → Type 0) (x : Read Bits A) → ((a : A) (t : Bits) → x ≡ got a t → Q a t) → Gives Q x
gives Q (got a t) h = h a t refl
gives Q (fault f) h = tt

given : {A : Type 0} (Q : A → Bits → Type 0) (x : Read Bits A) → Gives Q x → (a : A) (t : Bits) → x ≡ got a t → Q a t
given Q x h a t e = subst (Gives Q) e h

gives_also : {A : Type 0} (Q R : A → Bits → Type 0) (x : Read Bits A)
    → Gives Q x → ((a : A) (t : Bits) → Q a t → R a t) → Gives R x
gives_also Q R (got a t) q h = h a t q
gives_also Q R (fault f) q h = tt

gives_then : {A B : Type 0} (Q : A → Bits → Type 0) (R : B → Bits → Type 0) (x : Read Bits A) (f : A → Reader Bits B)
    → Gives Q x → ((a : A) (t : Bits) → Q a t → Gives R (f a t)) → Gives R (onward x f)
gives_then Q R (got a t) f q h = h a t q
gives_then Q R (fault e) f q h = tt

gives_rule : {B : Type 0} (R : B → Bits → Type 0) (t : Bool) (f : Unit {0} → Reader Bits B) (b : Bits)
    → (T t → Gives R (f tt b)) → Gives R (onward (rule t b) f)
gives_rule R true f b h = h tt
gives_rule R false f b h = tt

-- ---- bits that were read

-- n bits or more were read from one place to another
record Ahead (n : ℕ) (b t : Bits) : Type 0 where
  far : 8 * b.at + t.left + n ≤ 8 * t.at + b.left

ahead_none : (b : Bits) → Ahead 0 b b
ahead_none b = record { far = omega arith }

ahead_then : (m n : ℕ) (b c t : Bits) → Ahead m b c → Ahead n c t → Ahead (m + n) b t
ahead_then m n b c t h l = record { far = omega (arith, h.far, l.far) }

module _ (s : List ℕ) where
  one_ahead : (b : Bits) → Gives (λ x t. Ahead 1 b t) (one s b)
  one_ahead b =
      go (one s b)
      (one_leads s (Ahead 0 b) (Ahead 1 b) (λ at byte n h. record { far = omega (arith, h.far) })
      (λ at byte x k h l r. record { far = omega (arith, h.far, l) }) b (ahead_none b))
    where
      go : (x : Read Bits ℕ) → Stands (Ahead 1 b) x → Gives (λ x t. Ahead 1 b t) x
      go (got a t) h = h
      go (fault f) h = tt

  field_ahead : (n v : ℕ) (b : Bits) → Gives (λ x t. Ahead n b t) (field_from (one s) n v b)
  field_ahead zero v b = ahead_none b
  field_ahead (suc n) v b =
      gives_then (λ x c. Ahead 1 b c) (λ x t. Ahead (suc n) b t) (one s b) _ (one_ahead b)
      (λ x c h. gives_also (λ y t. Ahead n c t) (λ y t. Ahead (suc n) b t) (field_from (one s) n (2 * v + x) c) (field_ahead n (2 * v + x) c)
      (λ y t l. record { far = omega (arith, h.far, l.far) }))

  -- a value that was read: its category, and at least as many bits
  amplitude_ahead : (n : ℕ) → n ≤ 12 → (b : Bits) → Gives (λ v t. Ahead n b t × (size v ≡ n)) (amplitude (one s) n b)
  unfolding amplitude field
  amplitude_ahead n h b =
      gives (λ v t. Ahead n b t × (size v ≡ n)) (amplitude (one s) n b)
      (λ v t e. (given (λ v t. Ahead n b t) (amplitude (one s) n b) long v t e, (amplitude_size (one s) (file_bits s) n b t v h e).0))
    where
      long : Gives (λ v t. Ahead n b t) (amplitude (one s) n b)
      long = gives_then (λ x t. Ahead n b t) (λ v t. Ahead n b t) (field_from (one s) n 0 b) _ (field_ahead n 0 b) (λ x t l. l)

  -- ---- a symbol

  -- the code at place i was read behind those before `index`: no code up to it is longer
  record Code (cs : List ℕ) (index i : ℕ) (b t : Bits) : Type 0 where
    bits : ℕ
    ahead : Ahead bits b t
    each : (len f k : ℕ) → index + k ≤ i → length (code_at cs len f k) ≤ len + bits

  code_ahead : (cs : List ℕ) (v f index : ℕ) → f ≤ v → (b : Bits) → Gives (λ i t. Code cs index i b t) (code_from (one s) cs v f index b)
  code_ahead [] v f index h b = tt
  code_ahead (c ∷ cs) v f index h b =
      gives_then (λ x u. Ahead 1 b u) (λ i t. Code (c ∷ cs) index i b t) (one s b) _ (one_ahead b)
      (λ x u l. go x u l (ltb (2 * v + x) (2 * f + c)) refl (λ g. code_ahead cs (2 * v + x) (2 * f + c) (index + c) g u))
    where
      go : (x : ℕ) (u : Bits) → Ahead 1 b u → (y : Bool) → ltb (2 * v + x) (2 * f + c) ≡ y
          → (2 * f + c ≤ 2 * v + x → Gives (λ i t. Code cs (index + c) i u t) (code_from (one s) cs (2 * v + x) (2 * f + c) (index + c) u))
          → Gives (λ i t. Code (c ∷ cs) index i b t)
          (cond y (give (index + (2 * v + x - 2 * f))) (code_from (one s) cs (2 * v + x) (2 * f + c) (index + c)) u)
      go x u l true e ih = record { bits = 1; ahead = l; each = short }
        where
          short : (len g k : ℕ) → index + k ≤ index + (2 * v + x - 2 * f) → length (code_at (c ∷ cs) len g k) ≤ len + 1
          short len g k p =
              let here : k < c = omega (arith, h, ltb-true (2 * v + x) (2 * f + c) e) in
              rw (lt-ltb k c here) (omega (arith, length_bits_of (suc len) (2 * g + k)))
      go x u l false e ih =
          gives_also (λ i t. Code cs (index + c) i u t) (λ i t. Code (c ∷ cs) index i b t) (code_from (one s) cs (2 * v + x) (2 * f + c) (index + c) u)
          (ih (ltb-false (2 * v + x) (2 * f + c) e)) more
        where
          more : (i : ℕ) (t : Bits) → Code cs (index + c) i u t → Code (c ∷ cs) index i b t
          more i t r =
              record { bits = 1 + r.bits; ahead = ahead_then 1 r.bits b u t l r.ahead; each = λ len g k p. test len g k p (ltb k c) refl }
            where
              test : (len g k : ℕ) → index + k ≤ i → (y : Bool) → ltb k c ≡ y
                  → length (cond y (bits_of (suc len) (2 * g + k)) (code_at cs (suc len) (2 * g + c) (k - c))) ≤ len + (1 + r.bits)
              test len g k p true q = omega (arith, length_bits_of (suc len) (2 * g + k))
              test len g k p false q =
                  let there : index + c + (k - c) ≤ i = omega (arith, ltb-false k c q, p) in
                  omega (arith, r.each (suc len) (2 * g + c) (k - c) there)

-- a symbol stands first at its place or before it
earliest : (ys : List ℕ) (i k j : ℕ) → place_from ys (get_or ys i 0) k ≡ some j → j ≤ k + i
earliest [] i k j e = absurd (absurd_some j e)
earliest (y ∷ ys) i k j e = go i (eqb (get_or (y ∷ ys) i 0) y) refl e (λ i e. earliest ys i (suc k) j e)
  where
    go : (i : ℕ) (t : Bool) → eqb (get_or (y ∷ ys) i 0) y ≡ t → cond t (some k) (place_from ys (get_or (y ∷ ys) i 0) (suc k)) ≡ some j
        → ((i : ℕ) → place_from ys (get_or ys i 0) (suc k) ≡ some j → j ≤ suc k + i) → j ≤ k + i
    go i true p f ih = let same : k ≡ j = cc in omega arith
    go zero false p f ih = absurd (eqb-false y y p refl)
    go (suc i) false p f ih = omega (arith, ih i f)

-- what was written against what was read: at most `extra` bits more
record Paid (extra : ℕ) (w : Written) (b t : Bits) : Type 0 where
  bits : ℕ
  ahead : Ahead bits b t
  fits : UpTo (bits + extra) w

paid_then : (m n : ℕ) (v w : Written) (b c t : Bits) → Paid m v b c → Paid n w c t → Paid (m + n) (v then w) b t
paid_then m n v w b c t h l =
    record {
      bits = h.bits + l.bits;
      ahead = ahead_then h.bits l.bits b c t h.ahead l.ahead;
      fits = up_wide (h.bits + m + (l.bits + n)) (h.bits + l.bits + (m + n)) (v then w) (omega arith)
          (up_then (h.bits + m) (l.bits + n) v w h.fits l.fits);
    }

value_paid : (v : ℤ) (n : ℕ) (b t : Bits) → Ahead n b t → size v ≡ n → Paid 0 (some (value_bits v)) b t
value_paid v n b t h e = record { bits = n; ahead = h; fits = omega (arith, length_bits_of (size v) (field_of (size v) v), e) }

module _ (s : List ℕ) (t : Table) (ab : AllBytes t.symbols) where
  symbol_paid : (b : Bits) → Gives (λ x u. Paid 0 (code_of t x) b u × (x < 256)) (symbol (one s) t b)
  unfolding symbol code_of
  symbol_paid b =
      gives_then (λ i u. Code s t.counts 0 i b u) (λ x u. Paid 0 (code_of t x) b u × (x < 256)) (code_from (one s) t.counts 0 0 0 b) _
      (code_ahead s t.counts 0 0 0 (omega arith) b)
      (λ i u r. (paid i u r, byte_below t.symbols ab i))
    where
      go : (i : ℕ) (u : Bits) (r : Code s t.counts 0 i b u) (o : Option ℕ)
          → place_of t.symbols (get_or t.symbols i 0) ≡ o → UpTo (r.bits + 0) (code_at_place t o)
      go i u r none e = tt
      go i u r (some j) e = omega (arith, r.each 0 0 j (omega (arith, earliest t.symbols i 0 j e)))

      paid : (i : ℕ) (u : Bits) → Code s t.counts 0 i b u → Paid 0 (code_of t (get_or t.symbols i 0)) b u
      paid i u r = record { bits = r.bits; ahead = r.ahead; fits = go i u r (place_of t.symbols (get_or t.symbols i 0)) refl }

-- ---- the later levels

module _ (s : List ℕ) (ac : Table) (ab : AllBytes ac.symbols) (few : length ac.counts ≤ 16) where
  -- what is written of levels that were read, behind q runs of 16 that were read before and have at most `debt` bits
  abbrev Later : List ℤ → Bits → Bits → Type 0
  Later l b t = (q debt : ℕ) → UpTo debt (skips (code_of ac) q) → Paid (debt + 16) (rest_bits (code_of ac) l (16 * q)) b t

  end_few : (run : ℕ) → UpTo 16 (rest_bits (code_of ac) [] run)
  end_few zero = omega arith
  end_few (suc run) = code_few ac few 0

  nothing_later : (n debt run : ℕ) → UpTo (n + (debt + 16)) (rest_bits (code_of ac) [] run)
  nothing_later n debt run = up_wide 16 (n + (debt + 16)) (rest_bits (code_of ac) [] run) (omega arith) (end_few run)

  later_nil : (b : Bits) → Later [] b b
  later_nil b q debt h = record { bits = 0; ahead = ahead_none b; fits = nothing_later 0 debt (16 * q) }

  not_zero : (v : ℤ) (n : ℕ) → 1 ≤ n → size v ≡ n → eqb (nat_abs v) 0 ≡ false
  not_zero v n h e = go (eqb (nat_abs v) 0) refl
    where
      go : (t : Bool) → eqb (nat_abs v) 0 ≡ t → t ≡ false
      go true p =
          let none : size v ≡ 0 = ap (size_from 12 0) (eqb-true (nat_abs v) 0 p) in
          let z : ⊥ = omega arith in
          absurd z
      go false p = refl

  module _ (x : ℕ) (byte : x < 256) (b c : Bits) (paid : Paid 0 (code_of ac x) b c) where
    -- an end
    later_end : (n : ℕ) → Later (zeros n) b c
    later_end n q debt h =
        record {
          bits = paid.bits;
          ahead = paid.ahead;
          fits = subst⁻¹ (λ o. UpTo (paid.bits + (debt + 16)) o) same (nothing_later paid.bits debt (16 * q + n));
        }
      where
        nil : (k : List ℤ) → k ++ [] ≡ k
        nil [] = refl
        nil (z ∷ k) = ap (λ y. z ∷ y) (nil k)

        same : rest_bits (code_of ac) (zeros n) (16 * q) ≡ rest_bits (code_of ac) [] (16 * q + n)
        same = ap (λ l. rest_bits (code_of ac) l (16 * q)) (sym (nil (zeros n))) ∙ zeros_run ac n [] (16 * q)

    -- 16 zeros
    later_skip : x ≡ 240 → (l : List ℤ) (t : Bits) → Later l c t → Later (zeros 16 ++ l) b t
    later_skip e l t r q debt h =
        record {
          bits = paid.bits + p.bits;
          ahead = ahead_then paid.bits p.bits b c t paid.ahead p.ahead;
          fits = subst⁻¹ (λ o. UpTo (paid.bits + p.bits + (debt + 16)) o) (zeros_run ac 16 l (16 * q) ∙ ap (rest_bits (code_of ac) l) more)
              (up_wide (p.bits + (paid.bits + 0 + debt + 16)) (paid.bits + p.bits + (debt + 16)) (rest_bits (code_of ac) l (16 * suc q)) (omega arith)
              p.fits);
        }
      where
        more : 16 * q + 16 ≡ 16 * suc q
        more = omega arith

        p : Paid (paid.bits + 0 + debt + 16) (rest_bits (code_of ac) l (16 * suc q)) c t
        p =
            r (suc q) (paid.bits + 0 + debt)
            (up_then (paid.bits + 0) debt (code_of ac 240) (skips (code_of ac) q) (subst (λ y. UpTo (paid.bits + 0) (code_of ac y)) e paid.fits) h)

    -- a run of zeros and a value
    later_value : (run n : ℕ) → run ≡ x / 16 → n ≡ x % 16 → 1 ≤ n → (v : ℤ) (d : Bits) → Ahead n c d → size v ≡ n
        → (l : List ℤ) (t : Bits) → Later l d t → Later (zeros run ++ v ∷ l) b t
    later_value run n hr hn least v d a hs l t r q debt h =
        subst⁻¹ (λ o. Paid (debt + 16) o b t)
        (zeros_run ac run (v ∷ l) (16 * q) ∙ ap (level_bits (code_of ac) (16 * q + run) v (rest_bits (code_of ac) l)) (not_zero v n least hs)) all
      where
        short : run < 16
        short = omega (arith, hr, byte)

        runs : (16 * q + run) / 16 ≡ q
        runs = omega (arith, short)

        code : 16 * ((16 * q + run) % 16) + size v ≡ x
        code = omega (arith, short, hs, hr, hn)

        before : Paid debt (skips (code_of ac) ((16 * q + run) / 16)) b b
        before =
            record {
              bits = 0;
              ahead = ahead_none b;
              fits = subst⁻¹ (λ k. UpTo (0 + debt) (skips (code_of ac) k)) runs (up_wide debt (0 + debt) (skips (code_of ac) q) (omega arith) h);
            }

        behind : Paid 16 (rest_bits (code_of ac) l 0) d t
        behind = r 0 0 (omega arith)

        own : Paid 0 (code_of ac (16 * ((16 * q + run) % 16) + size v)) b c
        own = subst⁻¹ (λ y. Paid 0 (code_of ac y) b c) code paid

        all : Paid (debt + 16) (level_bits (code_of ac) (16 * q + run) v (rest_bits (code_of ac) l) false) b t
        all =
            paid_then debt 16 (skips (code_of ac) ((16 * q + run) / 16)) _ b b t before
            (paid_then 0 16 (code_of ac (16 * ((16 * q + run) % 16) + size v)) (some (value_bits v) then rest_bits (code_of ac) l 0) b c t own
            (paid_then 0 16 (some (value_bits v)) (rest_bits (code_of ac) l 0) c d t (value_paid v n c d a hs) behind))

    answered_later : (place : ℕ) (m : ℕ → Reader Bits (List ℤ)) → ((i : ℕ) (d : Bits) → Gives (λ l t. Later l d t) (m i d))
        → (a : Ask) → Says place x a → Gives (λ l t. Later l b t) (answered (one s) place m a c)
    answered_later place m more end e = later_end (64 - place)
    answered_later place m more skip e =
        gives_then (λ l t. Later l c t) (λ l t. Later l b t) (m (place + 16) c) _ (more (place + 16) c) (λ l t r. later_skip e.0 l t r)
    answered_later place m more (value run n) e =
        gives_then (λ v d. Ahead n c d × (size v ≡ n)) (λ l t. Later l b t) (amplitude (one s) n c) _
        (amplitude_ahead s n (omega (arith, e.few)) c)
        (λ v d h. gives_then (λ l t. Later l d t) (λ l t. Later l b t) (m (place + run + 1) d) _ (more (place + run + 1) d)
        (λ l t r. later_value run n e.run_is e.size_is e.some v d h.0 h.1 l t r))
    answered_later place m more wrong e = tt

  rest_paid : (n place : ℕ) (b : Bits) → Gives (λ l t. Later l b t) (rest (one s) ac n place b)
  unfolding rest
  rest_paid zero place b = later_nil b
  rest_paid (suc n) place b = go (leb 64 place) (rest_paid n)
    where
      go : (y : Bool) → ((i : ℕ) (d : Bits) → Gives (λ l t. Later l d t) (rest (one s) ac n i d))
          → Gives (λ l t. Later l b t) (cond y (give []) (symbol (one s) ac >>= λ x. answered (one s) place (rest (one s) ac n) (asked place x)) b)
      go true ih = later_nil b
      go false ih =
          gives_then (λ x c. Paid 0 (code_of ac x) b c × (x < 256)) (λ l t. Later l b t) (symbol (one s) ac b) _ (symbol_paid s ac ab b)
          (λ x c h. answered_later x h.1 b c h.0 place (rest (one s) ac n) ih (asked place x) (asked_says place x))

-- ---- a block

-- tables of bytes, with counts of at most 16 lengths
pub record Tabled (t : Table) : Type 0 where
  pub bytes : AllBytes t.symbols
  pub few : length t.counts ≤ 16

module _ (s : List ℕ) (ch : Channel) (dc : Tabled ch.dc) (ac : Tabled ch.ac) where
  first_paid : (p : ℤ) (b : Bits) → Gives (λ v t. Paid 0 (first_bits (code_of ch.dc) (v -ℤ p)) b t) (first (one s) ch.dc p b)
  first_paid p b =
      gives_then (λ x c. Paid 0 (code_of ch.dc x) b c × (x < 256)) Q (symbol (one s) ch.dc b) _ (symbol_paid s ch.dc dc.bytes b)
      (λ x c h. gives_rule Q (leb x 11) _ c
      (λ few. gives_then (λ d t. Ahead x c t × (size d ≡ x)) Q (amplitude (one s) x c) _ (amplitude_ahead s x (omega (arith, leb→le x 11 few)) c)
      (λ d t l. gives_rule Q (predictable (p +ℤ d)) _ t
      (λ _. subst⁻¹ (λ z. Paid 0 (first_bits (code_of ch.dc) z) b t) (minus p d)
      (paid_then 0 0 (code_of ch.dc (size d)) (some (value_bits d)) b c t (subst⁻¹ (λ y. Paid 0 (code_of ch.dc y) b c) l.1 h.0)
      (value_paid d x c t l.0 l.1))))))
    where
      Q : ℤ → Bits → Type 0
      Q v t = Paid 0 (first_bits (code_of ch.dc) (v -ℤ p)) b t

  block_paid : (p : ℤ) (b : Bits) → Gives (λ l t. Paid 16 (block_bits ch p l) b t) (block (one s) ch.dc ch.ac p b)
  unfolding block
  block_paid p b =
      gives_then (λ v c. Paid 0 (first_bits (code_of ch.dc) (v -ℤ p)) b c) (λ l t. Paid 16 (block_bits ch p l) b t)
      (first (one s) ch.dc p b) _ (first_paid p b)
      (λ v c h. gives_then (λ l t. Later s ch.ac ac.bytes ac.few l c t) (λ l t. Paid 16 (block_bits ch p l) b t)
      (rest (one s) ch.ac 63 1 c) _ (rest_paid s ch.ac ac.bytes ac.few 63 1 c)
      (λ l t r. paid_then 0 16 (first_bits (code_of ch.dc) (v -ℤ p)) (rest_bits (code_of ch.ac) l 0) b c t h (r 0 0 (omega arith))))

-- ---- bytes

stuffed_length : (x : ℕ) (l : List ℕ) → length (stuffed x l) ≤ 2 + length l
stuffed_length x l = go (eqb x 255)
  where
    go : (t : Bool) → length (cond t (x ∷ 0 ∷ l) (x ∷ l)) ≤ 2 + length l
    go true = omega arith
    go false = omega arith

-- eight bits make at most two bytes, and so does what is left of them: m bits are missing to the first eight
pack_length : (bs : List ℕ) (v m : ℕ) → 0 < m → m ≤ 8 → length (pack_from bs v m) ≤ 2 * ((length bs + 15 - m) / 8)
pack_length [] v m a b = go (eqb m 8) refl
  where
    go : (t : Bool) → eqb m 8 ≡ t → length (padding v t m) ≤ 2 * ((0 + 15 - m) / 8)
    go true e = omega arith
    go false e =
        let n : m ≡ 8 → ⊥ = eqb-false m 8 e in
        omega (arith, stuffed_length (v * 2 ^ m + (2 ^ m - 1)) [])
pack_length (b ∷ bs) v m a h = go (eqb m 1) refl (pack_length bs)
  where
    go : (t : Bool) → eqb m 1 ≡ t → ((w n : ℕ) → 0 < n → n ≤ 8 → length (pack_from bs w n) ≤ 2 * ((length bs + 15 - n) / 8))
        → length (pack_next (2 * v + b) m (pack_from bs) t) ≤ 2 * ((suc (length bs) + 15 - m) / 8)
    go true e ih = omega (arith, eqb-true m 1 e, stuffed_length (2 * v + b) (pack_from bs 0 8), ih 0 8 (omega arith) (omega arith))
    go false e ih =
        let n : m ≡ 1 → ⊥ = eqb-false m 1 e in
        omega (arith, ih (2 * v + b) (m - 1) (omega arith) (omega arith))

pub packed_length : (bs : List ℕ) → length (packed bs) ≤ 2 * ((length bs + 7) / 8)
packed_length bs = omega (arith, pack_length bs 0 8 (omega arith) (omega arith))

-- ---- a scan

-- the bits of a part, and eight for every two bytes from its marker on
abbrev weight : Coded → ℕ
weight c = length c.bits + 8 * ((length c.after + 1) / 2)

bytes_weight : (c : Coded) → length (bytes_of c) ≤ 2 * ((weight c + 7) / 8)
bytes_weight c = omega (arith, packed_length c.bits, length-append (packed c.bits) c.after)

-- what is written of n blocks, read from one place to another, and of the end
abbrev Weighs : ℕ → Bits → Bits → Option Coded → Type 0
Weighs n b t none = Unit {0}
Weighs n b t (some c) = weight c + 8 * b.at ≤ 8 * (t.at + 2) + b.left + 16 * n

weighs_onto : (n : ℕ) (w : Written) (o : Option Coded) (b c t : Bits) → Paid 16 w b c → Weighs n c t o → Weighs (suc n) b t (onto w o)
weighs_onto n none o b c t h l = tt
weighs_onto n (some w) none b c t h l = tt
weighs_onto n (some w) (some x) b c t h l = omega (arith, h.fits, h.ahead.far, l, length-append w x.bits)

-- behind a marker, wherever reading goes on: not before its two bytes
weighs_cut : (n code on : ℕ) (o : Option Coded) (b t : Bits) → b.at + 2 ≤ on → Weighs n (first_bit on) t o → Weighs n b t (cut true code o)
weighs_cut n code on none b t a h = tt
weighs_cut n code on (some c) b t a h = omega (arith, h, bytes_weight c)

weighs_uncut : (n code : ℕ) (o : Option Coded) (b t : Bits) → Weighs n b t o → Weighs n b t (cut false code o)
weighs_uncut n code none b t h = tt
weighs_uncut n code (some c) b t h = h

pub record TabledPlan (p : Plan) : Type 0 where
  pub dcs : (c : ℕ) → Tabled (p.channels c).dc
  pub acs : (c : ℕ) → Tabled (p.channels c).ac

-- the blocks of a scan, read to the place `last`, and its end behind them
record Ends (s : List ℕ) (p : Plan) (n : ℕ) (b : Bits) (ls : List (List ℤ)) : Type 0 where
  last : Bits
  weighs : Weighs n b last (written p 0 no_predictors ls)
  inside : last.at + 2 ≤ length s

module _ (s : List ℕ) (p : Plan) (g : TabledPlan p) where
  abbrev After : ℕ → ℕ → List ℤ → Type 0
  After n k ps = (b : Bits) → Gives (λ ls t. Weighs n b t (written p k ps ls)) (blocks (file s) p n k ps b)

  -- one block, and those behind it
  from_weighs : (n k : ℕ) → ((ps : List ℤ) → After n (suc k) ps) → (ps qs : List ℤ) (b c : Bits)
      → predictors (restart_due p.shape p.interval k) ps ≡ qs
      → ((o : Option Coded) (t : Bits) → Weighs (suc n) c t o
      → Weighs (suc n) b t (cut (restart_due p.shape p.interval k) (restart_code p.shape p.interval k) o))
      → Gives (λ ls t. Weighs (suc n) b t (written p k ps ls)) (from (file s) p n k qs c)
  unfolding file
  from_weighs n k ih ps qs b c e marked =
      gives_then (λ l d. Paid 16 (block_bits (p.channels ch) (get_or qs ch (pos 0)) l) c d) (λ ls t. Weighs (suc n) b t (written p k ps ls))
      (block (one s) (p.channels ch).dc (p.channels ch).ac (get_or qs ch (pos 0)) c) _
      (block_paid s (p.channels ch) (g.dcs ch) (g.acs ch) (get_or qs ch (pos 0)) c)
      (λ l d h. gives_then (λ ls t. Weighs n d t (written p (suc k) (set qs ch (get_or l 0 (pos 0))) ls))
      (λ ls t. Weighs (suc n) b t (written p k ps ls))
      (blocks (file s) p n (suc k) (set qs ch (get_or l 0 (pos 0))) d) _ (ih (set qs ch (get_or l 0 (pos 0))) d)
      (λ ls t r. marked (both (predictors (restart_due p.shape p.interval k) ps) l ls) t
      (subst⁻¹ (λ q. Weighs (suc n) c t (both q l ls)) e
      (weighs_onto n (block_bits (p.channels ch) (get_or qs ch (pos 0)) l) (written p (suc k) (set qs ch (get_or l 0 (pos 0))) ls) c d t h r))))
    where
      ch : ℕ
      ch = channel_of p.shape k

      both : List ℤ → List ℤ → List (List ℤ) → Option Coded
      both q l ls = onto (block_bits (p.channels ch) (get_or q ch (pos 0)) l) (written p (suc k) (set q ch (get_or l 0 (pos 0))) ls)

  blocks_weigh : (n k : ℕ) (ps : List ℤ) → After n k ps
  unfolding file
  blocks_weigh zero k ps b = omega arith
  blocks_weigh (suc n) k ps b =
      subst⁻¹ (λ m. Gives Q (onward (m b) (from (file s) p n k))) (ahead_is (file s) p k ps)
      (go (restart_due p.shape p.interval k) refl (from_weighs n k (blocks_weigh n (suc k)) ps))
    where
      code : ℕ
      code = restart_code p.shape p.interval k

      Q : List (List ℤ) → Bits → Type 0
      Q ls t = Weighs (suc n) b t (written p k ps ls)

      go : (due : Bool) → restart_due p.shape p.interval k ≡ due
          → ((qs : List ℤ) (b c : Bits) → predictors (restart_due p.shape p.interval k) ps ≡ qs
          → ((o : Option Coded) (t : Bits) → Weighs (suc n) c t o → Weighs (suc n) b t (cut (restart_due p.shape p.interval k) code o))
          → Gives (λ ls t. Weighs (suc n) b t (written p k ps ls)) (from (file s) p n k qs c))
          → Gives Q (onward (cond due (mark s code >> give no_predictors) (give ps) b) (from (file s) p n k))
      go true e f = seen (mark s code b) (mark_looked s code b)
        where
          seen : (r : Read Bits (Unit {0})) → Looked s b r → Gives Q (onward (onward r (λ _. give no_predictors)) (from (file s) p n k))
          seen _ (found on a i) =
              f no_predictors b (first_bit on) (ap (λ d. predictors d ps) e)
              (λ o t h. subst⁻¹ (λ d. Weighs (suc n) b t (cut d code o)) e (weighs_cut (suc n) code on o b t a h))
          seen _ missed = tt
      go false e f =
          f ps b b (ap (λ d. predictors d ps) e)
          (λ o t h. subst⁻¹ (λ d. Weighs (suc n) b t (cut d code o)) e (weighs_uncut (suc n) code o b t h))

  -- the whole scan
  scan_weighs : (n : ℕ) (b : Bits) → Gives (λ ls _. Ends s p n b ls) (scan (file s) p n b)
  scan_weighs n b =
      gives_then (λ ls t. Weighs n b t (written p 0 no_predictors ls)) (λ ls _. Ends s p n b ls) (blocks (file s) p n 0 no_predictors b) _
      (blocks_weigh n 0 no_predictors b)
      (λ ls t h. go ls t h (closed (file s) t) (closed_ended s t))
    where
      go : (ls : List (List ℤ)) (t : Bits) → Weighs n b t (written p 0 no_predictors ls) → (r : Read Bits (Unit {0})) → Ended s t r
          → Gives (λ ls _. Ends s p n b ls) (onward r (λ _. give ls))
      go ls t h _ (ended i) = record { last = t; weighs = h; inside = i }
      go ls t h _ unended = tt

-- ---- a file

table_tabled : (l : List ℕ) (x : ℕ) → AllBytes l → Tabled (table_at l x)
table_tabled l x h = record { bytes = table_bytes l x h; few = omega (arith, length-take 16 (drop x l)) }

plan_tabled : (s : List ℕ) (r : Record) → AllBytes s → TabledPlan (plan_of s r)
plan_tabled s r h =
    record {
      dcs = λ c. table_tabled (take r.start s) (dc_at r c) (bytes_take r.start s h);
      acs = λ c. table_tabled (take r.start s) (ac_at r c) (bytes_take r.start s h);
    }

-- a scan that was read, settled: whatever the record and its tables
pub settled_short : (s : List ℕ) (r : Record) (ls : List (List ℤ)) (b : Bits) (t : List ℕ)
    → AllBytes s → levels s r ≡ whole ls b → settled_scan (plan_of s r) ls ≡ some t → length t + 2 * r.start ≤ 2 * length s + 4 * r.blocks
unfolding settled_scan
settled_short s r ls b t h e f = go (written (plan_of s r) 0 no_predictors ls) read.weighs f
  where
    read : Ends s (plan_of s r) r.blocks (first_bit r.start) ls
    read =
        given (λ ls _. Ends s (plan_of s r) r.blocks (first_bit r.start) ls)
        (scan (file s) (plan_of s r) r.blocks (first_bit r.start))
        (scan_weighs s (plan_of s r) (plan_tabled s r h) r.blocks (first_bit r.start)) ls b (plainly s r ls b e)

    go : (o : Option Coded) → Weighs r.blocks (first_bit r.start) read.last o → scan_bytes o ≡ some t
        → length t + 2 * r.start ≤ 2 * length s + 4 * r.blocks
    go none w g = absurd (absurd_some t g)
    go (some c) w g =
        let same : bytes_of c ≡ t = cc in
        omega (arith, bytes_weight c, w, read.inside, ap length same)
