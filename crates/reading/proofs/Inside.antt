-- A reading keeps its cursor inside the bytes: a place that is at most the file's length, with at most 8 unread bits.
use Prim.Native.Nat.{ℕ, zero, suc, ◌+◌, ◌*◌, ◌-◌, ◌<◌, ◌≤◌}
use mathlib.Core.Path.{◌≡◌, refl}
use mathlib.Core.Bool.{Bool, true, false, cond}
use mathlib.Core.List.{List, [], ◌∷◌, ◌++◌}
use mathlib.Core.Option.{Option, none, some}
use native.Mathlib.Omega.{arith}
use lib.Dec.{leb, ltb, eqb}
use lib.IntN.{ℤ, pos, ◌+ℤ◌}
use lib.ListN.{length, get_or, set, get_elem?}
use Rattle.reading.specs.declared.Bits.{Bits}
use Rattle.reading.specs.declared.Fault.{Fault}
use Rattle.reading.specs.declared.Fault.TheVariants.{Bare}
use Rattle.reading.specs.Reader.{Read, got, fault, Reader, onward, ◌>>=◌, give, fail, rule}
use Rattle.reading.specs.Bits.{first_of, after_full, fresh_from, one_at, one, file, mark, field_from, meaning, amplitude}
use Rattle.reading.specs.Huffman.{Table, code_from, symbol}
use Rattle.reading.proofs.FileBytes.{element_there}
use Rattle.reading.proofs.Marks.{Looked, found, missed, mark_looked}
use Rattle.reading.specs.Layout.{channel_of, mcu_of, opens_mcu, due_before, restart_before}
use Rattle.reading.specs.Scan.{Plan, no_predictors, ahead}
use Rattle.reading.specs.Block.{Ask, end, skip, value, wrong, asked, predictable, first, zeros, answered, rest, block}
use Rattle.reading.proofs.Reasons.{blocks}

-- ---- what every reading keeps

-- where an answer stands, P holds
abbrev pub Stands : {S A : Type 0} → (S → Type 0) → Read S A → Type 0
Stands P (got a t) = P t
Stands P (fault f) = Unit {0}

pub record Keeps {S A : Type 0} (P : S → Type 0) (m : Reader S A) : Type 0 where
  pub kept : (s : S) → P s → Stands P (m s)

module _ {S : Type 0} (P : S → Type 0) where
  pub keeps_give : {A : Type 0} (a : A) → Keeps P (give {S = S} a)
  keeps_give a = record { kept = λ s h. h }

  pub keeps_fail : {A : Type 0} (f : Fault) → Keeps {A = A} P (fail {S = S} f)
  keeps_fail f = record { kept = λ s h. tt }

  pub keeps_rule : (b : Bool) → Keeps P (rule {S = S} b)
  keeps_rule true = record { kept = λ s h. h }
  keeps_rule false = record { kept = λ s h. tt }

  pub keeps_then : {A B : Type 0} (m : Reader S A) (f : A → Reader S B) → Keeps P m → ((a : A) → Keeps P (f a)) → Keeps P (m >>= f)
  keeps_then {A} {B} m f k g = record { kept = λ s h. go (m s) (k.kept s h) }
    where
      go : (x : Read S A) → Stands P x → Stands P (onward x f)
      go (got a t) h = (g a).kept t h
      go (fault e) h = tt

  pub keeps_cond : {A : Type 0} (b : Bool) (m n : Reader S A) → Keeps P m → Keeps P n → Keeps P (cond b m n)
  keeps_cond true m n h k = h
  keeps_cond false m n h k = k

  module _ (next : Reader S ℕ) (keeps : Keeps P next) where
    pub keeps_field : (n v : ℕ) → Keeps P (field_from next n v)
    keeps_field zero v = keeps_give v
    keeps_field (suc n) v = keeps_then next (λ b. field_from next n (2 * v + b)) keeps (λ b. keeps_field n (2 * v + b))

    pub keeps_amplitude : (n : ℕ) → Keeps P (amplitude next n)
    unfolding amplitude
    keeps_amplitude n = keeps_then (field_from next n 0) (λ v. give (meaning n v)) (keeps_field n 0) (λ v. keeps_give (meaning n v))

    keeps_code : (counts : List ℕ) (v f i : ℕ) → Keeps P (code_from next counts v f i)
    keeps_code [] v f i = keeps_fail _
    keeps_code (c ∷ cs) v f i =
        keeps_then next _ keeps (λ b. keeps_cond (ltb (2 * v + b) (2 * f + c)) _ _ (keeps_give _) (keeps_code cs (2 * v + b) (2 * f + c) (i + c)))

    pub keeps_symbol : (t : Table) → Keeps P (symbol next t)
    unfolding symbol
    keeps_symbol t = keeps_then (code_from next t.counts 0 0 0) (λ i. give (get_or t.symbols i 0)) (keeps_code t.counts 0 0 0) (λ i. keeps_give _)

    pub keeps_first : (dc : Table) (p : ℤ) → Keeps P (first next dc p)
    keeps_first dc p =
        keeps_then (symbol next dc) _ (keeps_symbol dc) (λ c. keeps_then (rule (leb c 11)) _ (keeps_rule (leb c 11)) (λ _. keeps_then (amplitude next c) _ (keeps_amplitude c)
        (λ d. keeps_then (rule (predictable (p +ℤ d))) _ (keeps_rule (predictable (p +ℤ d))) (λ _. keeps_give (p +ℤ d)))))

    keeps_answered : (place : ℕ) (more : ℕ → Reader S (List ℤ)) → ((i : ℕ) → Keeps P (more i)) → (a : Ask) → Keeps P (answered next place more a)
    keeps_answered place more k end = keeps_give (zeros (64 - place))
    keeps_answered place more k skip = keeps_then (more (place + 16)) (λ l. give (zeros 16 ++ l)) (k (place + 16)) (λ l. keeps_give (zeros 16 ++ l))
    keeps_answered place more k (value run size) =
        keeps_then (amplitude next size) (λ v. more (place + run + 1) >>= λ l. give (zeros run ++ v ∷ l)) (keeps_amplitude size)
        (λ v. keeps_then (more (place + run + 1)) (λ l. give (zeros run ++ v ∷ l)) (k (place + run + 1)) (λ l. keeps_give (zeros run ++ v ∷ l)))
    keeps_answered place more k wrong = keeps_fail _

    pub keeps_rest : (ac : Table) (n place : ℕ) → Keeps P (rest next ac n place)
    unfolding rest
    keeps_rest ac zero place = keeps_give []
    keeps_rest ac (suc n) place =
        keeps_cond (leb 64 place) _ _ (keeps_give [])
        (keeps_then (symbol next ac) (λ x. answered next place (rest next ac n) (asked place x)) (keeps_symbol ac) (λ x. keeps_answered place (rest next ac n) (keeps_rest ac n) (asked place x)))

    pub keeps_block : (dc ac : Table) (p : ℤ) → Keeps P (block next dc ac p)
    unfolding block
    keeps_block dc ac p =
        keeps_then (first next dc p) (λ v. rest next ac 63 1 >>= λ l. give (v ∷ l)) (keeps_first dc p)
        (λ v. keeps_then (rest next ac 63 1) (λ l. give (v ∷ l)) (keeps_rest ac 63 1) (λ l. keeps_give (v ∷ l)))

-- ---- the file's cursor

pub record Inside (s : List ℕ) (b : Bits) : Type 0 where
  pub place : b.at ≤ length s
  pub unread : b.left ≤ 8

-- what the next bit does to a cursor: one unread bit less, or behind one byte or two that are there
pub one_leads : (s : List ℕ) (P Q : Bits → Type 0)
    → ((at byte n : ℕ) → P (record { at = at; byte = byte; left = suc n }) → Q (record { at = at; byte = byte; left = n }))
    → ((at byte x k : ℕ) → P (record { at = at; byte = byte; left = 0 }) → 0 < k → at + k ≤ length s → Q (record { at = at + k; byte = x; left = 7 }))
    → (b : Bits) → P b → Stands Q (one s b)
unfolding one
one_leads s P Q less next b h = by b.at b.byte b.left h
  where
    full : (at byte : ℕ) (o : Option ℕ) → get_elem? s (at + 1) ≡ o → P (record { at = at; byte = byte; left = 0 }) → Stands Q (after_full at o)
    full at byte none e h = tt
    full at byte (some y) e h = go (eqb y 0)
      where
        go : (t : Bool) → Stands Q (cond t (first_of 255 (at + 2)) (fault Bare))
        go true = next at byte 255 2 h (omega arith) (omega (arith, element_there s (at + 1) y e))
        go false = tt

    new : (at byte : ℕ) (o : Option ℕ) → get_elem? s at ≡ o → P (record { at = at; byte = byte; left = 0 }) → Stands Q (fresh_from s at o)
    new at byte none e h = tt
    new at byte (some x) e h = go (eqb x 255)
      where
        go : (t : Bool) → Stands Q (cond t (after_full at (get_elem? s (at + 1))) (first_of x (at + 1)))
        go true = full at byte (get_elem? s (at + 1)) refl h
        go false = next at byte x 1 h (omega arith) (omega (arith, element_there s at x e))

    by : (at byte n : ℕ) → P (record { at = at; byte = byte; left = n }) → Stands Q (one_at s at byte n)
    by at byte zero h = new at byte (get_elem? s at) refl h
    by at byte (suc n) h = less at byte n h

one_keeps : (s : List ℕ) (P : Bits → Type 0)
    → ((at byte n : ℕ) → P (record { at = at; byte = byte; left = suc n }) → P (record { at = at; byte = byte; left = n }))
    → ((at byte x k : ℕ) → P (record { at = at; byte = byte; left = 0 }) → at + k ≤ length s → P (record { at = at + k; byte = x; left = 7 }))
    → Keeps P (one s)
one_keeps s P less next = record { kept = one_leads s P P less (λ at byte x k h _ r. next at byte x k h r) }

pub one_inside : (s : List ℕ) → Keeps (Inside s) (one s)
one_inside s =
    one_keeps s (Inside s) (λ at byte n h. record { place = h.place; unread = omega (arith, h.unread) })
    (λ at byte x k h r. record { place = r; unread = omega arith })

-- it never goes back
pub record From (a : ℕ) (b : Bits) : Type 0 where
  pub place : a ≤ b.at

pub one_onward : (s : List ℕ) (a : ℕ) → Keeps (From a) (one s)
one_onward s a = one_keeps s (From a) (λ at byte n h. record { place = h.place }) (λ at byte x k h r. record { place = omega (arith, h.place) })

-- a block that is read leaves the cursor inside the bytes
pub block_inside : (s : List ℕ) (dc ac : Table) (p : ℤ) → Keeps (Inside s) (block (one s) dc ac p)
block_inside s dc ac p = keeps_block (Inside s) (one s) (one_inside s) dc ac p

-- ---- markers, and the blocks of a scan

-- a marker that was read stands inside the bytes
pub mark_inside : (s : List ℕ) (code : ℕ) → Keeps (Inside s) (mark s code)
mark_inside s code = record { kept = λ b h. go b (mark s code b) (mark_looked s code b) }
  where
    go : (b : Bits) (r : Read Bits (Unit {0})) → Looked s b r → Stands (Inside s) r
    go b _ (found on h i) = record { place = i; unread = omega arith }
    go b _ missed = tt

-- blocks that are read, restarts before them too, leave the cursor inside the bytes
pub blocks_inside : (s : List ℕ) (p : Plan) (n k : ℕ) (ps : List ℤ) → Keeps (Inside s) (blocks (file s) p n k ps)
unfolding file
blocks_inside s p zero k ps = keeps_give (Inside s) []
blocks_inside s p (suc n) k ps =
    keeps_then (Inside s) (ahead (file s) p k ps) _ restarts
    (λ qs. keeps_then (Inside s) (block (one s) (p.channels (channel_of p.shape k)).dc (p.channels (channel_of p.shape k)).ac (get_or qs (channel_of p.shape k) (pos 0))) _
    (block_inside s (p.channels (channel_of p.shape k)).dc (p.channels (channel_of p.shape k)).ac (get_or qs (channel_of p.shape k) (pos 0)))
    (λ l. keeps_then (Inside s) (blocks (file s) p n (suc k) (set qs (channel_of p.shape k) (get_or l 0 (pos 0)))) _ (blocks_inside s p n (suc k) (set qs (channel_of p.shape k) (get_or l 0 (pos 0)))) (λ ls. keeps_give (Inside s) (l ∷ ls))))
  where
    restarts : Keeps (Inside s) (ahead (file s) p k ps)
    restarts =
        let m = mcu_of p.shape k in
        let code = restart_before p.interval m in
        keeps_cond (Inside s) (opens_mcu p.shape k) _ _
        (keeps_cond (Inside s) (due_before p.interval m) _ _
        (keeps_then (Inside s) (mark s code) (λ _. give no_predictors) (mark_inside s code) (λ _. keeps_give (Inside s) no_predictors))
        (keeps_give (Inside s) ps))
        (keeps_give (Inside s) ps)
