-- Readers of two sources: a relation that holds where both give the same, where both fail alike, and of one reader after another where it
-- holds of each, holds of every reading of a block. One law for each definition of the reading.
use Prim.Native.Nat.{ℕ, zero, suc, ◌+◌, ◌*◌, ◌-◌}
use mathlib.Core.Bool.{Bool, true, false, cond}
use mathlib.Core.List.{List, [], ◌∷◌, ◌++◌}
use lib.Dec.{leb, ltb}
use lib.IntN.{ℤ, ◌+ℤ◌}
use lib.ListN.{get_or}
use Rattle.reading.specs.declared.Fault.{Fault}
use Rattle.reading.specs.declared.Fault.TheVariants.{Broken, NoCode}
use Rattle.reading.specs.Reader.{Reader, ◌>>=◌, give, fail, rule}
use Rattle.reading.specs.Bits.{field, field_from, amplitude, meaning}
use Rattle.reading.specs.Huffman.{Table, code_from, symbol}
use Rattle.reading.specs.Block.{Ask, end, skip, value, wrong, asked, zeros, answered, rest, first, block, predictable}

module _ {S S' : Type 0} (Rel : (A : Type 0) → Reader S A → Reader S' A → Type 0)
    (gives : (A : Type 0) (a : A) → Rel A (give a) (give a))
    (fails : (A : Type 0) (e : Fault) → Rel A (fail e) (fail e))
    (thens : (A B : Type 0) (m : Reader S A) (m' : Reader S' A) (k : A → Reader S B) (k' : A → Reader S' B)
    → Rel A m m'
    → ((a : A) → Rel B (k a) (k' a))
    → Rel B (m >>= k) (m' >>= k')) where
  pub rule_related : (b : Bool) → Rel (Unit {0}) (rule b) (rule b)
  rule_related true = gives (Unit {0}) tt
  rule_related false = fails (Unit {0}) Broken

  pub cond_related : (A : Type 0) (b : Bool) (m n : Reader S A) (m' n' : Reader S' A) → Rel A m m' → Rel A n n' → Rel A (cond b m n) (cond b m' n')
  cond_related A true m n m' n' f g = f
  cond_related A false m n m' n' f g = g

  module _ (next : Reader S ℕ) (next' : Reader S' ℕ) (same : Rel ℕ next next') where
    field_from_related : (n v : ℕ) → Rel ℕ (field_from next n v) (field_from next' n v)
    field_from_related zero v = gives ℕ v
    field_from_related (suc n) v = thens ℕ ℕ next next' _ _ same (λ b. field_from_related n (2 * v + b))

    pub amplitude_related : (n : ℕ) → Rel ℤ (amplitude next n) (amplitude next' n)
    unfolding amplitude field
    amplitude_related n = thens ℕ ℤ (field next n) (field next' n) _ _ (field_from_related n 0) (λ v. gives ℤ (meaning n v))

    code_from_related : (cs : List ℕ) (v f index : ℕ) → Rel ℕ (code_from next cs v f index) (code_from next' cs v f index)
    code_from_related [] v f index = fails ℕ NoCode
    code_from_related (c ∷ cs) v f index =
        thens ℕ ℕ next next' _ _ same
        (λ b. cond_related ℕ (ltb (2 * v + b) (2 * f + c)) _ _ _ _ (gives ℕ (index + (2 * v + b - 2 * f))) (code_from_related cs (2 * v + b) (2 * f + c) (index + c)))

    pub symbol_related : (t : Table) → Rel ℕ (symbol next t) (symbol next' t)
    unfolding symbol
    symbol_related t = thens ℕ ℕ (code_from next t.counts 0 0 0) (code_from next' t.counts 0 0 0) _ _ (code_from_related t.counts 0 0 0) (λ i. gives ℕ (get_or t.symbols i 0))

    answered_related :
        (place : ℕ) (m : ℕ → Reader S (List ℤ)) (m' : ℕ → Reader S' (List ℤ))
        → ((p : ℕ) → Rel (List ℤ) (m p) (m' p))
        → (a : Ask)
        → Rel (List ℤ) (answered next place m a) (answered next' place m' a)
    answered_related place m m' f end = gives (List ℤ) (zeros (64 - place))
    answered_related place m m' f skip = thens (List ℤ) (List ℤ) (m (place + 16)) (m' (place + 16)) _ _ (f (place + 16)) (λ l. gives (List ℤ) (zeros 16 ++ l))
    answered_related place m m' f (value run size) =
        thens ℤ (List ℤ) (amplitude next size) (amplitude next' size) _ _ (amplitude_related size)
        (λ v. thens (List ℤ) (List ℤ) (m (place + run + 1)) (m' (place + run + 1)) _ _ (f (place + run + 1)) (λ l. gives (List ℤ) (zeros run ++ v ∷ l)))
    answered_related place m m' f wrong = fails (List ℤ) Broken

    rest_related : (ac : Table) (n place : ℕ) → Rel (List ℤ) (rest next ac n place) (rest next' ac n place)
    unfolding rest
    rest_related ac zero place = gives (List ℤ) []
    rest_related ac (suc n) place =
        cond_related (List ℤ) (leb 64 place) _ _ _ _ (gives (List ℤ) [])
        (thens ℕ (List ℤ) (symbol next ac) (symbol next' ac) _ _ (symbol_related ac)
        (λ x. answered_related place (rest next ac n) (rest next' ac n) (rest_related ac n) (asked place x)))

    first_related : (dc : Table) (p : ℤ) → Rel ℤ (first next dc p) (first next' dc p)
    first_related dc p =
        thens ℕ ℤ (symbol next dc) (symbol next' dc) _ _ (symbol_related dc)
        (λ c. thens (Unit {0}) ℤ (rule (leb c 11)) (rule (leb c 11)) _ _ (rule_related (leb c 11))
        (λ _. thens ℤ ℤ (amplitude next c) (amplitude next' c) _ _ (amplitude_related c)
        (λ d. thens (Unit {0}) ℤ (rule (predictable (p +ℤ d))) (rule (predictable (p +ℤ d))) _ _ (rule_related (predictable (p +ℤ d))) (λ _. gives ℤ (p +ℤ d)))))

    pub block_related : (dc ac : Table) (p : ℤ) → Rel (List ℤ) (block next dc ac p) (block next' dc ac p)
    unfolding block
    block_related dc ac p =
        thens ℤ (List ℤ) (first next dc p) (first next' dc p) _ _ (first_related dc p)
        (λ v. thens (List ℤ) (List ℤ) (rest next ac 63 1) (rest next' ac 63 1) _ _ (rest_related ac 63 1) (λ l. gives (List ℤ) (v ∷ l)))
