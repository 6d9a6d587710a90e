-- A symbol that was read took a code from the front: whatever stands behind the code, it is read again and leaves what stands behind.
use Prim.Native.Nat.{ℕ, ◌+◌, ◌*◌, ◌-◌}
use mathlib.Core.Path.{◌≡◌, refl, sym, ap, ◌∙◌}
use mathlib.Core.Bool.{Bool, true, false, cond}
use mathlib.Core.List.{List, [], ◌∷◌, ◌++◌}
use lib.Dec.{ltb}
use lib.ListN.{get_or}
use Rattle.reading.specs.declared.Fault.TheVariants.{NoCode}
use Rattle.reading.specs.Reader.{got, Reader, give}
use Rattle.reading.specs.Huffman.{Table, code_from, symbol}
use Rattle.reading.specs.Code.Coming.{Plain, plain, pop, why}
use Rattle.reading.proofs.Readings.{Two, two, got_val, got_at, no_fault}

-- a reader that takes `code` from the front of bs, and nothing else
pub record Front (m : Reader Plain ℕ) (bs after : List ℕ) (x : ℕ) (q : Plain) : Type 0 where
  pub code : List ℕ
  pub split : bs ≡ code ++ q.bits
  pub behind : q.after ≡ after
  pub again : (more b : List ℕ) → m (plain (code ++ more) b) ≡ got x (plain more b)

pub code_front :
    (cs : List ℕ) (v f index : ℕ) (bs after : List ℕ) (y : ℕ) (q : Plain)
    → code_from pop cs v f index (plain bs after) ≡ got y q
    → Front (code_from pop cs v f index) bs after y q
code_front [] v f index bs after y q e = absurd (no_fault NoCode y q e)
code_front (c ∷ cs) v f index [] after y q e = absurd (no_fault (why after) y q e)
code_front (c ∷ cs) v f index (b ∷ bs) after y q e = go (ltb (2 * v + b) (2 * f + c)) refl e (code_front cs (2 * v + b) (2 * f + c) (index + c) bs after y q)
  where
    go :
        (t : Bool)
        → ltb (2 * v + b) (2 * f + c) ≡ t
        → cond t (give (index + (2 * v + b - 2 * f))) (code_from pop cs (2 * v + b) (2 * f + c) (index + c)) (plain bs after) ≡ got y q
        → (code_from pop cs (2 * v + b) (2 * f + c) (index + c) (plain bs after) ≡ got y q → Front (code_from pop cs (2 * v + b) (2 * f + c) (index + c)) bs after y q)
        → Front (code_from pop (c ∷ cs) v f index) (b ∷ bs) after y q
    go true p g ih =
        record {
          code = b ∷ [];
          split = ap (λ k. b ∷ k.bits) (got_at g);
          behind = sym (ap (λ k. k.after) (got_at g));
          again = λ more a. rw p (ap (λ k. got k (plain more a)) (got_val g));
        }
    go false p g ih =
        let r = ih g in
        record {
          code = b ∷ r.code;
          split = ap (λ k. b ∷ k) r.split;
          behind = r.behind;
          again = λ more a. rw p (r.again more a);
        }

pub symbol_front :
    (t : Table) (bs after : List ℕ) (x : ℕ) (q : Plain)
    → symbol pop t (plain bs after) ≡ got x q
    → Front (symbol pop t) bs after x q
unfolding symbol
symbol_front t bs after x q e = from (two (code_from pop t.counts 0 0 0 (plain bs after)) (λ i. give (get_or t.symbols i 0)) x q e)
  where
    from : Two (code_from pop t.counts 0 0 0 (plain bs after)) (λ i. give (get_or t.symbols i 0)) x q → Front (symbol pop t) bs after x q
    from w =
        let r = code_front t.counts 0 0 0 bs after w.val w.at w.fst in
        record {
          code = r.code;
          split = r.split ∙ ap (λ k. r.code ++ k.bits) (got_at w.snd);
          behind = sym (ap (λ k. k.after) (got_at w.snd)) ∙ r.behind;
          again = λ more a. rw (r.again more a) (ap (λ v. got v (plain more a)) (got_val w.snd));
        }
