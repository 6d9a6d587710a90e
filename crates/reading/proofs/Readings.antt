-- Readings taken apart: a value is no fault, two readings in a row are both good where the whole is, and readings in a row regrouped.
use mathlib.Core.Path.{◌≡◌, refl, ap, subst}
use mathlib.Core.Bool.{Bool, true, false}
use lib.Dec.{T}
use Rattle.reading.specs.declared.Fault.{Fault}
use Rattle.reading.specs.Reader.{Read, got, fault, Reader, ◌>>=◌, onward, rule}

pub record Two {S A B : Type 0} (x : Read S A) (k : A → Reader S B) (b : B) (t : S) : Type 0 where
  pub val : A
  pub at : S
  pub fst : x ≡ got val at
  pub snd : k val at ≡ got b t

is_fault : {S A : Type 0} → Read S A → Type 0
is_fault (got a s) = ⊥
is_fault (fault e) = Unit {0}

pub no_fault : {S A : Type 0} (e : Fault) (a : A) (s : S) → fault e ≡ got a s → ⊥
unfolding is_fault
no_fault e a s q = subst is_fault q tt

val_of : {S A : Type 0} → A → Read S A → A
val_of d (got a s) = a
val_of d (fault e) = d

pub got_val : {S A : Type 0} {a b : A} {s t : S} → got a s ≡ got b t → a ≡ b
unfolding val_of
got_val {a} q = ap (λ r. val_of a r) q

at_of : {S A : Type 0} → S → Read S A → S
at_of d (got a s) = s
at_of d (fault e) = d

pub got_at : {S A : Type 0} {a b : A} {s t : S} → got a s ≡ got b t → s ≡ t
unfolding at_of
got_at {s} q = ap (λ r. at_of s r) q

pub two : {S A B : Type 0} (x : Read S A) (k : A → Reader S B) (b : B) (t : S) → onward x k ≡ got b t → Two x k b t
two (got a s) k b t e = record { val = a; at = s; fst = refl; snd = e }
two (fault d) k b t e = absurd (no_fault d b t e)

-- one reading after another, and readings that are alike behind the first
pub onward_onward : {S A B C : Type 0} (o : Read S A) (f : A → Reader S B) (g : B → Reader S C) → onward (onward o f) g ≡ onward o (λ a. f a >>= g)
onward_onward (got a q) f g = refl
onward_onward (fault e) f g = refl

pub onward_same : {S A B : Type 0} (o : Read S A) (f g : A → Reader S B) → ((a : A) (q : S) → f a q ≡ g a q) → onward o f ≡ onward o g
onward_same (got a q) f g h = h a q
onward_same (fault e) f g h = refl

pub rule_so : {S : Type 0} (b : Bool) (s t : S) (u : Unit {0}) → rule b s ≡ got u t → T b
rule_so true s t u e = tt
rule_so false s t u e = absurd (no_fault _ u t e)
