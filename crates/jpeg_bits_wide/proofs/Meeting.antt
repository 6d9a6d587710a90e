-- A wide cursor and a bit place of the file that meet: what is read at the one is read at the other, and they meet behind it. And two bit
-- places that meet one cursor read alike.
use Rattle.std.proofs.Common.{◌≡◌, ℕ, ◌-◌, ◌/◌, ◌%◌, ◌^◌, ◌<◌, ◌≤◌, List, drop, ℤ, sym}
use Rattle.std.proofs.Common.{refl, ap, ◌∙◌, ap₂, mod-eq_of_lt, arith, lit<, pow_mono}
use mathlib.Core.Path.{subst⁻¹}
use Rattle.reading.specs.declared.Bits.{Bits}
use Rattle.reading.specs.declared.Fault.{Fault}
use Rattle.reading.specs.Reader.{Read, got, fault}
use Rattle.reading.specs.Bits.{one, first_bit, mark, file, amplitude, meaning}
use Rattle.reading.specs.Huffman.{bits_of}
use Rattle.reading.specs.Scan.{closed}
use Rattle.reading.specs.Code.Coming.{Plain, pop, ahead, unstuff, pending}
use Rattle.reading.proofs.Same.{Alike, amplitude_alike}
use Rattle.reading.proofs.Unstuffed.{Pending, one_alike, plain_mark, plain_source, mark_alike, ends_alike}
use Rattle.reading.proofs.FileBytes.{AllBytes}
use Rattle.jpeg_bits_wide.specs.declared.Wide.{Wide}
use Rattle.jpeg_bits_wide.specs.Cursor.{Proper, to_come, Meets, fresh, filled, topped, taken, fault_at, narrowed}
use Rattle.jpeg_bits_wide.proofs.Coming.{Bared, Ready, fresh_proper, high_is, filled_ready, topped_ready, taken_proper, amplitude_taken}
use Rattle.jpeg_bits_wide.proofs.Ending.{amplitude_short}

-- ---- answers that are alike

-- a value was read, at a place that is related to a given one
pub record Found {S S' A : Type 0} (R : S → S' → Type 0) (x : Read S A) (a : A) (t : S') : Type 0 where
  pub place : S
  pub is : x ≡ got a place
  pub related : R place t

pub alike_got : {S S' A : Type 0} (R : S → S' → Type 0) (x : Read S A) (a : A) (t : S') → Alike R x (got a t) → Found R x a t
alike_got R (got b s) a t h = record { place = s; is = ap (λ v. got v s) h.0; related = h.1 }
alike_got R (fault f) a t h = absurd h

pub alike_fault : {S S' A : Type 0} (R : S → S' → Type 0) (x : Read S A) (f : Fault) → Alike R x (fault f) → x ≡ fault f
alike_fault R (got b s) f h = absurd h
alike_fault R (fault g) f h = ap fault h

-- a relation that is weaker
pub alike_map :
    {S S' A : Type 0} (R Q : S → S' → Type 0)
    → ((s : S) (t : S') → R s t → Q s t)
    → (x : Read S A) (y : Read S' A)
    → Alike R x y
    → Alike Q x y
alike_map R Q f (got a s) (got b t) h = (h.0, f s t h.1)
alike_map R Q f (got a s) (fault e) h = absurd h
alike_map R Q f (fault d) (got b t) h = absurd h
alike_map R Q f (fault d) (fault e) h = h

-- two answers that are like a third
pub alike_both :
    {S T U A : Type 0} (P : S → T → Type 0) (Q : U → T → Type 0) (R : S → U → Type 0)
    → ((s : S) (t : T) (u : U) → P s t → Q u t → R s u)
    → (x : Read S A) (y : Read T A) (z : Read U A)
    → Alike P x y
    → Alike Q z y
    → Alike R x z
alike_both P Q R f (got a s) (got b t) (got c u) h k = (h.0 ∙ sym k.0, f s t u h.1 k.1)
alike_both P Q R f (got a s) (got b t) (fault g) h k = absurd k
alike_both P Q R f (got a s) (fault e) z h k = absurd h
alike_both P Q R f (fault d) (got b t) z h k = absurd h
alike_both P Q R f (fault d) (fault e) (got c u) h k = absurd k
alike_both P Q R f (fault d) (fault e) (fault g) h k = h ∙ sym k

-- a proper cursor, and what is to come there
abbrev pub Stands : List ℕ → Wide → Plain → Type 0
Stands s w p = (p ≡ to_come s w) × Proper w

pub stands_meets : (s : List ℕ) (b : Bits) (p : Plain) (w : Wide) → Pending s b p → Stands s w p → Meets s b w
stands_meets s b p w h k = record { proper = k.1; same = sym k.0 ∙ h.0; few = h.1 }

-- an answer over the plain bits is one over the bit place
pub meets_both :
    {A : Type 0} (s : List ℕ) (x : Read Bits A) (y : Read Plain A) (z : Read Wide A)
    → Alike (Pending s) x y
    → Alike (Stands s) z y
    → Alike (Meets s) x z
meets_both s = alike_both (Pending s) (Stands s) (Meets s) (stands_meets s)

-- ---- filling up

pub fresh_meets : (s : List ℕ) (at : ℕ) → Meets s (first_bit at) (fresh at)
fresh_meets s at = record { proper = fresh_proper at; same = refl; few = lit< tt }

module _ {s : List ℕ} {b : Bits} {w : Wide} (bytes : AllBytes s) (m : Meets s b w) where
  still_meets : {n : ℕ} {r : Wide} → Ready s n w r → Meets s b r
  still_meets r = record { proper = r.still.proper; same = r.still.same ∙ m.same; few = m.few }

  pub filled_meets : Meets s b (filled s w)
  filled_meets = still_meets (filled_ready s bytes w m.proper)

  pub topped_meets : Meets s b (topped s w)
  topped_meets = still_meets (topped_ready s bytes w m.proper)

-- ---- bits that are there, or are not

module _ {s : List ℕ} {b : Bits} {w : Wide} (m : Meets s b w) where
  -- the plain bits at both
  pub pending_there : Pending s b (to_come s w)
  pending_there = (m.same, m.few)

  module _ (n : ℕ) where
    over_plain : (z : Read Wide ℤ) → Alike (Stands s) z (amplitude pop n (to_come s w)) → Alike (Meets s) (amplitude (one s) n b) z
    over_plain z h =
        meets_both s (amplitude (one s) n b) (amplitude pop n (to_come s w)) z
        (amplitude_alike (Pending s) (one s) pop (one_alike s) n b (to_come s w) pending_there) h

    -- a value of bits that are there
    pub amplitude_meets : n ≤ w.left → Alike (Meets s) (amplitude (one s) n b) (got (meaning n (w.acc / 2 ^ (64 - n))) (taken n w))
    amplitude_meets h =
        over_plain (got (meaning n (w.acc / 2 ^ (64 - n))) (taken n w))
        (subst⁻¹ (λ y. Alike (Stands s) (got (meaning n (w.acc / 2 ^ (64 - n))) (taken n w)) y) (amplitude_taken m.proper n h s)
        (refl, (refl, taken_proper m.proper n h)))

    -- a value of more bits than come
    pub amplitude_stops : w.left < n → Bared s w.at → Alike (Meets s) (amplitude (one s) n b) (fault (fault_at s w.at))
    amplitude_stops h none =
        over_plain (fault (fault_at s w.at))
        (subst⁻¹ (λ y. Alike (Stands s) (fault (fault_at s w.at)) y) (amplitude_short s w none n h) refl)

-- ---- markers and the end

-- a cursor of at most seven bits is met by the bit place that `narrow` makes
pub narrow_meets : (s : List ℕ) {w : Wide} → Proper w → w.left < 8 → Meets s (narrowed w) w
unfolding narrowed
narrow_meets s {w} p h =
    record {
      proper = p;
      same = ap₂ (λ n x. ahead (bits_of n x) (unstuff (drop w.at s))) (sym left_is) (sym byte_is);
      few = subst⁻¹ (λ n. n < 8) left_is h;
    }
  where
    left_is : w.left % 256 ≡ w.left
    left_is = mod-eq_of_lt (omega arith)

    byte : w.acc / 2 ^ (64 - w.left) < 256
    byte = omega (arith, high_is p, p.below, small)
      where
        small : 2 ^ w.left ≤ 256
        small = pow_mono {j = 8} (omega arith)

    byte_is : w.acc / 2 ^ (64 - w.left) % 256 ≡ w.acc / 2 ^ (64 - w.left)
    byte_is = mod-eq_of_lt byte

-- two bit places at which the same is to come
pub record Peers (s : List ℕ) (b c : Bits) : Type 0 where
  pub same : pending s b ≡ pending s c
  pub few : b.left < 8
  pub fewer : c.left < 8

pub peers : {s : List ℕ} {b c : Bits} {w : Wide} → Meets s b w → Meets s c w → Peers s b c
peers m n = record { same = sym m.same ∙ n.same; few = m.few; fewer = n.few }

pub peers_meets : {s : List ℕ} {b c : Bits} {w : Wide} → Peers s b c → Meets s c w → Meets s b w
peers_meets r m = record { proper = m.proper; same = m.same ∙ sym r.same; few = r.few }

-- answers that are like one of the plain bits
peers_both :
    {A : Type 0} (s : List ℕ) (x : Read Bits A) (y : Read Plain A) (z : Read Bits A)
    → Alike (Pending s) x y
    → Alike (Pending s) z y
    → Alike (Peers s) x z
peers_both s =
    alike_both (Pending s) (Pending s) (Peers s)
    (λ b p c h k. record { same = sym h.0 ∙ k.0; few = h.1; fewer = k.1 })

-- both read a marker alike, and the end
module _ {s : List ℕ} {b c : Bits} (r : Peers s b c) where
  pub peers_mark : (code : ℕ) → 0 < code → Alike (Peers s) (mark s code b) (mark s code c)
  peers_mark code h =
      peers_both s (mark s code b) (plain_mark code (pending s b)) (mark s code c)
      (mark_alike s code h b (pending s b) (refl, r.few))
      (mark_alike s code h c (pending s b) (r.same, r.fewer))

  pub peers_closed : Alike (Peers s) (closed (file s) b) (closed (file s) c)
  peers_closed =
      peers_both s (closed (file s) b) (closed plain_source (pending s b)) (closed (file s) c)
      (ends_alike s b (pending s b) (refl, r.few))
      (ends_alike s c (pending s b) (r.same, r.fewer))
