-- What a block takes of a later symbol: one law for whatever reads, writes or counts it; and that an AC table may list exactly what a
-- block takes. (Of the first symbol the block asks `dcTaken` itself.)
use Prim.Native.Nat.{ℕ, ◌+◌, ◌/◌, ◌%◌, ◌<◌, ◌≤◌}
use mathlib.Core.Path.{◌≡◌, refl, subst⁻¹}
use mathlib.Core.Bool.{Bool, true, false, not, cond}
use native.Mathlib.Omega.{arith}
use lib.Dec.{T, leb, ltb, eqb, eqb→eq, leb→le, ltb→lt}
use borrow.Author.Tests.{lt-ltb}
use Rattle.reading.specs.Tests.{◌and◌, ◌or◌}
use Rattle.reading.specs.Block.{Ask, end, skip, value, wrong, ac_taken, asked}

-- a run and a size, and room for the value at its place
pub record Valued (place x run size : ℕ) : Type 0 where
  pub run_is : run ≡ x / 16
  pub size_is : size ≡ x % 16
  pub some : 1 ≤ size
  pub few : size ≤ 10
  pub inside : place + run < 64

-- what an answer to a symbol at a place says of both
abbrev pub Says : ℕ → ℕ → Ask → Type 0
Says place x end = x ≡ 0
Says place x skip = (x ≡ 240) × (place ≤ 48)
Says place x (value run size) = Valued place x run size
Says place x wrong = Unit {0}

-- what is asked at a place, by its tests
abbrev asked_by : (place x : ℕ) (zero full least most room : Bool) → Ask
asked_by place x zero full least most room =
    cond (not (zero or full or (least and most))) wrong
    (cond zero end
    (cond full (cond (leb place 48) skip wrong)
    (cond room (value (x / 16) (x % 16)) wrong)))

pub asked_says : (place x : ℕ) → Says place x (asked place x)
asked_says place x = go (eqb x 0) refl (eqb x 240) refl (leb 1 (x % 16)) refl (leb (x % 16) 10) refl (ltb (place + x / 16) 64) refl
  where
    runs : (c : Bool) → leb place 48 ≡ c → x ≡ 240 → Says place x (cond c skip wrong)
    runs true p e = (e, leb→le place 48 (subst⁻¹ T p tt))
    runs false p e = tt

    go :
        (a : Bool) → eqb x 0 ≡ a
        → (b : Bool) → eqb x 240 ≡ b
        → (c : Bool) → leb 1 (x % 16) ≡ c
        → (d : Bool) → leb (x % 16) 10 ≡ d
        → (e : Bool) → ltb (place + x / 16) 64 ≡ e
        → Says place x (asked_by place x a b c d e)
    go true p b q c r d s e t = eqb→eq x 0 (subst⁻¹ T p tt)
    go false p true q c r d s e t = runs (leb place 48) refl (eqb→eq x 240 (subst⁻¹ T q tt))
    go false p false q true r true s true t =
        record {
          run_is = refl;
          size_is = refl;
          some = leb→le 1 (x % 16) (subst⁻¹ T r tt);
          few = leb→le (x % 16) 10 (subst⁻¹ T s tt);
          inside = ltb→lt (place + x / 16) 64 (subst⁻¹ T t tt);
        }
    go false p false q true r true s false t = tt
    go false p false q true r false s e t = tt
    go false p false q false r d s e t = tt

-- no place takes a symbol that is not taken
pub not_taken : (place x : ℕ) → ac_taken x ≡ false → asked place x ≡ wrong
not_taken place x e = rw e

-- and the first of the later places takes each one that is
pub taken_first : (x : ℕ) → x < 256 → ac_taken x ≡ true → asked 1 x ≡ wrong → ⊥
taken_first x h e = rw (e, lt-ltb (1 + x / 16) 64 (omega arith)) (go (eqb x 0) (eqb x 240))
  where
    is_wrong : Ask → Type 0
    is_wrong end = ⊥
    is_wrong skip = ⊥
    is_wrong (value run size) = ⊥
    is_wrong wrong = Unit {0}

    go : (a b : Bool) → cond a end (cond b skip (value (x / 16) (x % 16))) ≡ wrong → ⊥
    go true b p = subst⁻¹ is_wrong p tt
    go false true p = subst⁻¹ is_wrong p tt
    go false false p = subst⁻¹ is_wrong p tt
