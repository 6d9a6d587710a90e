-- What is to come at a cursor, as a plain list of bits and the bytes from the next marker on: filling up leaves it as it is, taking n bits takes
-- the first n from it, and where none is left and no data byte comes the next bit is a fault.
use Rattle.std.proofs.Common.{◌≡◌, ℕ, zero, suc, ◌+◌, ◌-◌, ◌*◌, ◌/◌, ◌%◌, ◌^◌, ◌<◌, ◌≤◌, Bool, true, false, eqb, leb, ◌⊎◌, List, [], ◌∷◌}
use Rattle.std.proofs.Common.{◌++◌, drop, sym, refl, ap, ◌∙◌, subst, ap₂, inl, inr, ⊎_elim, append_assoc, mod-lt, mod-eq_of_lt, mul_assoc}
use Rattle.std.proofs.Common.{mul_comm, add-mul, arith, lit<, pow_pos, pow-add, shl_lt, shr-shr, shr_lt, leb-false, leb-true, Some, None}
use Rattle.std.specs.Prelude as Std
use mathlib.Core.Path.{subst⁻¹}
use mathlib.Core.Option.{some}
use native.Mathlib.Nat.{add-mul-mod_self_right, mod-add-div'}
use lib.Arith.{digits_lt}
use lib.Pow.{shl-shr, split, low}
use lib.Pow as powers
use lib.ListN.{get_elem?}
use Rattle.reading.specs.Reader.{got}
use Rattle.reading.specs.Bits.{field, amplitude, meaning}
use Rattle.reading.specs.Huffman.{bits_of}
use Rattle.reading.specs.Code.Coming.{Plain, plain, pop, ahead, unstuff}
use Rattle.reading.proofs.Plain.{field_written}
use Rattle.reading.proofs.Unstuffed.{unstuff_data, head, rest_of, head_drop, drop_one, drop_two}
use Rattle.reading.proofs.FileBytes.{AllBytes, bytes_drop}
use Rattle.reading.proofs.LowBits.{bits_append}
use Rattle.jpeg_bits_wide.specs.declared.Wide.{Wide}
use Rattle.jpeg_bits_wide.proofs.Filling.{stuck}
use Rattle.jpeg_bits_wide.proofs.Words.{four, four_bytes}
use Rattle.jpeg_bits_wide.specs.Cursor.{Proper, to_come, fresh, joined, behind_byte, behind_full, byte_more, bytes_more, filled, word_at, topped, taken}

-- ---- proper cursors

pub fresh_proper : (at : ℕ) → Proper (fresh at)
fresh_proper at = record { high = 0; few = omega arith; below = lit< tt; is = refl }

module _ {w : Wide} (p : Proper w) where
  pub high_is : w.acc / 2 ^ (64 - w.left) ≡ p.high
  high_is = ap (λ k. k / 2 ^ (64 - w.left)) p.is ∙ shl-shr p.high (64 - w.left)

  pub acc_fits : w.acc < 2 ^ 64
  acc_fits = rw p.is (subst (λ k. p.high * 2 ^ (64 - w.left) < 2 ^ k) whole (shl_lt w.left (64 - w.left) p.below))
    where
      whole : w.left + (64 - w.left) ≡ 64
      whole = omega (arith, p.few)

  pub coming : (s : List ℕ) → to_come s w ≡ ahead (bits_of w.left p.high) (unstuff (drop w.at s))
  coming s = ap (λ k. ahead (bits_of w.left k) (unstuff (drop w.at s))) high_is

-- ---- one data byte more

pub ahead_ahead : (bs cs : List ℕ) (p : Plain) → ahead (bs ++ cs) p ≡ ahead bs (ahead cs p)
ahead_ahead bs cs p = ap (λ l. plain l p.after) (append_assoc bs cs p.bits)

pub bits_behind : (m n a b : ℕ) → b < 2 ^ n → bits_of (m + n) (a * 2 ^ n + b) ≡ bits_of m a ++ bits_of n b
bits_behind m n a b h = ap (λ k. bits_of (m + n) (a * 2 ^ n + k)) (sym (mod-eq_of_lt h)) ∙ bits_append m n a b

module _ {w : Wide} (p : Proper w) (room : w.left ≤ 56) (x at : ℕ) (byte : x < 256) where
  up : 64 - w.left ≡ 8 + (56 - w.left)
  up = omega arith

  down : 64 - (w.left + 8) ≡ 56 - w.left
  down = omega arith

  sum : w.acc + x * 2 ^ (56 - w.left) ≡ (p.high * 256 + x) * 2 ^ (56 - w.left)
  sum =
      ap (λ k. k + x * 2 ^ (56 - w.left)) (p.is ∙ ap (λ k. p.high * 2 ^ k) up ∙ ap (λ k. p.high * k) (pow-add 2 8 (56 - w.left)) ∙ sym (mul_assoc p.high 256 (2 ^ (56 - w.left))))
      ∙ sym (add-mul (p.high * 256) x (2 ^ (56 - w.left)))

  joined_below : p.high * 256 + x < 2 ^ (w.left + 8)
  joined_below = rw (pow-add 2 w.left 8) (digits_lt p.below byte)

  sum_fits : w.acc + x * 2 ^ (56 - w.left) < 2 ^ 64
  sum_fits = rw sum (subst (λ k. (p.high * 256 + x) * 2 ^ (56 - w.left) < 2 ^ k) whole (shl_lt (w.left + 8) (56 - w.left) joined_below))
    where
      whole : w.left + 8 + (56 - w.left) ≡ 64
      whole = omega arith

  joined_proper : Proper (joined w x at)
  joined_proper =
      record {
        high = p.high * 256 + x;
        few = omega arith;
        below = joined_below;
        is = mod-eq_of_lt sum_fits ∙ sum ∙ ap (λ k. (p.high * 256 + x) * 2 ^ k) (sym down);
      }

  joined_bits : bits_of (w.left + 8) (p.high * 256 + x) ≡ bits_of w.left p.high ++ bits_of 8 x
  joined_bits = bits_behind w.left 8 p.high x byte

  -- it is to come before, and is there after
  joined_coming : (s : List ℕ) → unstuff (drop w.at s) ≡ ahead (bits_of 8 x) (unstuff (drop at s)) → to_come s (joined w x at) ≡ to_come s w
  unfolding joined_proper
  joined_coming s e =
      coming joined_proper s
      ∙ ap (λ l. ahead l (unstuff (drop at s))) joined_bits
      ∙ ahead_ahead (bits_of w.left p.high) (bits_of 8 x) (unstuff (drop at s))
      ∙ ap (ahead (bits_of w.left p.high)) (sym e)
      ∙ sym (coming p s)

-- ---- filling up

-- where no data byte comes
pub record Bared (s : List ℕ) (at : ℕ) : Type 0 where
  pub none_left : unstuff (drop at s) ≡ plain [] (drop at s)

-- so many bits are there, or all that come
abbrev pub Enough : List ℕ → ℕ → Wide → Type 0
Enough s n w = (n ≤ w.left) ⊎ Bared s w.at

-- filling up: the same is to come, and the cursor stays proper
pub record Same (s : List ℕ) (w r : Wide) : Type 0 where
  pub same : to_come s r ≡ to_come s w
  pub proper : Proper r

-- a byte came, or none comes, or there is no room
data Byte (s : List ℕ) (w r : Wide) : Type 0 where
  came : Same s w r → r.left ≡ w.left + 8 → Byte s w r
  stays : r ≡ w → Bared s w.at → Byte s w r
  full : r ≡ w → 56 < w.left → Byte s w r

byte_more_lem : (s : List ℕ) → AllBytes s → (w : Wide) → Proper w → Byte s w (byte_more s w)
unfolding byte_more
byte_more_lem s bytes w p = room (leb w.left 56) refl
  where
    here : (u : List ℕ) → drop w.at s ≡ u → get_elem? s w.at ≡ head u
    here u e = head_drop s w.at ∙ ap head e

    next : (u : List ℕ) → drop w.at s ≡ u → get_elem? s (w.at + 1) ≡ head (rest_of u)
    next u e = head_drop s (w.at + 1) ∙ ap head (drop_one s w.at ∙ ap rest_of e)

    go : w.left ≤ 56 → (u : List ℕ) → drop w.at s ≡ u → AllBytes u → Byte s w (behind_byte s w (head u))
    go h [] e b = stays refl (record { none_left = rw e refl })
    go h (x ∷ l) e b = test (eqb x 255) refl
      where
        data_byte : (y at : ℕ) → y < 256 → unstuff (drop w.at s) ≡ ahead (bits_of 8 y) (unstuff (drop at s)) → Byte s w (joined w y at)
        data_byte y at i g = came (record { same = joined_coming p h y at i s g; proper = joined_proper p h y at i }) refl

        second : (m : List ℕ) → l ≡ m → eqb x 255 ≡ true → Byte s w (behind_full w (head m))
        second [] f q = stays refl (record { none_left = rw (e, f, q) refl })
        second (y ∷ m) f q = zero_byte (eqb y 0) refl
          where
            zero_byte : (t : Bool) → eqb y 0 ≡ t → Byte s w (behind_full w (some y))
            zero_byte true z =
                rw z (data_byte 255 (w.at + 2) (lit< tt)
                (ap unstuff (e ∙ ap (λ k. x ∷ k) f)
                ∙ rw (q, z) (ap (λ k. ahead (bits_of 8 255) (unstuff k))
                (sym (drop_two s w.at ∙ ap (λ k. rest_of (rest_of k)) (e ∙ ap (λ k. x ∷ k) f))))))
            zero_byte false z = rw z (stays refl (record { none_left = rw (e, f, q, z) refl }))

        test : (t : Bool) → eqb x 255 ≡ t → Byte s w (behind_byte s w (some x))
        test true q = rw (q, next (x ∷ l) e) (second l refl q)
        test false q =
            rw q (data_byte x (w.at + 1) b.0
            (ap unstuff e ∙ unstuff_data x l q ∙ ap (λ k. ahead (bits_of 8 x) (unstuff k)) (sym (drop_one s w.at ∙ ap rest_of e))))

    room : (t : Bool) → leb w.left 56 ≡ t → Byte s w (byte_more s w)
    room true q = rw (q, here (drop w.at s) refl) (go (leb-true w.left 56 q) (drop w.at s) refl (bytes_drop w.at s bytes))
    room false q = rw q (full refl (leb-false w.left 56 q))

same_self : {s : List ℕ} {w : Wide} → Proper w → Same s w w
same_self p = record { same = refl; proper = p }

same_then : {s : List ℕ} {u v w : Wide} → Same s u v → Same s v w → Same s u w
same_then a b = record { same = b.same ∙ a.same; proper = b.proper }

-- n bytes, or all that come or have room
pub record Fuller (s : List ℕ) (n : ℕ) (w r : Wide) : Type 0 where
  pub still : Same s w r
  pub enough : (57 ≤ r.left) ⊎ Bared s r.at ⊎ (r.left ≡ w.left + 8 * n)

pub bytes_more_lem : (s : List ℕ) → AllBytes s → (n : ℕ) (w : Wide) → Proper w → Fuller s n w (bytes_more s n w)
unfolding bytes_more
bytes_more_lem s bytes zero w p = record { still = same_self p; enough = inr (inr (omega arith)) }
bytes_more_lem s bytes (suc n) w p = go (byte_more_lem s bytes w p) (bytes_more_lem s bytes n (byte_more s w))
  where
    go : Byte s w (byte_more s w) → (Proper (byte_more s w) → Fuller s n (byte_more s w) (bytes_more s n (byte_more s w))) → Fuller s (suc n) w (bytes_more s n (byte_more s w))
    go (came m e) ih =
        let f = ih m.proper in
        record {
          still = same_then m f.still;
          enough = ⊎_elim inl (λ r. ⊎_elim (λ b. inr (inl b)) (λ g. inr (inr (omega (arith, g, e)))) r) f.enough;
        }
    go (stays e b) ih = subst⁻¹ (λ r. Fuller s (suc n) w r) (ap (bytes_more s n) e ∙ stuck s n w e) (record { still = same_self p; enough = inr (inl b) })
    go (full e h) ih = subst⁻¹ (λ r. Fuller s (suc n) w r) (ap (bytes_more s n) e ∙ stuck s n w e) (record { still = same_self p; enough = inl h })

-- `filled` and `topped`: the same is to come, and there are so many bits, or all
pub record Ready (s : List ℕ) (n : ℕ) (w r : Wide) : Type 0 where
  pub still : Same s w r
  pub enough : Enough s n r

module _ (s : List ℕ) (bytes : AllBytes s) (w : Wide) (p : Proper w) where
  pub filled_ready : Ready s 57 w (filled s w)
  unfolding filled
  filled_ready =
      let f = bytes_more_lem s bytes 8 w p in
      record { still = f.still; enough = ⊎_elim inl (λ r. ⊎_elim inr (λ g. inl (omega (arith, g))) r) f.enough }

  pub topped_ready : Ready s 32 w (topped s w)
  unfolding topped
  topped_ready = go (leb 32 w.left) refl (word_at s w.at) refl
    where
      go : (t : Bool) → leb 32 w.left ≡ t → (o : Std.Option ℕ) → word_at s w.at ≡ o → Ready s 32 w (topped s w)
      go true e o f = rw e (record { still = same_self p; enough = inl (leb-true 32 w.left e) })
      go false e (Some v) f =
          rw (e, f)
          (record {
            still = (bytes_more_lem s bytes 4 w p).still;
            enough = inl (subst⁻¹ (λ r. 32 ≤ r.left) (four_bytes s w.at w.acc w.left (leb-false 32 w.left e) (four s w.at f)) (omega arith));
          })
      go false e None f = rw (e, f) (record { still = filled_ready.still; enough = ⊎_elim (λ h. inl (omega (arith, h))) inr filled_ready.enough })

-- ---- taking n bits

module _ {w : Wide} (p : Proper w) (n : ℕ) (h : n ≤ w.left) where
  abbrev rest : ℕ
  rest = w.left - n

  taken_acc : w.acc * 2 ^ n % 2 ^ 64 ≡ p.high % 2 ^ rest * 2 ^ (64 - rest)
  taken_acc =
      ap (λ k. k * 2 ^ n % 2 ^ 64) p.is
      ∙ ap (λ k. k % 2 ^ 64) (mul_assoc p.high (2 ^ (64 - w.left)) (2 ^ n) ∙ ap (λ k. p.high * k) (sym (pow-add 2 (64 - w.left) n)) ∙ ap (λ k. p.high * 2 ^ k) up)
      ∙ ap (λ k. k * 2 ^ (64 - rest) % 2 ^ 64) (sym (split p.high rest))
      ∙ ap (λ k. k % 2 ^ 64) (add-mul (p.high / 2 ^ rest * 2 ^ rest) (p.high % 2 ^ rest) (2 ^ (64 - rest)))
      ∙ ap (λ k. (k + p.high % 2 ^ rest * 2 ^ (64 - rest)) % 2 ^ 64)
      (mul_assoc (p.high / 2 ^ rest) (2 ^ rest) (2 ^ (64 - rest)) ∙ ap (λ k. p.high / 2 ^ rest * k) (sym (pow-add 2 rest (64 - rest)) ∙ ap (λ k. 2 ^ k) whole))
      ∙ low (p.high / 2 ^ rest) 64 (subst (λ k. p.high % 2 ^ rest * 2 ^ (64 - rest) < 2 ^ k) whole (shl_lt rest (64 - rest) (mod-lt p.high (pow_pos rest))))
    where
      up : 64 - w.left + n ≡ 64 - rest
      up = omega (arith, p.few)

      whole : rest + (64 - rest) ≡ 64
      whole = omega (arith, p.few)

  pub taken_proper : Proper (taken n w)
  taken_proper = record { high = p.high % 2 ^ rest; few = omega (arith, p.few); below = mod-lt p.high (pow_pos rest); is = taken_acc }

  -- the number that they make
  top_is : w.acc / 2 ^ (64 - n) ≡ p.high / 2 ^ rest
  top_is = ap (λ k. w.acc / 2 ^ k) there ∙ sym (shr-shr w.acc (64 - w.left) rest) ∙ ap (λ k. k / 2 ^ rest) (high_is p)
    where
      there : 64 - n ≡ 64 - w.left + rest
      there = omega (arith, p.few)

  pub top_below : w.acc / 2 ^ (64 - n) < 2 ^ n
  top_below = rw top_is (shr_lt n rest (subst (λ k. p.high < 2 ^ k) there p.below))
    where
      there : w.left ≡ n + rest
      there = omega arith

  pub taken_coming : (s : List ℕ) → to_come s w ≡ ahead (bits_of n (w.acc / 2 ^ (64 - n))) (to_come s (taken n w))
  unfolding taken_proper
  taken_coming s =
      coming p s
      ∙ ap (λ l. ahead l (unstuff (drop w.at s))) (ap₂ bits_of there (sym (split p.high rest)) ∙ bits_behind n rest (p.high / 2 ^ rest) (p.high % 2 ^ rest) (mod-lt p.high (pow_pos rest)))
      ∙ ahead_ahead (bits_of n (p.high / 2 ^ rest)) (bits_of rest (p.high % 2 ^ rest)) (unstuff (drop w.at s))
      ∙ ap₂ (λ k q. ahead (bits_of n k) q) (sym top_is) (sym (coming taken_proper s))
    where
      there : w.left ≡ n + rest
      there = omega arith

  -- a field and what it means in one step
  pub field_taken : (s : List ℕ) → field pop n (to_come s w) ≡ got (w.acc / 2 ^ (64 - n)) (to_come s (taken n w))
  field_taken s = ap (field pop n) (taken_coming s) ∙ field_written n (w.acc / 2 ^ (64 - n)) (to_come s (taken n w)).bits (to_come s (taken n w)).after top_below

  pub amplitude_taken : (s : List ℕ) → amplitude pop n (to_come s w) ≡ got (meaning n (w.acc / 2 ^ (64 - n))) (to_come s (taken n w))
  unfolding amplitude
  amplitude_taken s = rw (field_taken s)

-- ---- bits behind others

mod_times : (a b m : ℕ) → a % m * b % m ≡ a * b % m
mod_times a b m = sym (add-mul-mod_self_right (a % m * b) (a / m * b) m) ∙ ap (λ k. k % m) whole
  where
    regroup : (q b m : ℕ) → q * b * m ≡ q * m * b
    regroup q b m = mul_assoc q b m ∙ ap (λ k. q * k) (mul_comm b m) ∙ sym (mul_assoc q m b)

    whole : a % m * b + a / m * b * m ≡ a * b
    whole = ap (λ k. a % m * b + k) (regroup (a / m) b m) ∙ sym (add-mul (a % m) (a / m * m) b) ∙ ap (λ k. k * b) (mod-add-div' a m)

-- m bits and then n
pub taken_twice : (m n : ℕ) (w : Wide) → taken n (taken m w) ≡ taken (m + n) w
taken_twice m n w =
    ap₂ (λ x y. record { at = w.at; acc = x; left = y })
    (mod_times (w.acc * 2 ^ m) (2 ^ n) (2 ^ 64) ∙ ap (λ k. k % 2 ^ 64) (mul_assoc w.acc (2 ^ m) (2 ^ n) ∙ ap (λ k. w.acc * k) (sym (pow-add 2 m n))))
    (less w.left m n)
  where
    less : (l m n : ℕ) → l - m - n ≡ l - (m + n)
    less l m n = omega arith

-- the number that the n bits behind m make
pub top_behind : (acc m n : ℕ) → m + n ≤ 64 → acc * 2 ^ m % 2 ^ 64 / 2 ^ (64 - n) ≡ acc / 2 ^ (64 - (m + n)) % 2 ^ n
top_behind acc m n h =
    ap (λ k. acc * 2 ^ m % 2 ^ k / 2 ^ (64 - n)) whole
    ∙ powers.field (acc * 2 ^ m) n (64 - n)
    ∙ ap (λ k. k % 2 ^ n) (ap (λ k. acc * 2 ^ m / 2 ^ k) there ∙ sym (shr-shr (acc * 2 ^ m) m (64 - (m + n))) ∙ ap (λ k. k / 2 ^ (64 - (m + n))) (shl-shr acc m))
  where
    whole : 64 ≡ n + (64 - n)
    whole = omega arith

    there : 64 - n ≡ m + (64 - (m + n))
    there = omega arith
