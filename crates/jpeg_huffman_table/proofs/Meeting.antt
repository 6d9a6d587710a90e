-- A symbol and its value at a bit place of the file and at a wide cursor that meet: by the plain walk, and by a look.
use Prim.Native.Nat.{ℕ, ◌-◌, ◌/◌, ◌%◌, ◌^◌, ◌≤◌}
use mathlib.Core.Path.{◌≡◌, refl, subst⁻¹}
use mathlib.Core.Bool.{Bool, true}
use mathlib.Core.List.{List}
use native.Mathlib.Omega.{arith}
use lib.ListN.{length}
use Rattle.std.specs.Prelude.{Ok, Err}
use Rattle.reading.specs.declared.Bits.{Bits}
use Rattle.reading.specs.declared.Fault.{Fault}
use Rattle.reading.specs.Reader.{got, fault}
use Rattle.reading.specs.Bits.{one, amplitude, meaning}
use Rattle.reading.specs.Huffman.{Table, symbol}
use Rattle.reading.specs.Code.Coming.{pop}
use Rattle.reading.proofs.Same.{Alike, symbol_alike, amplitude_alike}
use Rattle.reading.proofs.Unstuffed.{Pending, one_alike}
use Rattle.reading.proofs.FileBytes.{AllBytes}
use Rattle.jpeg_bits_wide.specs.declared.Wide.{Wide}
use Rattle.jpeg_bits_wide.specs.Cursor.{Meets, to_come, taken}
use Rattle.jpeg_bits_wide.proofs.Coming.{Enough, taken_proper}
use Rattle.jpeg_bits_wide.proofs.Meeting.{Found, alike_got, alike_fault, alike_both, Stands, stands_meets, meets_both, pending_there}
use Rattle.jpeg_huffman_table.specs.Symbols.{plainly}
use Rattle.jpeg_huffman_table.specs.Looks.{allowed, entry_at}
use Rattle.jpeg_huffman_table.proofs.Agreeing.{Holds, symbol_said, plain_agrees}
use Rattle.jpeg_huffman_table.proofs.Looking.{look_agrees, look_allowed, value_agrees}

-- the symbol at both
symbols_alike : {s : List ℕ} {b : Bits} {w : Wide} → Meets s b w → (t : Table) → Alike (Pending s) (symbol (one s) t b) (symbol pop t (to_come s w))
symbols_alike {s} {b} {w} m t = symbol_alike (Pending s) (one s) pop (one_alike s) t b (to_come s w) (pending_there m)

-- ---- the plain walk

-- they meet, and so many bits are there, or all that come
abbrev pub MeetsWith : List ℕ → ℕ → Bits → Wide → Type 0
MeetsWith s n b w = Meets s b w × Enough s n w

module _ {s : List ℕ} {b : Bits} {w : Wide} (bytes : AllBytes s) (m : Meets s b w) (t : Table) (few : length t.counts ≤ 16) where
  pub symbol_plain : Alike (MeetsWith s 41) (symbol (one s) t b) (symbol_said (plainly t s w))
  symbol_plain =
      alike_both (Pending s) (Holds s 41) (MeetsWith s 41) (λ c p q h k. (stands_meets s c p q h k.0, k.1))
      (symbol (one s) t b) (symbol pop t (to_come s w)) (symbol_said (plainly t s w))
      (symbols_alike m t) (plain_agrees s bytes t few w m.proper)

  -- by an answer of `plain`: a fault, or a symbol
  pub plain_stops : {f : Fault} → Err f ≡ plainly t s w → symbol (one s) t b ≡ fault f
  plain_stops {f} e =
      alike_fault (MeetsWith s 41) (symbol (one s) t b) f (subst⁻¹ (λ r. Alike (MeetsWith s 41) (symbol (one s) t b) (symbol_said r)) e symbol_plain)

  pub plain_finds : {x : ℕ} {q : Wide} → Ok (x, q) ≡ plainly t s w → Found (MeetsWith s 41) (symbol (one s) t b) x q
  plain_finds {x} {q} e =
      alike_got (MeetsWith s 41) (symbol (one s) t b) x q (subst⁻¹ (λ r. Alike (MeetsWith s 41) (symbol (one s) t b) (symbol_said r)) e symbol_plain)

-- ---- a look

module _
    {s : List ℕ} {b : Bits} {w : Wide} (m : Meets s b w)
    (k : ℕ) (few : k ≤ 64) (first : Bool) (t : Table)
    {e : ℕ} (is : e ≡ entry_at k first t (w.acc / 2 ^ (64 - k))) (some : e ≡ 0 → ⊥) (there : e / 256 ≤ w.left) where
  -- the entry's symbol may stand
  pub symbol_allowed : allowed first (e % 256) ≡ true
  symbol_allowed = look_allowed k few s w m.proper first t is some there

  -- the symbol
  pub symbol_looked : Found (Meets s) (symbol (one s) t b) (e % 256) (taken (e / 256 - e % 16) w)
  symbol_looked =
      alike_got (Meets s) (symbol (one s) t b) (e % 256) (taken (e / 256 - e % 16) w)
      (meets_both s (symbol (one s) t b) (symbol pop t (to_come s w)) (got (e % 256) (taken (e / 256 - e % 16) w)) (symbols_alike m t)
      (subst⁻¹ (λ y. Alike (Stands s) (got (e % 256) (taken (e / 256 - e % 16) w)) y) (look_agrees k few s w m.proper first t is some there)
      (refl, (refl, taken_proper m.proper (e / 256 - e % 16) (omega (arith, there))))))

  -- the value behind it
  pub value_looked :
      {c : Bits}
      → Meets s c (taken (e / 256 - e % 16) w)
      → Found (Meets s) (amplitude (one s) (e % 16) c) (meaning (e % 16) (w.acc / 2 ^ (64 - e / 256) % 2 ^ (e % 16))) (taken (e / 256) w)
  value_looked {c} n =
      let q = taken (e / 256 - e % 16) w in
      let v = meaning (e % 16) (w.acc / 2 ^ (64 - e / 256) % 2 ^ (e % 16)) in
      alike_got (Meets s) (amplitude (one s) (e % 16) c) v (taken (e / 256) w)
      (meets_both s (amplitude (one s) (e % 16) c) (amplitude pop (e % 16) (to_come s q)) (got v (taken (e / 256) w))
      (amplitude_alike (Pending s) (one s) pop (one_alike s) (e % 16) c (to_come s q) (pending_there n))
      (subst⁻¹ (λ y. Alike (Stands s) (got v (taken (e / 256) w)) y) (value_agrees k few s w m.proper first t is some there)
      (refl, (refl, taken_proper m.proper (e / 256) there))))
