-- What the code's answers say of a bit and of a field that were read.
use Prim.Native.Nat.{ℕ, ◌^◌, ◌<◌, ◌≤◌}
use mathlib.Core.Path.{◌≡◌, sym, ◌∙◌, ap}
use mathlib.Core.List.{List}
use lib.Dec.{leb, leb→le}
use Rattle.reading.specs.declared.Bits.{Bits}
use Rattle.std.specs.declared.result.Result.{Result}
use Rattle.std.specs.declared.result.Result.TheVariants.{Ok}
use Rattle.reading.specs.declared.Fault.{Fault}
use Rattle.reading.specs.Reader.{got, rule}
use Rattle.reading.specs.Bits.{one, field}
use Rattle.reading.specs.Code.Fields.{short_field}
use Rattle.reading.specs.Code.Answers.{read_of}
use Rattle.reading.proofs.Readings.{two, rule_so}
use Rattle.reading.proofs.FineRead.{file_bits, field_below}

pub bit_below : (s : List ℕ) (b : Bits) {r : Result (ℕ × Bits) Fault} → read_of r ≡ one s b → {c : ℕ} {p : Bits} → r ≡ Ok (c, p) → c < 2
bit_below s b e {c} {p} g = file_bits s b p c (sym e ∙ ap read_of g)

-- what is known of a field that was read
pub record Sized (v n : ℕ) : Type 0 where
  pub few : n ≤ 16
  pub below : v < 2 ^ n

pub field_sized : (s : List ℕ) (b : Bits) (n : ℕ) {v : ℕ} {q : Bits} → short_field (one s) n b ≡ got v q → Sized v n
unfolding short_field field
field_sized s b n {v} {q} e =
    let w = two (rule (leb n 16) b) (λ _. field (one s) n) v q e in
    record {
      few = leb→le n 16 (rule_so (leb n 16) b w.at w.val w.fst);
      below = field_below (one s) (file_bits s) n w.at q v w.snd;
    }

pub read_sized : (s : List ℕ) (b : Bits) (n : ℕ) {r : Result (ℕ × Bits) Fault} → read_of r ≡ short_field (one s) n b → {v : ℕ} {q : Bits} → r ≡ Ok (v, q) → Sized v n
read_sized s b n e g = field_sized s b n (sym e ∙ ap read_of g)
