-- What the plain engine says of a block is what was read there.
use mathlib.Core.Path.{◌≡◌, refl, subst⁻¹}
use mathlib.Core.List.{List}
use lib.IntN.{ℤ}
use Rattle.std.specs.Prelude.{Result}
use Rattle.reading.specs.declared.Bits.{Bits}
use Rattle.reading.specs.declared.BlockRead.{BlockRead}
use Rattle.reading.specs.declared.Fault.{Fault}
use Rattle.reading.specs.Reader.{Read, got, fault}
use Rattle.reading.specs.Code.Answers.{said, levels_of, levels_or}
use Rattle.jpeg_engine.specs.Engines.{Alike}

pub alike_said : (o : Read Bits (List ℤ)) {x : Result (BlockRead Bits) Fault} {levels : List ℤ} → x ≡ said o → levels ≡ levels_of o → Alike (λ b at. b ≡ at) o x levels
unfolding said levels_of levels_or
alike_said (got l b) {x} {levels} e g = subst⁻¹ (λ (y : Result (BlockRead Bits) Fault). Alike (λ b at. b ≡ at) (got l b) y levels) e (g, refl, refl, refl)
alike_said (fault f) {x} {levels} e g = subst⁻¹ (λ (y : Result (BlockRead Bits) Fault). Alike (λ b at. b ≡ at) (fault f) y levels) e refl
