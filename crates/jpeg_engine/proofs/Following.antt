-- A cursor that follows a cursor of the scan: over a restart, by what was answered there.
use mathlib.Core.Path.{◌≡◌, refl, sym, ap, subst}
use Rattle.std.specs.Prelude.{Result, Ok, Err}
use Rattle.reading.specs.declared.Bits.{Bits}
use Rattle.reading.specs.declared.Fault.{Fault}
use Rattle.reading.specs.declared.ScanCursor.{ScanCursor}
use Rattle.jpeg_engine.specs.Engines.{Follows, Led}

module _ {P : Type 0} (meets : Bits → P → Type 0) where
  -- a restart that led on
  pub record LedOn (x : Result (ScanCursor Bits) Fault) (c : ScanCursor P) : Type 0 where
    pub start : ScanCursor Bits
    pub is : Ok start ≡ x
    pub follows : Follows meets start c

  pub led_on : (x : Result (ScanCursor Bits) Fault) {c : ScanCursor P} → Led meets x (Ok c) → LedOn x c
  led_on (Ok q) f = record { start = q; is = refl; follows = f }
  led_on (Err f) l = absurd l

  pub led_off : (x : Result (ScanCursor Bits) Fault) {f : Fault} → Led {P = P} meets x (Err f) → Err f ≡ x
  led_off (Ok q) l = absurd l
  led_off (Err g) e = ap Err (sym e)

  -- and back
  pub led_to_one : {q : ScanCursor Bits} {x : Result (ScanCursor Bits) Fault} {c : ScanCursor P} → Follows meets q c → Ok q ≡ x → Led meets x (Ok c)
  led_to_one {c = c} f e = subst (λ (y : Result (ScanCursor Bits) Fault). Led meets y (Ok c)) e f

  pub led_to_none : {g : Fault} {x : Result (ScanCursor Bits) Fault} → Err g ≡ x → Led {P = P} meets x (Err g)
  led_to_none {g} e = subst (λ (y : Result (ScanCursor Bits) Fault). Led {P = P} meets y (Err g)) e refl
