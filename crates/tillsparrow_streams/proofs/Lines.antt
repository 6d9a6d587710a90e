-- What std prints of a line is the line's text. Assumes nothing.
use Rattle.std.proofs.Common.{◌≡◌, refl, ℕ, ◌<◌, ◌^◌, cond, List, [], ◌∷◌, ◌++◌, eqb, append_assoc, ne_eqb}
use Rattle.std.specs.Fmt.{decimal as printed}
use Rattle.reading.specs.declared.Record.{Record}
use Rattle.reading.specs.declared.Refusal.{Refusal}
use Rattle.reading.specs.Calls.{number_of}
use Rattle.tillsparrow_streams.specs.declared.Line.{Line}
use Rattle.tillsparrow_streams.specs.declared.Line.TheVariants.{Refused, Picture}
use Rattle.tillsparrow_streams.specs.Lines.{refused, picture_head, line_text}
use Rattle.tillsparrow_streams.proofs.Digits.{decimal_is}

-- `refused `, a number and a newline
pub refusal_printed :
    (line : Line) (x : Refusal) (n : ℕ)
    → line ≡ Refused x
    → n ≡ number_of x
    → n < 2 ^ 64
    → 114 ∷ 101 ∷ 102 ∷ 117 ∷ 115 ∷ 101 ∷ 100 ∷ 32 ∷ (printed n ++ 10 ∷ []) ≡ line_text line
unfolding refused line_text
refusal_printed line x n told number small = rw (told, ← number, decimal_is n small) refl

pub kind_of_one : (channels : ℕ) → channels ≡ 1 → ◌≡◌ {A = List ℕ} (80 ∷ 53 ∷ []) (80 ∷ cond (eqb channels 1) 53 54 ∷ [])
kind_of_one channels e = rw e refl

pub kind_of_more : (channels : ℕ) → (channels ≡ 1 → ⊥) → ◌≡◌ {A = List ℕ} (80 ∷ 54 ∷ []) (80 ∷ cond (eqb channels 1) 53 54 ∷ [])
kind_of_more channels e = rw (ne_eqb channels 1 e) refl

-- a kind, a newline, the sides and 255
pub head_printed :
    (line : Line) (r : Record) (kind : List ℕ)
    → line ≡ Picture r
    → kind ≡ 80 ∷ cond (eqb r.frame.channels 1) 53 54 ∷ []
    → r.frame.width < 2 ^ 64
    → r.frame.height < 2 ^ 64
    → kind ++ 10 ∷ (printed r.frame.width ++ 32 ∷ (printed r.frame.height ++ 10 ∷ 50 ∷ 53 ∷ 53 ∷ 10 ∷ [])) ≡ line_text line
unfolding picture_head line_text
head_printed line r kind told e wide high = rw (told, e, decimal_is r.frame.width wide, decimal_is r.frame.height high) (simp append_assoc)
