-- `word_at`: the first place has a table of its own.
use mathlib.Core.Path.{◌≡◌, ◌∙◌, ap}
use mathlib.Core.List.{List}
use Prim.Native.Nat.{ℕ}
use lib.ListN.{get_or}
use denote.Bor.{Bor}
use Rattle.jpeg_write_scan.proofs.Turns.{word_first, word_later}
use Rattle.jpeg_write_scan.proofs.word_at.Goals as goal
use Rattle.jpeg_write_scan.proofs.word_at.Goals.{then-place-eq0, else-place-eq0}

-- what stands at a place of a list that was chosen
looked : (x : ℕ) {a b : Bor (List ℕ)} → a ≡ b → get_or a.now x 0 ≡ get_or b.now x 0
looked x = ap (λ (b : Bor (List ℕ)). get_or b.now x 0)

pub returns : goal.returns
returns c =
    c.word_of.ensures
    ∙ elim c.if-place-eq0.branch [
      | then-place-eq0 w ↦ looked c.args.x w.word_of-is ∙ word_first _ _ _ _ w.if-place-eq0.true
      | else-place-eq0 w ↦ looked c.args.x w.word_of-is ∙ word_later _ _ _ _ w.if-place-eq0.false
    ]
