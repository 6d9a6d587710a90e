-- What a writer of several symbols answers: all their bits are put, or a code is wanting.
use Rattle.std.specs.Prelude.{◌≡◌, List, ℕ, Option, Some, None}
use Rattle.std.proofs.Math.Option.{none, some}
use Rattle.reading.specs.Settled.{Written}
use Rattle.jpeg_write_bits.specs.declared.Pen.{Pen}
use Rattle.jpeg_write_bits.specs.Page.{Page, page, put_all, Proper}

-- a page to which the bits of `w` were put
pub record Wrote (w : Written) (q q' : Page) : Type 0 where
  pub bits : List ℕ
  pub told : w ≡ some bits
  pub same : q' ≡ put_all q bits
  pub proper : Proper q'.pen

-- what a writer answers, with the bytes as it leaves them; for want of a code they may be anything
abbrev pub Told : Written → Page → Option Pen → List ℕ → Type 0
Told w q (Some p) out = Wrote w q (page out p)
Told w q None out = w ≡ none

pub record Puts (w : Written) (q : Page) (r : Option Pen) (out : List ℕ) : Type 0 where
  pub told : Told w q r out
