-- `put_on`: a block by its channel's part of the words.
use Prim.Native.Nat.{ℕ, ◌+◌, ◌*◌, ◌-◌}
use mathlib.Core.Path.{◌≡◌, ◌∙◌, ap, ap₂}
use mathlib.Core.List.{List}
use native.Mathlib.Omega.{arith}
use lib.IntN.{ℤ}
use lib.ListN.{take, drop}
use mir.Syntax.{w32}
use mir.Val.{SFits, to_z, of_z}
use mir.Facts.{to_z-of_z}
use Rattle.reading.specs.Settled.{block_by}
use Rattle.jpeg_write_codes.specs.Words.{coder_of}
use Rattle.jpeg_write_codes.specs.Sheets.{words_in}
use Rattle.jpeg_write_scan.proofs.Inks.{moves_none, moves_block}
use Rattle.jpeg_write_scan.proofs.put_on.Goals as goal

-- the two parts of the words have 256 each
parts : (ws : List ℕ) (c : ℕ) (z : ℤ) (l : List ℤ) → SFits w32 z
    → block_by (coder_of (take (512 * c + 256 - 512 * c) (drop (512 * c) ws))) (coder_of (take (512 * c + 256 + 256 - (512 * c + 256)) (drop (512 * c + 256) ws))) (to_z w32 (of_z w32 z)) l
    ≡ block_by (coder_of (words_in (512 * c) ws)) (coder_of (words_in (512 * c + 256) ws)) z l
parts ws c z l f =
    let a : 512 * c + 256 - 512 * c ≡ 256 = omega arith in
    let b : 512 * c + 256 + 256 - (512 * c + 256) ≡ 256 = omega arith in
    ap₂ (λ (x y : ℕ). block_by (coder_of (take x (drop (512 * c) ws))) (coder_of (take y (drop (512 * c + 256) ws))) (to_z w32 (of_z w32 z)) l) a b
    ∙ ap (λ (d : ℤ). block_by (coder_of (words_in (512 * c) ws)) (coder_of (words_in (512 * c + 256) ws)) d l) (to_z-of_z f)

pub returns-in_err-ink : goal.returns-in_err-ink
returns-in_err-ink c = moves_none c.in_err-ink.was c.from_residual.ensures

pub returns : goal.returns
returns c = moves_block c.in_ok-ink.was (parts c.args.words.now c.args.c c.args.pred c.args.levels.now c.ranges.pred) c.put_block.ensures
