-- A block is written by the words of its channel as the plan has it.
use Prim.Native.Nat.{ℕ, zero, suc, ◌+◌, ◌*◌, ◌<◌}
use mathlib.Core.Path.{◌≡◌, refl, sym, ap, ap₂, ◌∙◌}
use mathlib.Core.List.{List}
use native.Mathlib.Nat.{not-suc-le-zero, le_of_suc-le-suc}
use native.Mathlib.Omega.{arith}
use lib.IntN.{ℤ}
use lib.ListN.{length, get_or}
use Rattle.reading.specs.Huffman.{Table, table_at, code_of}
use Rattle.reading.specs.Settled.{block_by, block_bits}
use Rattle.reading.specs.Scan as scan
use Rattle.jpeg_scan_plan.specs.declared.Plan.{Plan}
use Rattle.jpeg_scan_plan.specs.Plans.{Stands}
use Rattle.jpeg_write_codes.specs.Words.{code_words, coder_of}
use Rattle.jpeg_write_codes.specs.Sheets.{words_in, sheet}
use Rattle.jpeg_write_codes.proofs.SheetFilled.{sheet_length, sheet_part}
use Rattle.jpeg_huffman_table.specs.Looks.{paired}
use Rattle.jpeg_write_scan.proofs.Coders.{block_alike, words_alike}

pub sheet_long : (t : List ℕ) (n : Plan) {ws : List ℕ} → ws ≡ sheet t (paired n.dcs n.acs) → length ws ≡ 2048
sheet_long t n w = ap length w ∙ sheet_length t (paired n.dcs n.acs)

base_dc : (n : Plan) (c : ℕ) → c < 4 → get_or (paired n.dcs n.acs) (2 * c) 0 ≡ get_or n.dcs c 0
base_dc n zero h = refl
base_dc n (suc zero) h = refl
base_dc n (suc (suc zero)) h = refl
base_dc n (suc (suc (suc zero))) h = refl
base_dc n (suc (suc (suc (suc c)))) h =
    absurd (not-suc-le-zero (le_of_suc-le-suc (le_of_suc-le-suc (le_of_suc-le-suc (le_of_suc-le-suc h)))))

base_ac : (n : Plan) (c : ℕ) → c < 4 → get_or (paired n.dcs n.acs) (2 * c + 1) 0 ≡ get_or n.acs c 0
base_ac n zero h = refl
base_ac n (suc zero) h = refl
base_ac n (suc (suc zero)) h = refl
base_ac n (suc (suc (suc zero))) h = refl
base_ac n (suc (suc (suc (suc c)))) h =
    absurd (not-suc-le-zero (le_of_suc-le-suc (le_of_suc-le-suc (le_of_suc-le-suc (le_of_suc-le-suc h)))))

module _ {t : List ℕ} {n : Plan} {p : scan.Plan} {ws : List ℕ} (st : Stands t n p) (w : ws ≡ sheet t (paired n.dcs n.acs)) (c : ℕ) (h : c < 4) where
  pub words_dc : words_in (512 * c) ws ≡ code_words (table_at t (get_or n.dcs c 0)) 256
  words_dc =
      let place : 512 * c ≡ 256 * (2 * c) = omega arith in
      ap₂ words_in place w ∙ sheet_part t (paired n.dcs n.acs) (2 * c) (omega arith) ∙ ap (λ (b : ℕ). code_words (table_at t b) 256) (base_dc n c h)

  pub words_ac : words_in (512 * c + 256) ws ≡ code_words (table_at t (get_or n.acs c 0)) 256
  words_ac =
      let place : 512 * c + 256 ≡ 256 * (2 * c + 1) = omega arith in
      ap₂ words_in place w ∙ sheet_part t (paired n.dcs n.acs) (2 * c + 1) (omega arith) ∙ ap (λ (b : ℕ). code_words (table_at t b) 256) (base_ac n c h)

  -- by the words of its channel a block is written as the plan has it
  pub sheet_block : (z : ℤ) (l : List ℤ) → block_bits (p.channels c) z l ≡ block_by (coder_of (words_in (512 * c) ws)) (coder_of (words_in (512 * c + 256) ws)) z l
  sheet_block z l =
      ap₂ (λ (dc ac : Table). block_by (code_of dc) (code_of ac) z l) (st.dc_is c h) (st.ac_is c h)
      ∙ sym (block_alike (words_alike t (get_or n.dcs c 0) 256 (omega arith)) (words_alike t (get_or n.acs c 0) 256 (omega arith)) z l)
      ∙ sym (ap₂ (λ (a b : List ℕ). block_by (coder_of a) (coder_of b) z l) words_dc words_ac)
