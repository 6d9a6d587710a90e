-- A word's code with a field behind it, as one number, and what is written of it.
use Prim.Native.Nat.{ℕ, ◌+◌, ◌*◌, ◌/◌, ◌%◌, ◌^◌, ◌<◌, ◌≤◌}
use mathlib.Core.Path.{◌≡◌, sym, ap, ◌∙◌, subst}
use mathlib.Core.Bool.{Bool, true, false, cond}
use mathlib.Core.List.{List, ◌++◌}
use mathlib.Core.Option.{none, some}
use native.Mathlib.Nat.{suc-ne-zero}
use borrow.Author.Tests.{le-leb, lt-leb}
use Rattle.std.specs.Prelude.{Some, None}
use Rattle.reading.specs.Huffman.{bits_of}
use Rattle.reading.specs.Settled.{Written, ◌then◌}
use Rattle.reading.specs.Tests.{within}
use Rattle.jpeg_write_codes.specs.Words.{word_bits, word_code}
use Rattle.reading.proofs.LowBits.{bits_append}
use Rattle.jpeg_write_bits.specs.declared.Pen.{Pen}
use Rattle.jpeg_write_bits.specs.Page.{Page, page, put_all, proper, Proper, symbol_bits, stroke, stroke_of}
use Rattle.jpeg_write_bits.proofs.Bytes.{all_append}
use Rattle.jpeg_write_bits.proofs.Propers.{proper_bits}

module _ (w field n : ℕ) where
  code_none : within 1 16 (w / 65536) ≡ false → word_code w field n ≡ none
  unfolding word_code word_bits
  code_none h = rw h

  code_is : {q : ℕ} → within 1 16 (w / 65536) ≡ true → q ≡ 2 ^ n → word_code w field n ≡ some (bits_of (w / 65536 + n) (w % 65536 * q + field % q))
  unfolding word_code word_bits
  code_is h e = rw (e, h) (ap some (sym (bits_append (w / 65536) n (w % 65536) field)))

-- ---- what is written

stroke_none : {w : Written} (q : Page) → w ≡ none → stroke None q.out ≡ stroke_of w q
unfolding stroke_of
stroke_none q e = rw e

module _ (out : List ℕ) (p : Pen) (w field n : ℕ) where
  pub symbol_improper : proper p ≡ false → stroke None out ≡ stroke_of (symbol_bits p w field n) (page out p)
  unfolding symbol_bits
  symbol_improper h = stroke_none (page out p) (rw h)

  module _ (h : Proper p) where
    pub symbol_wide : 12 < n → stroke None out ≡ stroke_of (symbol_bits p w field n) (page out p)
    unfolding symbol_bits
    symbol_wide l = stroke_none (page out p) (rw (h, lt-leb n 12 l))

    module _ (l : n ≤ 12) where
      pub symbol_is : symbol_bits p w field n ≡ word_code w field n
      unfolding symbol_bits
      symbol_is = rw (h, le-leb n 12 l)

      pub symbol_none : within 1 16 (w / 65536) ≡ false → stroke None out ≡ stroke_of (symbol_bits p w field n) (page out p)
      symbol_none e = stroke_none (page out p) (symbol_is ∙ code_none w field n e)

      pub symbol_put : {q : ℕ} {new : List ℕ} {r : Pen} → within 1 16 (w / 65536) ≡ true → q ≡ 2 ^ n
          → page new r ≡ put_all (page out p) (bits_of (w / 65536 + n) (w % 65536 * q + field % q)) → stroke (Some r) new ≡ stroke_of (symbol_bits p w field n) (page out p)
      unfolding stroke_of
      symbol_put g e f = rw (symbol_is, code_is w field n g e) (ap (λ (t : Page). stroke (Some t.pen) t.out) f)

-- a proper pen stays proper behind it
pub code_proper : (q : Page) (w field n : ℕ) {bs : List ℕ} → Proper q.pen → word_code w field n ≡ some bs → Proper (put_all q bs).pen
unfolding word_code word_bits
code_proper q w field n {bs} h e = go (within 1 16 (w / 65536)) e
  where
    go : (t : Bool) → cond t (some (bits_of (w / 65536) (w % 65536))) none then some (bits_of n field) ≡ some bs → Proper (put_all q bs).pen
    go true e =
        let same : bits_of (w / 65536) (w % 65536) ++ bits_of n field ≡ bs = cc in
        subst (λ (t : Page). Proper t.pen) (sym (all_append q (bits_of (w / 65536) (w % 65536)) (bits_of n field)) ∙ ap (put_all q) same)
        (proper_bits (put_all q (bits_of (w / 65536) (w % 65536))) n field (proper_bits q (w / 65536) (w % 65536) h))
    go false e = absurd (suc-ne-zero 0 cc)
