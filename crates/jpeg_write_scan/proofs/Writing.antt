-- What is written, or the want of a code, one part after the other.
use Prim.Native.Nat.{ℕ, ◌≤◌}
use mathlib.Core.Path.{◌≡◌, refl, sym, ap, ◌∙◌, subst, subst⁻¹}
use mathlib.Core.List.{List, [], ◌++◌, append_assoc, append-nil}
use mathlib.Core.Option.{none, some}
use Rattle.reading.specs.Settled.{Written, ◌then◌}
use Rattle.jpeg_write_bits.specs.declared.Pen.{Pen}
use Rattle.std.specs.Prelude.{Option, Some, None}
use Rattle.jpeg_write_bits.specs.Page.{Page, page, put_all, Proper, symbol_bits, Stroke, stroke, stroke_of}
use Rattle.jpeg_write_bits.proofs.Bytes.{all_append, all_none}
use Rattle.jpeg_write_bits.proofs.Symbols.{symbol_is, code_proper}
use Rattle.jpeg_write_codes.specs.Words.{word_code}
use Rattle.jpeg_write_scan.specs.Puts.{Wrote, Told, Puts}

-- ---- what is written, and then more

pub then_nil : (t : Written) → some [] then t ≡ t
then_nil none = refl
then_nil (some w) = refl

pub then_nothing : (t : Written) → t then some [] ≡ t
then_nothing none = refl
then_nothing (some w) = ap some (append-nil w)

pub then_assoc : (a b c : Written) → (a then b) then c ≡ a then b then c
then_assoc none b c = refl
then_assoc (some x) none c = refl
then_assoc (some x) (some y) none = refl
then_assoc (some x) (some y) (some z) = ap some (append_assoc x y z)

pub lacks_then : {a : Written} (b : Written) → a ≡ none → a then b ≡ none
lacks_then b e = ap (λ (a : Written). a then b) e

-- ---- what a writer answers

module _ {w : Written} {q : Page} {out : List ℕ} where
  pub is_done : {p : Pen} → Wrote w q (page out p) → Puts w q (Some p) out
  is_done g = record { told = g }

  pub is_lack : {r : Option Pen} → r ≡ None → w ≡ none → Puts w q r out
  is_lack e f = subst⁻¹ (λ (r : Option Pen). Puts w q r out) e (record { told = f })

  pub puts_done : {r : Option Pen} {p : Pen} → Puts w q r out → r ≡ Some p → Wrote w q (page out p)
  puts_done h e = subst (λ (r : Option Pen). Told w q r out) e h.told

  pub puts_lack : {r : Option Pen} → Puts w q r out → r ≡ None → w ≡ none
  puts_lack h e = subst (λ (r : Option Pen). Told w q r out) e h.told

-- a symbol with a field of at most 12 bits, by a proper pen
pub puts_symbol :
    (p : Pen) (x field n : ℕ) (old : List ℕ) {r : Option Pen} {new : List ℕ}
    → Proper p
    → n ≤ 12
    → stroke r new ≡ stroke_of (symbol_bits p x field n) (page old p)
    → Puts (word_code x field n) (page old p) r new
unfolding stroke_of
puts_symbol p x field n old {r} {new} h l e =
    record { told = go (word_code x field n) refl (e ∙ ap (λ (w : Written). stroke_of w (page old p)) (symbol_is old p x field n h l)) }
  where
    go : (w : Written) → word_code x field n ≡ w → stroke r new ≡ stroke_of w (page old p) → Told w (page old p) r new
    go none f e = subst⁻¹ (λ (s : Stroke). Told none (page old p) s.ink s.out) e refl
    go (some bs) f e =
        subst⁻¹ (λ (s : Stroke). Told (some bs) (page old p) s.ink s.out) e
        (record { bits = bs; told = refl; same = refl; proper = code_proper (page old p) x field n h f })

-- ---- a part of what is to be written

-- of `t` the first part was put, and `r` is to come
pub record Onto (t r : Written) (q₀ q : Page) : Type 0 where
  pub done : List ℕ
  pub told : t ≡ some done then r
  pub same : q ≡ put_all q₀ done
  pub proper : Proper q.pen

pub onto_start : (t : Written) (q : Page) → Proper q.pen → Onto t t q q
onto_start t q h = record { done = []; told = sym (then_nil t); same = sym (all_none q); proper = h }

module _ {t r : Written} {q₀ q : Page} (h : Onto t r q₀ q) where
  pub onto_more : (a b : Written) {q' : Page} → r ≡ a then b → Wrote a q q' → Onto t b q₀ q'
  onto_more a b {q'} e g =
      record {
        done = h.done ++ g.bits;
        told = h.told ∙ ap (λ (r : Written). some h.done then r) (e ∙ ap (λ (a : Written). a then b) g.told) ∙ sym (then_assoc (some h.done) (some g.bits) b);
        same = g.same ∙ ap (λ (q : Page). put_all q g.bits) h.same ∙ sym (all_append q₀ h.done g.bits);
        proper = g.proper;
      }

  pub onto_end : r ≡ some [] → Wrote t q₀ q
  onto_end e =
      record {
        bits = h.done;
        told = h.told ∙ ap (λ (r : Written). some h.done then r) e ∙ then_nothing (some h.done);
        same = h.same;
        proper = h.proper;
      }

  pub onto_lacks : r ≡ none → t ≡ none
  onto_lacks e = h.told ∙ ap (λ (r : Written). some h.done then r) e

pub puts_as : {a b : Written} {q : Page} {r : Option Pen} {out : List ℕ} → b ≡ a → Puts a q r out → Puts b q r out
puts_as {a} {b} {q} {r} {out} e h = subst (λ (w : Written). Puts w q r out) (sym e) h
