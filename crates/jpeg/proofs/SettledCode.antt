-- Demand 3 of the code, as a caller in Rattle cites it: the premises are the contracts of the calls it made (`c .. .settle .ensures` and so on) and
-- what they answered; what follows is about the bytes that settle left in its buffer, where limits, budget and room are enough.
use Prim.Native.Nat.{ℕ, ◌+◌, ◌<◌, ◌≤◌}
use mathlib.Core.Path.{◌≡◌, sym, ap, ◌∙◌, subst⁻¹}
use mathlib.Core.Bool.{Bool}
use mathlib.Core.List.{List}
use mathlib.Core.Logic.{◌↔◌}
use mathlib.Core.Option.{some}
use lib.Dec.{T}
use lib.ListN.{length, take, drop}
use lib.Seq.{take-append_seam}
use Rattle.reading.specs.declared.Budget.{Budget}
use Rattle.reading.specs.declared.Decoding.{Decoding}
use Rattle.reading.specs.declared.Inspection.{Inspection}
use Rattle.reading.specs.declared.Limits.{Limits}
use Rattle.reading.specs.declared.Record.{Record}
use Rattle.reading.specs.declared.Settling.{Settling}
use Rattle.reading.specs.declared.Refusal.TheVariants.{NoEndCode}
use Rattle.std.specs.declared.result.Result.TheVariants.{Ok, Err}
use Rattle.reading.specs.Header.{byte}
use Rattle.reading.specs.Reading.{reading}
use Rattle.reading.specs.Calls.{header_price, inspect, Decoded, decode, Rewritten, settle}
use Rattle.reading.specs.Files.{head_in, coefficients_in, settled_in, lacks_end_in}
use Rattle.reading.specs.Words.{Enough, Inspects}
use Rattle.reading.proofs.FileBytes.{all_bytes}
use Rattle.reading.proofs.Theorems.{settle_nine}
use Rattle.reading.proofs.Judgement.{inspect_accepts}
use Rattle.reading.proofs.SettledCalls.{SettledBy, settled_by, settled_bytes, bytes_are, bytes_settled, settled_reads, settled_again, settled_decodes, one_picture_one_file}
use Rattle.jpeg_settle.specs.Refiled.{remade}
use Rattle.jpeg.specs.Steps as steps

-- a call of settle that accepted, and the buffer as it left it
pub record Call (s : List ℕ) (l : Limits) (budget : Budget) (out : List ℕ) (answer : Settling) (left : List ℕ) : Type 0 where
  pub contract : remade answer left ≡ settle s l budget out
  pub accepted : answer.verdict ≡ Ok tt

module _ (s : List ℕ) (l : Limits) (budget : Budget) (out : List ℕ) (answer : Settling) (left : List ℕ) (c : Call s l budget out answer left) where
  pub by : SettledBy s l budget out
  by = settled_by s l budget out (sym (ap (λ (w : Rewritten). w.answer.verdict) c.contract) ∙ c.accepted)

  same : settled_bytes (settle s l budget out) ≡ take answer.length left
  same = sym (ap settled_bytes c.contract)

  whole : length (take answer.length left) ≡ answer.length
  whole = ap length (sym same ∙ bytes_are s l budget out by) ∙ sym (ap (λ (w : Rewritten). w.answer.length) (c.contract ∙ by.is))

  -- the bytes are the settled file
  pub code_settled : settled_in s ≡ some (take answer.length left)
  code_settled = bytes_settled s l budget out by ∙ ap some same

  -- they read as the file does by either colour choice: with the same record and the same levels
  pub code_reads : (colour : Bool) → reading (take answer.length left) colour ≡ reading s colour
  code_reads colour = ap (λ b. reading b colour) (sym same) ∙ settled_reads s l budget out by colour

  module _ (l' : Limits) (budget' : Budget) where
    -- what inspect, called on the file, accepts, it accepts of the bytes with the same record
    pub code_inspects :
        (colour : Bool) (l'' : Limits) (budget'' : Budget) {seen again : Inspection}
        → seen ≡ inspect s colour l'' budget''
        → seen.verdict ≡ Ok tt
        → again ≡ inspect (take answer.length left) colour l' budget'
        → Enough (take answer.length left) seen.found l' budget'
        → (again.verdict ≡ Ok tt) × (again.found ≡ seen.found)
    code_inspects colour l'' budget'' {seen} {again} a v b e =
        let read = ((inspect_accepts s colour l'' budget'' seen.found).0 (sym (ap (λ (i : Inspection). i.verdict) a) ∙ v, sym (ap (λ (i : Inspection). i.found) a))).0 in
        let w = (inspect_accepts (take answer.length left) colour l' budget' seen.found).1 ((read.0, code_reads colour ∙ read.1), e) in
        (ap (λ (i : Inspection). i.verdict) b ∙ w.0, ap (λ (i : Inspection). i.found) b ∙ w.1)

    -- settle, called on the bytes, gives them again
    pub code_settles_again :
        (out' : List ℕ) {again : Settling} {left' : List ℕ}
        → remade again left' ≡ settle (take answer.length left) l' budget' out'
        → Enough (take answer.length left) by.found l' budget'
        → answer.length ≤ length out'
        → (again.verdict ≡ Ok tt) × (again.length ≡ answer.length) × (take again.length left' ≡ take answer.length left)
    code_settles_again out' {again} {left'} b e room =
        let enough = subst⁻¹ (λ x. Enough x by.found l' budget') same e in
        let fits = subst⁻¹ (λ n. n ≤ length out') (ap length same ∙ whole) room in
        let is = b ∙ ap (λ x. settle x l' budget' out') (sym same) ∙ settled_again s l budget out by l' budget' enough out' fits in
        let old = settled_bytes (settle s l budget out) in (
          ap (λ (w : Rewritten). w.answer.verdict) is,
          ap (λ (w : Rewritten). w.answer.length) is ∙ ap length same ∙ whole,
          ap settled_bytes is ∙ take-append_seam old (drop (length old) out') ∙ same,
        )

  -- decode, called on the file and on the bytes with one record and the same buffers, leaves the same samples and the same picture
  pub code_decodes :
      (r : Record) (picture scratch : List ℕ) (first second : Budget) {d d' : Decoding} {p q p' q' : List ℕ}
      → steps.leaving d p q ≡ decode s r picture scratch first
      → d.verdict ≡ Ok tt
      → steps.leaving d' p' q' ≡ decode (take answer.length left) r picture scratch second
      → header_price (take answer.length left) + r.work ≤ second.left
      → (d'.verdict ≡ Ok tt) × (p' ≡ p) × (q' ≡ q)
  code_decodes r picture scratch first second a v b enough =
      let w = settled_decodes s (take answer.length left) code_settled r picture scratch first second (sym (ap (λ (x : Decoded). x.answer.verdict) a) ∙ v) enough in (
        ap (λ (x : Decoded). x.answer.verdict) b ∙ w.verdict,
        ap (λ (x : Decoded). x.output) b ∙ w.output ∙ sym (ap (λ (x : Decoded). x.output) a),
        ap (λ (x : Decoded). x.scratch) b ∙ w.scratch ∙ sym (ap (λ (x : Decoded). x.scratch) a),
      )

-- two calls on files with one head leave the same bytes exactly when the coefficients are equal
pub code_one_picture :
    (s s' : List ℕ) (l l' : Limits) (budget budget' : Budget) (out out' : List ℕ) (answer answer' : Settling) (left left' : List ℕ)
    → (c : Call s l budget out answer left)
    → (c' : Call s' l' budget' out' answer' left')
    → head_in s ≡ head_in s'
    → take answer.length left ≡ take answer'.length left' ↔ coefficients_in s ≡ coefficients_in s'
code_one_picture s s' l l' budget budget' out out' answer answer' left left' c c' e =
    let w = one_picture_one_file s s' l l' budget budget' out out' (by s l budget out answer left c) (by s' l' budget' out' answer' left' c') e in
    let here = same s l budget out answer left c in
    let there = same s' l' budget' out' answer' left' c' in
    (λ x. w.0 (here ∙ x ∙ sym there), λ x. sym here ∙ w.1 x ∙ there)

-- 9 of the code, exactly. `known` is what the language knows of every slice of bytes, so a caller always has it (`.shared-slice-known .given`)
pub code_nine :
    (s : List ℕ) (colour : Bool) (l : Limits) (budget : Budget) (out : List ℕ) {answer : Settling} {left : List ℕ}
    → (known : (i : ℕ) → byte s i < 256)
    → remade answer left ≡ settle s l budget out
    → answer.verdict ≡ Err NoEndCode
    ↔ Inspects s colour l budget × T (lacks_end_in s)
code_nine s colour l budget out known c =
    let e = ap (λ (w : Rewritten). w.answer.verdict) c in
    let w = settle_nine s colour l budget out (all_bytes s known) in
    (λ v. w.0 (sym e ∙ v), λ k. e ∙ w.1 k)
