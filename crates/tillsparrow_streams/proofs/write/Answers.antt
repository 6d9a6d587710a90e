-- The line that is written is the answer's, whether it was at hand or was made; and what follows stands behind it.
use Rattle.std.proofs.Common.{rules, ◌≡◌, ℕ, List, take, ap, sym, ◌∙◌, subst}
use Rattle.std.specs.Io.KnownBytes.{Appends}
use Rattle.std.proofs.KnownBytes.{Appends-trans}
use Rattle.std.proofs.lemmas.Result.{on_ok_weaker}
use Rattle.tillsparrow_streams.specs.Lines.{line_text}
use Rattle.tillsparrow_streams.proofs.Inline.{text_written}
use Rattle.tillsparrow_streams.proofs.write.Goals as goal
use Rattle.tillsparrow_streams.proofs.write.Goals.{in-Text+in_ok-line-in-Text, in_default+in_ok-map_err-in_default}

pub returns-clause-written : goal.returns-clause-written
unfolding line_text
returns-clause-written g c =
    let line : ◌≡◌ {A = List ℕ} c.match-answer.line.now (line_text c.args.answer.line) =
    elim c.match-answer.branch [
      | in-Text+in_ok-line-in-Text w ↦
          let first : ◌≡◌ {A = List ℕ} w.in_ok-line-in-Text.line.now (take w.in-Text.length w.in-Text.bytes) = search rules in
          ap (λ r. r.now) w.line-is ∙ first ∙ sym (ap line_text w.in-Text.is)
      | in_default+in_ok-map_err-in_default w ↦
          ap (λ r. r.now) w.line-is ∙ w.as_bytes-line.ensures.value ∙ w.as_str.ensures.value
          ∙ text_written _ _ _ (search rules) c.new-text.ensures.intact c.new-text.ensures.text
    ] in
    let told = subst (Appends (g.W.Write.contents c.args.stream.now) (g.W.Write.contents c.write_all.new.self)) line (c.in_ok-write_all.ensures.bytes) in
    on_ok_weaker c.write_first.result (Appends-trans _ _ _ _ _ told) c.write_first.ensures.written
