-- What is written into an `InlineText`, one part behind another, is its text in the end. Assumes nothing.
use Rattle.std.proofs.Common.{◌≡◌, ℕ, List, [], ◌∷◌, ◌++◌, ap, sym, ◌∙◌, append-nil, append_assoc}
use Rattle.std.specs.List.{FoldsTo, concat}
use Rattle.std.specs.Fmt.{WritesInCalls}
use Rattle.std.specs.declared.fmt.InlineText.{InlineText}
use Rattle.std.specs.Fmt.InlineText.{inline_text, IsIntact, AppendsIfIntact}

module _ {n : ℕ} where
  behind : (s : InlineText n) (parts : List (List ℕ)) (t : InlineText n) → FoldsTo AppendsIfIntact s parts t → IsIntact s
      → inline_text t ≡ inline_text s ++ concat parts
  behind s [] t same intact = ap inline_text (sym same) ∙ sym (append-nil (inline_text s))
  behind s (x ∷ parts) t calls intact =
      let first = calls.1 intact in
      behind calls.0 parts t calls.2 first.0 ∙ ap (λ l. l ++ concat parts) first.1 ∙ append_assoc (inline_text s) x (concat parts)

  -- into an empty one
  pub text_written : (s : InlineText n) (bs : List ℕ) (t : InlineText n) → WritesInCalls AppendsIfIntact s bs t → IsIntact s
      → inline_text s ≡ [] → inline_text t ≡ bs
  text_written s bs t wrote intact empty = behind s wrote.parts t wrote.calls intact ∙ ap (λ l. l ++ concat wrote.parts) empty ∙ wrote.whole
