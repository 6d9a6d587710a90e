-- What the program writes, whatever the file. Inspect accepts it: the picture behind its head (`program_draws`), unless it has two or four
-- channels, which are refused with 5 (`program_turns_away`). Inspect refuses it: the line of that refusal (`program_refuses`). A refusal is
-- its line and nothing else. Decode's own refusals are never met.
use Prim.Native.Nat.{ℕ, ◌≤◌}
use mathlib.Core.Path.{◌≡◌, refl, ap, ◌∙◌}
use mathlib.Core.Bool.{true, false}
use mathlib.Core.List.{List}
use native.Mathlib.Omega.{arith}
use lib.ListN.{length}
use Rattle.reading.specs.declared.Record.{Record}
use Rattle.reading.specs.declared.Refusal.{Refusal}
use Rattle.reading.specs.declared.Refusal.TheVariants.{Unsupported}
use Rattle.std.specs.declared.result.Result.TheVariants.{Ok, Err}
use Rattle.reading.specs.Calls.{inspect, decode}
use Rattle.reading.proofs.Theorems.{inspect_accepts, inspected_decodes}
use Rattle.tillsparrow_streams.specs.declared.Line.TheVariants.{Picture}
use Rattle.tillsparrow_streams.specs.Answers.{own_limits, ample, refusing}
use Rattle.tillsparrow.specs.Answer.{Answered, unheld, leaving, reply, drawn, shown, viewed, answered}

module _ (s out scratch : List ℕ) where
  abbrev pub found : Record
  found = (inspect s true own_limits ample).found

  -- both buffers have 65,536 bytes
  pub program_draws :
      65536 ≤ length out
      → 65536 ≤ length scratch
      → (inspect s true own_limits ample).verdict ≡ Ok tt
      → unheld found.frame.channels ≡ false
      → ((answered s out scratch).answer ≡ record { line = Picture found; follow = found.output })
      × ((answered s out scratch).output ≡ (decode s found out scratch ample).output)
  unfolding answered
  program_draws wide high v one =
      let h = ((inspect_accepts s true own_limits ample found).0 (v, refl)).1 in
      let drawn-so = inspected_decodes s true own_limits ample found out scratch ample (v, refl)
      (omega (arith, wide, h.sizes.output), omega (arith, high, h.sizes.scratch)) h.price in
      (ap (λ (a : Answered). a.answer) seen ∙ ap (reply found) drawn-so, ap (λ (a : Answered). a.output) seen)
    where
      held : shown s found out scratch ≡ drawn found (decode s found out scratch ample)
      held = rw one refl

      seen : viewed s out scratch found (inspect s true own_limits ample).verdict ≡ drawn found (decode s found out scratch ample)
      seen = ap (viewed s out scratch found) v ∙ held

  pub program_turns_away :
      (inspect s true own_limits ample).verdict ≡ Ok tt
      → unheld found.frame.channels ≡ true
      → answered s out scratch ≡ leaving (refusing Unsupported) out scratch
  unfolding answered
  program_turns_away v e = ap (viewed s out scratch found) v ∙ held
    where
      held : shown s found out scratch ≡ leaving (refusing Unsupported) out scratch
      held = rw e refl

  pub program_refuses :
      (x : Refusal)
      → (inspect s true own_limits ample).verdict ≡ Err x
      → answered s out scratch ≡ leaving (refusing x) out scratch
  unfolding answered
  program_refuses x e = ap (viewed s out scratch found) e
