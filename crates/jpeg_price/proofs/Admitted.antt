-- What the tests before the scan say of inspect's judgement: where they refuse, the judgement does; where they admit a record, its scan
-- decides.
use Rattle.std.proofs.Common.{◌≡◌, refl, ℕ, ◌^◌, ◌<◌, Bool, List}
use Rattle.std.proofs.Math.Path.{subst⁻¹}
use Rattle.std.specs.declared.result.Result.TheVariants.{Ok, Err}
use Rattle.reading.specs.declared.Budget.{Budget}
use Rattle.reading.specs.declared.Inspection.{Inspection}
use Rattle.reading.specs.declared.Limits.{Limits}
use Rattle.reading.specs.declared.Record.{Record}
use Rattle.reading.specs.declared.Refusal.{Refusal}
use Rattle.reading.specs.Verdicts.{Verdict}
use Rattle.reading.specs.Header.{done, header}
use Rattle.reading.specs.Judging.{Judged, accepts, refuses}
use Rattle.reading.specs.Calls.{header_price, admission, inspection}
use Rattle.reading.proofs.Judgement.{Way, long, poor_for_work, headless, large, admitted, way}
use Rattle.reading.proofs.Judgement as judgement
use Rattle.jpeg_price.specs.Admission as spec

-- a record is admitted, and its scan decides
pub record Goes (s : List ℕ) (colour : Bool) (l : Limits) (budget : Budget) (r : Record) (rest : Budget) : Type 0 where
  pub head : header s colour ≡ done r
  pub counted : header_price s < 2 ^ 64
  pub is : admission s colour l budget ≡ accepts r rest

module _ (s : List ℕ) (colour : Bool) (l : Limits) (budget : Budget) where
  abbrev Fate : Verdict → Budget → Record → Type 0
  Fate (Ok u) rest r = Goes s colour l budget r rest
  Fate (Err x) rest r = admission s colour l budget ≡ refuses x rest

  abbrev Decides : Inspection → Type 0
  Decides a = Fate a.verdict a.budget a.found

  decides : Decides (spec.admitted s colour l budget)
  unfolding spec.admitted
  decides = go (admission s colour l budget) refl (way s colour l budget)
    where
      go : (m : Judged Record) → admission s colour l budget ≡ m → Way s colour l budget m → Decides (inspection m)
      go m p (long a) = p
      go m p (judgement.poor a q) = p
      go m p (headless x a e) = p
      go m p (large r a e c) = p
      go m p (poor_for_work r a e c q) = p
      go m p (admitted r e h) = record { head = e; counted = h.counted; is = p }

  module _ {rest : Budget} where
    pub stops : {x : Refusal} → inspection (refuses x rest) ≡ spec.admitted s colour l budget → admission s colour l budget ≡ refuses x rest
    stops e = subst⁻¹ Decides e decides

    pub goes : {r : Record} → inspection (accepts r rest) ≡ spec.admitted s colour l budget → Goes s colour l budget r rest
    goes e = subst⁻¹ Decides e decides
