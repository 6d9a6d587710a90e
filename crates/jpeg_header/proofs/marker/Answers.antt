-- `marker`: a frame that was read has numbers that fit, so a scan behind it is read as the rules say.
use Rattle.std.proofs.Common.{◌≡◌, ℕ, ◌+◌, Bool, true, false, List, Ok, refl, ap, ◌∙◌, arith}
use Rattle.std.proofs.lemmas.Grind.{common_steps}
use Rattle.reading.specs.Header.{stop_if, segment_end}
use Rattle.reading.proofs.HeaderEnds.{Room, segment_room}
use Rattle.jpeg_header_state.specs.Segments.{stepped}
use Rattle.jpeg_header_state.proofs.Segments.{behind_framed}
use Rattle.jpeg_header.specs.declared.Segment.{Segment}
use Rattle.jpeg_header.specs.Steps.{cut_at, segment_at}
use Rattle.jpeg_header.proofs.marker.Goals as goal

whole : (s : List ℕ) (p : ℕ) (g : Segment) → Ok g ≡ segment_at s p → Room s p × (g ≡ record { from = p + 4; end = segment_end s p })
unfolding segment_at
whole s p g e = go (cut_at s p) refl
  where
    go : (t : Bool) → cut_at s p ≡ t → Room s p × (g ≡ record { from = p + 4; end = segment_end s p })
    go true q = let r = rw q at e in absurd (cc r)
    go false q = let r = rw q at e in (segment_room s p q, cc r)

pub returns-in-Scans : goal.returns-in-Scans
unfolding stop_if stepped
returns-in-Scans c =
    let found = whole c.args.s.now c.args.state.at c.in_ok-from.field-0 c.in_ok-from.ensures in
    let read = c.scan.ensures ∙ ap stepped (behind_framed c.args.state _ c.requires.1) in
    grind (arith, common_steps)
