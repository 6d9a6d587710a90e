-- What drawing a record leaves in the two buffers.
use mathlib.Core.Path.{◌≡◌, refl, sym, ap, ap₂, ◌∙◌, subst}
use mathlib.Core.Bool.{Bool, true, false}
use mathlib.Core.List.{List}
use Prim.Native.Nat.{ℕ, ◌*◌, ◌≤◌}
use native.Mathlib.Omega.{arith}
use lib.Dec.{T}
use lib.ListN.{length, take, drop}
use lib.Seq.{take_at}
use Rattle.reading.specs.declared.Budget.{Budget}
use Rattle.reading.specs.declared.Break.{Break}
use Rattle.reading.specs.declared.Record.{Record}
use Rattle.reading.specs.declared.Refusal.TheVariants.{NotItsRecord}
use Rattle.std.specs.declared.result.Result.TheVariants.{Ok, Err}
use Rattle.reading.specs.Tests.{over}
use Rattle.reading.specs.Scan.{whole}
use Rattle.reading.specs.Header.{done, header}
use Rattle.reading.specs.Scan.{levels}
use Rattle.reading.specs.Code.Scans.{readable, scan_of}
use Rattle.reading.specs.Code.Answers.{scan_read}
use Rattle.reading.specs.Reading.{samples_of, picture_of}
use Rattle.reading.specs.Tables.{shape_of, quantizers_of}
use Rattle.reading.specs.Code.Painted.{drawn}
use Rattle.reading.specs.Calls.{same, undecoded}
use Rattle.reading.proofs.Equal.{records_equal}
use Rattle.reading.proofs.FileBytes.{AllBytes}
use Rattle.reading.proofs.Accepted as H
use Rattle.reading.proofs.Counted.{scan_is, scan_levels, samples_counted}
use Rattle.reading.proofs.ScanAnswers as E
use Rattle.jpeg.specs.Meets.{Meets}
use Rattle.jpeg_render.specs.Rows.{Sized, Drawable}
use Rattle.jpeg_render.specs.Rendered.{rendered}
use Rattle.jpeg_render.proofs.Fitting.{rendered_drawable}
use Rattle.jpeg.specs.Steps.{drawn_as, leaving}
use Rattle.reading.proofs.Sampling.{sampled_so}
use Rattle.reading.proofs.States.{header_readable}
use Rattle.jpeg.proofs.Decodes.{drawn_other, drawn_fault, drawn_done}

pub sized : (s : List ℕ) → AllBytes s → (colour : Bool) (r : Record) → header s colour ≡ done r → Sized r.frame
sized s y colour r e =
    let a = H.header_accepted colour s y r e in
    record {
      sampling = sampled_so r.frame a.frame.sampling;
      width_most = omega (arith, a.frame.wide.1);
      height_most = omega (arith, a.frame.high.1);
    }

module _ (s : List ℕ) (y : AllBytes s) (q r : Record) (out scratch : List ℕ) (rest : Budget) (m : Meets s q r out scratch) where
  pub draws_other : false ≡ same q r → undecoded NotItsRecord rest out scratch ≡ drawn_as s q r out scratch rest
  draws_other e = drawn_other s q r out scratch rest (sym e)

  module _ (e : true ≡ same q r) where
    itself : q ≡ r
    itself = records_equal q r (subst T e tt)

    head : header s r.colour ≡ done r
    head = m.head ∙ ap done itself

    okay : readable s r ≡ true
    okay = header_readable s y r.colour r head

    accepted : H.Accepted r.colour r
    accepted = H.header_accepted r.colour s y r head

    room : 64 * r.blocks ≤ length scratch
    room = omega (arith, m.scratch_room, accepted.scratch)

    module _ (scratch' : List ℕ) (e4 : scratch' ≡ drawn (shape_of r.frame) (quantizers_of s r) r.blocks (scan_of s r) scratch) where
      pub draws_stop : {g : Break} → Err g ≡ scan_read (scan_of s r) → undecoded NotItsRecord rest out scratch' ≡ drawn_as s q r out scratch rest
      draws_stop {g} e3 =
          let o = E.refused (scan_of s r) e3 refl in
          ap (undecoded NotItsRecord rest out) (e4 ∙ sym (E.drawn_stop (shape_of r.frame) (quantizers_of s r) r.blocks scratch o))
          ∙ drawn_fault s q r out scratch rest (sym e) g (sym (scan_is s r okay) ∙ o)

      module _ (e3 : Ok tt ≡ scan_read (scan_of s r)) where
        read : E.Accepted (scan_of s r)
        read = E.accepted (scan_of s r) e3 refl

        scanned : levels s r ≡ whole read.blocks_read read.behind
        scanned = scan_levels s r read.is

        all : List ℕ
        all = samples_of s r read.blocks_read

        counted : length all ≡ r.scratch
        unfolding all
        counted = samples_counted s r scanned ∙ sym accepted.scratch

        filled : scratch' ≡ over all scratch
        unfolding all
        filled = e4 ∙ sym (E.drawn_all (shape_of r.frame) (quantizers_of s r) r.blocks scratch read room)

        part : take r.scratch scratch' ≡ all
        part = ap (take r.scratch) filled ∙ take_at all (drop (length all) scratch) r.scratch counted

        full : length (take r.scratch scratch') ≡ 64 * r.blocks
        full = ap length part ∙ counted ∙ accepted.scratch

        drawable : Drawable r.frame (take r.scratch scratch') out
        drawable =
            record {
              sized = sized s y r.colour r head;
              room = omega (arith, m.out_room, accepted.output);
              whole = omega (arith, full, accepted.blocks);
            }

        pub draws_done :
            {out' : List ℕ}
            → out' ≡ rendered r.frame r.colour (take r.scratch scratch') out
            → leaving (record { verdict = Ok tt; budget = rest }) out' scratch' ≡ drawn_as s q r out scratch rest
        unfolding all
        draws_done {out'} b =
            ap₂ (leaving (record { verdict = Ok tt; budget = rest }))
            (b ∙ rendered_drawable r.frame r.colour (take r.scratch scratch') out drawable ∙ ap (λ x. over (picture_of r x) out) part) filled
            ∙ drawn_done s q r out scratch rest (sym e) read.blocks_read read.behind scanned
