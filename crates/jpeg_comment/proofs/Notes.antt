-- A file that is read as the code reads it, and the part that comes of it.
use Rattle.std.proofs.Common.{◌≡◌, refl, sym, ap, ◌∙◌, ℕ, true, false, List, ℤ, length, ltb, is_ok, is_some, unwrap_or}
use Rattle.std.specs.declared.result.Result.TheVariants.{Ok, Err}
use Rattle.std.specs.declared.option.Option.{Option}
use Rattle.std.specs.declared.option.Option.TheVariants.{None, Some}
use Rattle.reading.specs.declared.Bits.{Bits}
use Rattle.reading.specs.declared.Part.{Part}
use Rattle.reading.specs.declared.Record.{Record}
use Rattle.reading.specs.Verdicts.{Verdict}
use Rattle.reading.specs.Tests.{◌and◌}
use Rattle.reading.specs.Header.{Stage, more, done, stop, header}
use Rattle.reading.specs.Code.Heads.{headed}
use Rattle.reading.specs.Scan.{Scanned, whole, broke}
use Rattle.reading.specs.Code.Scans.{scan_of}
use Rattle.reading.specs.Code.Answers.{scan_read}
use Rattle.reading.specs.Reading.{Reading, accepted, refused, scanned, read_from, reading}
use Rattle.reading.specs.Comments.{comments, sought, part_of, part_in, comment_part, is_accepted}
use Rattle.reading.proofs.Comments.{is_there, sought_there}
use Rattle.reading.proofs.FileBytes.{AllBytes}
use Rattle.reading.proofs.Counted.{scan_is}
use Rattle.reading.proofs.States.{header_readable}
use Rattle.jpeg_comment.specs.Accepted.{is_read}

-- ---- whether the file is accepted

headed_done : (st : Stage) (r : Record) → Ok r ≡ headed st → st ≡ done r
headed_done (more h) r e = cc
headed_done (done q) r e = let same : r ≡ q = cc in ap done (sym same)
headed_done (stop x) r e = cc

-- the header gave a record, and its scan decides
module _ (s : List ℕ) (y : AllBytes s) (r : Record) (e : Ok r ≡ headed (header s false)) where
  head : header s false ≡ done r
  head = headed_done (header s false) r e

  by_scan : reading s false ≡ scanned r (scan_of s r)
  by_scan = ap (read_from s) head ∙ ap (scanned r) (sym (scan_is s r (header_readable s y false r head)))

  pub read_so : is_ok (scan_read (scan_of s r)) ≡ is_read (reading s false)
  unfolding scan_read
  read_so = go (scan_of s r) ∙ sym (ap is_read by_scan)
    where
      go : (x : Scanned Bits (List (List ℤ))) → is_ok (scan_read x) ≡ is_read (scanned r x)
      go (whole ls b) = refl
      go (broke f) = refl

-- ---- the part

or_empty : (o : Option Part) → unwrap_or o (record { at = 0; length = 0 }) ≡ part_of o
or_empty None = refl
or_empty (Some p) = refl

module _ (s : List ℕ) (i : ℕ) where
  pub part_none : false ≡ is_read (reading s false) → record { at = 0; length = 0 } ≡ comment_part s i
  unfolding comment_part
  part_none e = go (reading s false) e
    where
      go : (q : Reading) → false ≡ is_read q → record { at = 0; length = 0 } ≡ part_in s i q
      go (refused x) e = refl
      go (accepted r ls) e = cc

  pub part_sought : true ≡ is_read (reading s false) → unwrap_or (sought (comments s) i) (record { at = 0; length = 0 }) ≡ comment_part s i
  unfolding comment_part
  part_sought e = or_empty (sought (comments s) i) ∙ go (reading s false) e
    where
      go : (q : Reading) → true ≡ is_read q → part_of (sought (comments s) i) ≡ part_in s i q
      go (accepted r ls) e = refl
      go (refused x) e = cc

-- ---- whether it is there

there : (ps : List Part) (i : ℕ) → is_some (sought ps i) ≡ ltb i (length ps)
there ps i = go (sought ps i) ∙ sought_there ps i
  where
    go : (o : Option Part) → is_some o ≡ is_there o
    go None = refl
    go (Some p) = refl

pub there_so : (s : List ℕ) (i : ℕ) (v : Verdict) → true ≡ is_ok v → is_some (sought (comments s) i) ≡ (is_accepted v and ltb i (length (comments s)))
there_so s i (Ok u) a = there (comments s) i
there_so s i (Err x) a = cc
