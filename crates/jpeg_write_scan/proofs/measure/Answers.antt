-- `measure`: what is said of a scan whatever lies in the buffer.
use Rattle.jpeg_write_scan.proofs.measure.Goals as goal

pub returns : goal.returns
returns g c =
    record { told = c.run.ensures.told; measured = record { old = _; new = _; ran = c.run.ensures.ran }; same = c.run.ensures.same }
