-- `quantizer`: 64 bytes from a place on, or as many as there are.
use Rattle.jpeg_scan_plan.proofs.Marks.{first_bytes}
use Rattle.jpeg_scan_plan.proofs.quantizer.Goals as goal

pub returns : goal.returns
returns c = first_bytes c.args.at 64 c.args.t.now c.min.ensures c.min-2.ensures
