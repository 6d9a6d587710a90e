-- The loop's invariant: the places of c channels are found, and the blocks before the next are counted.
use Rattle.jpeg_render.proofs.RowPlaces.{RowsTo}
use Rattle.jpeg_render.proofs.layout.Measured.rows_of.Given as goal

abbrev pub invariant-loop-c : goal.invariant-loop-c
invariant-loop-c l = RowsTo l.fn.self.frame l.fn.y l.blocks l.c l.places
