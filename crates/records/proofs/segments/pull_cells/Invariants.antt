-- `pull_cells` meets its contract. The loop's invariant: the cells before `i` are moved. Assumes nothing.
use Rattle.records.proofs.Moves.{Pulled}
use Rattle.records.proofs.segments.pull_cells.Given as goal

abbrev pub invariant-loop-i : goal.invariant-loop-i
invariant-loop-i l = Pulled l.initial.cells l.at l.end l.by l.i l.cells
