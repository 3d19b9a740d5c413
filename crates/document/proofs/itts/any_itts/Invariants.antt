use Rattle.document.specs.Roots.{itts_row}
use Rattle.document.proofs.SomeRows.{Searching}
use Rattle.document.proofs.itts.any_itts.Given as goal

abbrev pub invariant-loop-i : goal.invariant-loop-i
invariant-loop-i l = Searching (itts_row l.list l.cells l.extras l.strings l.width l.at) 0 l.n l.i
