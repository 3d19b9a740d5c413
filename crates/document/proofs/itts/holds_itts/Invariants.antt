use Rattle.document.specs.Roots.{itts_one}
use Rattle.document.proofs.SomeRows.{Searching}
use Rattle.document.proofs.itts.holds_itts.Given as goal

abbrev pub invariant-loop-i : goal.invariant-loop-i
invariant-loop-i l = Searching (itts_one l.list l.extras l.strings) l.first l.n l.i
