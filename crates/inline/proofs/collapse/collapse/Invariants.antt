-- `collapse` meets its contract. The loop's invariant: what the first `i` bytes give stands from `at` on. Assumes nothing.
use Rattle.inline.proofs.Collapsing.{Collapsing}
use Rattle.inline.proofs.collapse.collapse.Given as goal

abbrev pub invariant-loop-b : goal.invariant-loop-b
invariant-loop-b l = Collapsing l.piece l.boundary l.at l.initial.texts l.b-index l.n l.edge l.texts
