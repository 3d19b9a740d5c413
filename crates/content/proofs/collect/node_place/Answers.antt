-- `node_place` meets its contract. Assumes nothing.
use native.Mathlib.Omega.{arith}
use borrow.Author.Tests.{ne_eqb}
use Rattle.content.specs.Steps.{node_place}
use Rattle.content.proofs.collect.node_place.Goals as goal

pub returns-then-nodes-k-eq-SECTION : goal.returns-then-nodes-k-eq-SECTION
unfolding node_place
returns-then-nodes-k-eq-SECTION c =
    rw c.if-nodes-k-eq-SECTION.true (omega (arith, c.get-place.ensures, c.saturating_sub.ensures))

pub returns-else-nodes-k-eq-SECTION : goal.returns-else-nodes-k-eq-SECTION
unfolding node_place
returns-else-nodes-k-eq-SECTION c =
    rw (ne_eqb _ _ c.if-nodes-k-eq-SECTION.false) c.get-place.ensures
