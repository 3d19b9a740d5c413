-- `find_element` meets its contract. The loop's invariant: rows k up to the end are siblings, and the search of any forest that stands there goes on
-- with the siblings from k on. The measure is what is left of the rows.
use Prim.Native.Nat.{ℕ, ◌+◌, ◌-◌}
use mathlib.Core.Path.{◌≡◌}
use Rattle.tree.specs.Trees.{Forest, size}
use Rattle.tree.specs.Walks.{Stands}
use Rattle.xml.specs.Find.{Siblings}
use Rattle.xml.proofs.FindSteps.{Rest}
use Rattle.xml.proofs.find.find_element.Given as goal

abbrev pub invariant-loop-k : goal.invariant-loop-k
invariant-loop-k l = Siblings l.nodes l.strings l.k l.end × ((a : ℕ) (f : Forest) → Stands l.nodes l.from a f → l.from + size f ≡ l.end → Rest l.nodes l.strings l.name l.from l.k l.end f)

abbrev pub decreases-loop-k : goal.decreases-loop-k
decreases-loop-k l = l.end - l.k
