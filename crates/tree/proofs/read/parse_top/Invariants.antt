-- `parse_top` meets its contract. The loop's invariant is `Going`: the nodes so far are laid, and the rest of the text decides the outcome. The
-- measure is what is left of the text. Assumes nothing.
use Prim.Native.Nat.{◌-◌}
use lib.ListN.{length}
use Rattle.tree.specs.Read.{outer_turn, element_of}
use Rattle.tree.proofs.Going.{Going}
use Rattle.tree.proofs.read.parse_top.Given as goal

abbrev pub invariant-loop-pos : goal.invariant-loop-pos
invariant-loop-pos l = Going l.src (outer_turn l.src (element_of 64 l.src)) l.initial.nodes l.initial.attrs l.from 0 0 l.nodes l.attrs l.pos l.k l.a

abbrev pub decreases-loop-pos : goal.decreases-loop-pos
decreases-loop-pos l = length l.src - l.pos
