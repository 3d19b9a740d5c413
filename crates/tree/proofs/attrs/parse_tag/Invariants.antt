-- `parse_tag` meets its contract. The loop's invariant is `TagGoing`: the attributes so far are laid, and the rest of the tag decides the outcome.
-- The measure is what is left of the text. Assumes nothing.
use Prim.Native.Nat.{◌-◌}
use lib.ListN.{length}
use Rattle.tree.proofs.Tags.{TagGoing}
use Rattle.tree.proofs.attrs.parse_tag.Given as goal

abbrev pub invariant-loop-at : goal.invariant-loop-at
invariant-loop-at l = TagGoing l.src l.initial.attrs l.pos l.count l.attrs l.at l.n

abbrev pub decreases-loop-at : goal.decreases-loop-at
decreases-loop-at l = length l.src - l.at
