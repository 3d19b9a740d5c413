-- How many decimal digits a number has. The loop's invariant: what is left is the number without its last digits, as many as were counted. The
-- measure is what is left.
use Rattle.numerals.proofs.Writing.{Counting}
use Rattle.numerals.proofs.write.decimal_width.Given as goal

abbrev pub invariant-loop-left : goal.invariant-loop-left
invariant-loop-left l = Counting l.n l.width l.left

abbrev pub decreases-loop-left : goal.decreases-loop-left
decreases-loop-left l = l.left
