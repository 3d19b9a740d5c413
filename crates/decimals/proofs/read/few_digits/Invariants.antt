-- `few_digits` meets its contract. The loop's invariant: the digits before `i` are read, and the run goes on there.
use Rattle.decimals.proofs.Counting.{Running}
use Rattle.decimals.proofs.read.few_digits.Given as goal

abbrev pub invariant-loop-i : goal.invariant-loop-i
invariant-loop-i l = Running l.before l.text l.from l.value l.i
