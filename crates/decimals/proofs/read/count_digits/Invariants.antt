-- `count_digits` meets its contract. The loop's invariant: the digits before `i` are read.
use Rattle.decimals.proofs.Counting.{Going}
use Rattle.decimals.proofs.read.count_digits.Given as goal

abbrev pub invariant-loop-i : goal.invariant-loop-i
invariant-loop-i l = Going l.initial.count l.text l.from l.to l.count l.i
