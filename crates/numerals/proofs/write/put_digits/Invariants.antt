-- The last digits of a number, written from the last one on. The loop's invariant: the digits behind place i stand there, and those before it are
-- the digits of what is left.
use Rattle.numerals.proofs.Writing.{Putting}
use Rattle.numerals.proofs.write.put_digits.Given as goal

abbrev pub invariant-loop-i : goal.invariant-loop-i
invariant-loop-i l = Putting l.radix l.width l.n l.at l.initial.out l.left l.i l.out
