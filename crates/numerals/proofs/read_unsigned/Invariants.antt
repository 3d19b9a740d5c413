-- The value of digits alone: at each digit the value so far, with the digits that are left, spells what the whole text spells.
use Rattle.numerals.proofs.Numerals.{Going}
use Rattle.numerals.proofs.read_unsigned.Given as goal

abbrev pub invariant-loop-b : goal.invariant-loop-b
invariant-loop-b l = Going l.radix l.most l.digits l.value l.b-index
