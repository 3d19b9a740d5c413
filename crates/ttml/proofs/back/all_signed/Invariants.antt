-- `all_signed` meets its contract. The loop's invariant: the cells that were read are i64.
use Rattle.ttml.proofs.Returning.{SignedTo}
use Rattle.ttml.proofs.back.all_signed.Given as goal

abbrev pub invariant-loop-i : goal.invariant-loop-i
invariant-loop-i l = SignedTo l.i l.times
