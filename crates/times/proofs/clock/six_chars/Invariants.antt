-- How many bytes the first six characters have. The loop's invariant: those passed, and those of the characters that are left, are the bytes of the
-- first six.
use Rattle.times.proofs.Fractions.{Six}
use Rattle.times.proofs.clock.six_chars.Given as goal

abbrev pub invariant-loop-i : goal.invariant-loop-i
invariant-loop-i l = Six l.text l.chars l.i
