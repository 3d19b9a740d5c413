-- `utf8::ascii_end` meets its contract. The loop's invariant: the bytes from the start to `i` are ASCII. Assumes nothing.
use Rattle.utf8.specs.Steps.{AsciiTo}
use Rattle.utf8.proofs.utf8.ascii_end.Given as goal

abbrev pub invariant-loop-i : goal.invariant-loop-i
invariant-loop-i l = AsciiTo l.src l.pos l.i
