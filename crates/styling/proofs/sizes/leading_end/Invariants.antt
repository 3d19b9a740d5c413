-- `leading_end` meets its contract: the run from the start ends where the run from i does.
use mathlib.Core.Path.{◌≡◌}
use Rattle.scan.specs.Bytes.{run_end_of}
use Rattle.meaning.specs.Styling.{number_byte}
use Rattle.styling.proofs.sizes.leading_end.Given as goal

abbrev pub invariant-loop-i : goal.invariant-loop-i
invariant-loop-i l = run_end_of number_byte l.value 0 ≡ run_end_of number_byte l.value l.i
