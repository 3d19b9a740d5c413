-- `leading_end` meets its contract. Assumes nothing.
use mathlib.Core.Path.{◌≡◌}
use Rattle.scan.specs.Bytes.{run_end_of}
use Rattle.styles.specs.Own.{size_byte}
use Rattle.queries.proofs.own.leading_end.Given as goal

abbrev pub invariant-loop-i : goal.invariant-loop-i
invariant-loop-i l = run_end_of size_byte l.value 0 ≡ run_end_of size_byte l.value l.i
