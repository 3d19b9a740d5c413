-- `digits_end` meets its contract. The loop's invariant: the run from `from` ends where the run from `i` does.
use Rattle.std.proofs.Common.{◌≡◌}
use Rattle.scan.specs.Bytes.{digit_byte, run_end_of}
use Rattle.decimals.proofs.read.digits_end.Given as goal

abbrev pub invariant-loop-i : goal.invariant-loop-i
invariant-loop-i l = run_end_of digit_byte l.text l.from ≡ run_end_of digit_byte l.text l.i
