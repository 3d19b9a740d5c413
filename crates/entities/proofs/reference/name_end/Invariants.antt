-- `name_end` meets its contract. The loop's invariant: the name at `pos` has `i - pos` bytes, at most 17, and those of the name at `i`.
use Prim.Native.Nat.{◌+◌, ◌-◌, ◌≤◌}
use mathlib.Core.Path.{◌≡◌}
use lib.ListN.{length, drop}
use Rattle.entities.specs.Steps.{taken_byte}
use Rattle.scan.specs.Bytes.{run_length_of}
use Rattle.entities.proofs.reference.name_end.Given as goal

abbrev pub invariant-loop-i : goal.invariant-loop-i
invariant-loop-i l = (l.i ≤ length l.src) × (l.pos ≤ l.i) × (l.i - l.pos ≤ 17) × (run_length_of taken_byte (drop l.pos l.src) ≡ (l.i - l.pos) + run_length_of taken_byte (drop l.i l.src))
