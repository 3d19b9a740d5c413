-- `rows_within` meets its contract. The loop's invariant: all are within as those from row i on are.
use Prim.Native.Nat.{◌+◌, ◌-◌}
use mathlib.Core.Path.{◌≡◌}
use Rattle.track.specs.Meaning.{all_rows}
use Rattle.walk.specs.Text.{row_within_of}
use Rattle.walk.proofs.rows_within.Given as goal

abbrev pub invariant-loop-i : goal.invariant-loop-i
invariant-loop-i l = all_rows (row_within_of l.segments) l.n l.from ≡ all_rows (row_within_of l.segments) (l.from + l.n - l.i) l.i
