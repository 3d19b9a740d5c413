-- `are_params` meets its contract. The loop's invariant: all are parameters as those from row i on are.
use Prim.Native.Nat.{◌-◌}
use mathlib.Core.Path.{◌≡◌}
use Rattle.track.specs.Meaning.{is_param, all_rows}
use Rattle.track.proofs.params.are_params.Given as goal

abbrev pub invariant-loop-i : goal.invariant-loop-i
invariant-loop-i l = (all_rows (is_param l.t.params.now l.t.strings.now) l.n 0 ≡ all_rows (is_param l.t.params.now l.t.strings.now) (l.n - l.i) l.i)
