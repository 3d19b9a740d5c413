-- `are_regions` meets its contract. The loop's invariant: all are regions as those from row i on are.
use Prim.Native.Nat.{◌-◌}
use mathlib.Core.Path.{◌≡◌}
use Rattle.track.specs.Meaning.{is_region, all_rows}
use Rattle.track.proofs.styles.are_regions.Given as goal

abbrev pub invariant-loop-i : goal.invariant-loop-i
invariant-loop-i l = (all_rows (is_region l.t.regions.now l.t.extras.now l.t.strings.now) l.n 0
    ≡ all_rows (is_region l.t.regions.now l.t.extras.now l.t.strings.now) (l.n - l.i) l.i)
