-- `named` answers the colour of the first name that the text is. The loop's invariant: the text has the colour that the rows from there on give it.
use Prim.Native.Nat.{◌≤◌}
use mathlib.Core.Path.{◌≡◌}
use lib.ListN.{drop}
use Rattle.colors.specs.Named.{color_table, named_in}
use Rattle.colors.proofs.named.named.Given as goal

abbrev pub invariant-loop-i : goal.invariant-loop-i
invariant-loop-i l = (l.i ≤ 20) × (named_in l.text color_table ≡ named_in l.text (drop l.i color_table))
