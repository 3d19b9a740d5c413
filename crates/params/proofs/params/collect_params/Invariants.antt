-- `collect_params` meets its contract. The parameters before row k stand in n rows.
use Prim.Native.Nat.{◌≤◌}
use mathlib.Core.Path.{◌≡◌}
use mathlib.Core.List.{List}
use lib.ListN.{length}
use Rattle.tree.specs.Trees.{Attr}
use Rattle.xml.specs.Find.{Owned}
use Rattle.params.proofs.Adding.{Listing}
use Rattle.params.proofs.params.collect_params.Given as goal

abbrev pub invariant-loop-k : goal.invariant-loop-k
invariant-loop-k at = (length at.params ≡ length at.initial.params)
    × (at.n ≤ 64)
    × ((l : List Attr) → Owned at.attrs.attrs.now at.attrs.strings.now at.attrs.first at.attrs.many l → Listing at.attrs.attrs.now at.attrs.strings.now at.k at.end l at.n at.initial.params at.params)
