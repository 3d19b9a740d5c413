-- `keep_all` meets its contract. The extras of the names before the i-th stand in n rows.
use mathlib.Core.Path.{◌≡◌}
use mathlib.Core.List.{List}
use lib.ListN.{length}
use Rattle.xml.specs.Reading.{Placed}
use Rattle.meaning.specs.Nodes.{Attr}
use Rattle.extras.specs.Kept.{FirstRows}
use Rattle.extras.proofs.Keeping.{Kept}
use Rattle.extras.proofs.extras.keep_all.Given as goal

abbrev pub invariant-loop-i : goal.invariant-loop-i
invariant-loop-i at = (length at.extras ≡ length at.initial.extras)
    × ((l : List (Attr Placed)) → FirstRows at.attrs.attrs.now at.attrs.strings.now at.list at.rows l → Kept at.list l at.i at.n at.at at.initial.extras at.extras)
