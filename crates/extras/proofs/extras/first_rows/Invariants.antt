-- `first_rows` meets its contract. The attributes before row k are noted.
use mathlib.Core.Path.{◌≡◌}
use mathlib.Core.List.{List}
use lib.ListN.{length}
use Rattle.tree.specs.Trees.{Attr}
use Rattle.xml.specs.Find.{Owned}
use Rattle.extras.specs.Kept.{RowsFit, NoneFrom}
use Rattle.extras.proofs.Noting.{Noted}
use Rattle.extras.proofs.extras.first_rows.Given as goal

abbrev pub invariant-loop-k : goal.invariant-loop-k
invariant-loop-k at = (length at.rows ≡ length at.initial.rows)
    × RowsFit at.attrs.attrs.now at.attrs.strings.now at.rows
    × ((l : List Attr) → Owned at.attrs.attrs.now at.attrs.strings.now at.attrs.first at.attrs.many l → Noted at.list at.attrs.attrs.now at.attrs.strings.now at.rows at.k at.end l)
    × NoneFrom at.list at.last at.rows
