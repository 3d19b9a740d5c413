-- `seek` meets its contract. The loop goes on with the attributes from k on.
use mathlib.Core.List.{List}
use Rattle.tree.specs.Trees.{Attr}
use Rattle.xml.specs.Find.{Owned}
use Rattle.xml.proofs.AttrRows.{Rest}
use Rattle.params.specs.Named.{sought_by}
use Rattle.params.proofs.Seeking as seeking
use Rattle.params.proofs.seek.seek.Given as goal

abbrev pub invariant-loop-k : goal.invariant-loop-k
invariant-loop-k at = (l : List Attr) → Owned at.attrs.attrs.now at.attrs.strings.now at.attrs.first at.attrs.many l
    → Rest (seeking.sought (sought_by at.sought at.name) at.attrs.strings.now) at.attrs.attrs.now at.attrs.strings.now at.k at.end l
