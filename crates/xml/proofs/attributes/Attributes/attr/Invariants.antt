-- `attr` meets its contract. The loop goes on with the attributes from k on.
use mathlib.Core.List.{List}
use Rattle.tree.specs.Trees.{Attr}
use Rattle.xml.specs.Find.{Owned, find_value}
use Rattle.xml.proofs.AttrRows.{Rest}
use Rattle.xml.proofs.attributes.Attributes.attr.Given as goal

abbrev pub invariant-loop-k : goal.invariant-loop-k
invariant-loop-k l = (g : List Attr) → Owned l.self.attrs.now l.self.strings.now l.self.first l.self.many g
    → Rest (find_value l.self.strings.now l.name) l.self.attrs.now l.self.strings.now l.k l.end g
