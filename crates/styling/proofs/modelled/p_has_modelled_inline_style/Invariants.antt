-- `p_has_modelled_inline_style` meets its contract. The loop goes on with the attributes from k on; the measure is what is left of them.
use mathlib.Core.List.{List}
use Rattle.tree.specs.Trees.{Attr}
use Rattle.xml.specs.Find.{Owned}
use Rattle.xml.proofs.AttrRows.{Rest}
use Rattle.styling.proofs.Shown.{asked}
use Rattle.styling.proofs.modelled.p_has_modelled_inline_style.Given as goal

abbrev pub invariant-loop-k : goal.invariant-loop-k
invariant-loop-k at = (l : List Attr) → Owned at.attrs.attrs.now at.attrs.strings.now at.attrs.first at.attrs.many l
    → Rest (asked at.attrs.strings.now) at.attrs.attrs.now at.attrs.strings.now at.k at.end l
