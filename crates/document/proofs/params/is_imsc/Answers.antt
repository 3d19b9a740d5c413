use mathlib.Core.Path.{refl, ◌∙◌}
use Rattle.scan.specs.Part.{string_at}
use Rattle.document.specs.Roots.{imsc_row}
use borrow.Author.Rules.{rules}
use Rattle.document.proofs.params.is_imsc.Goals as goal

-- src/params.rt:18:15
pub overflow_add-end : goal.overflow_add-end
overflow_add-end c =
    let h = rw (← c.param_at-x.ensures) at c.requires.name in
    search (rules, h)

-- src/params.rt:19:45
pub slice_bounds-contains-end : goal.slice_bounds-contains-end
slice_bounds-contains-end c =
    let h = rw (← c.param_at-x.ensures) at c.requires.name in
    search (rules, h)

-- src/params.rt:12:1
pub returns : goal.returns
unfolding imsc_row string_at
returns c =
    c.contains.ensures ∙ rw c.param_at-x.ensures refl
