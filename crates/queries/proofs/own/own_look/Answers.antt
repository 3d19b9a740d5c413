-- `own_look` meets its contract. Assumes nothing.
use mathlib.Core.Path.{sym, ◌∙◌}
use Rattle.queries.proofs.own.own_look.Goals as goal

pub returns-then-italic : goal.returns-then-italic
returns-then-italic c =
    let q = sym c.is_said-italic.ensures ∙ c.if-italic.true in
    rw (c.value_of-family.ensures, c.align_of-align.ensures, c.is_said-bold.ensures, c.is_said-italic.ensures, q)

pub returns-else-italic : goal.returns-else-italic
returns-else-italic c =
    let q = sym c.is_said-italic.ensures ∙ c.if-italic.false in
    rw (c.value_of-family.ensures, c.align_of-align.ensures, c.is_said-bold.ensures, c.is_said-oblique.ensures, q)
