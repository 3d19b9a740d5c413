-- `is_color` meets its contract: one answer for each flag.
use mathlib.Core.Path.{sym, ◌∙◌}
use borrow.Author.Tests.{ne_eqb}
use Rattle.track.specs.Meaning.{is_color}
use Rattle.track.proofs.cells.is_color.Goals as goal

pub returns-in-0 : goal.returns-in-0
unfolding is_color
returns-in-0 c =
    rw c.in-0.is

pub returns-then-are_three : goal.returns-then-are_three
unfolding is_color
returns-then-are_three c =
    rw
    (c.in-1.is, sym c.are_three.ensures ∙ c.if-are_three.true)
    c.is_byte.ensures

pub returns-else-are_three : goal.returns-else-are_three
unfolding is_color
returns-else-are_three c =
    rw (c.in-1.is, sym c.are_three.ensures ∙ c.if-are_three.false) c.if-are_three.false

pub returns-in_default : goal.returns-in_default
unfolding is_color
returns-in_default c =
    rw (ne_eqb _ 0 c.in_default.in_default-own.rest.0.1, ne_eqb _ 1 c.in_default.in_default-own.rest.1)
