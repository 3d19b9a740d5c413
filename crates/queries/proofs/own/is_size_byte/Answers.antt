-- `is_size_byte` meets its contract. Assumes nothing.
use mathlib.Core.Path.{sym, ◌∙◌}
use Rattle.queries.proofs.own.is_size_byte.Goals as goal

pub returns-then-is_of : goal.returns-then-is_of
returns-then-is_of c =
    let e = sym c.is_of.ensures ∙ c.if-is_of.true in rw (c.is_of.ensures, e)

pub returns-else-is_of : goal.returns-else-is_of
returns-else-is_of c =
    let e = sym c.is_of.ensures ∙ c.if-is_of.false in rw e
