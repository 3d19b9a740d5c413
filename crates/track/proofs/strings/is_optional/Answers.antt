-- `is_optional` meets its contract: one answer for each flag.
use borrow.Author.Tests.{ne_eqb}
use Rattle.track.specs.Meaning.{is_optional}
use Rattle.track.proofs.strings.is_optional.Goals as goal

pub returns-in-0 : goal.returns-in-0
unfolding is_optional
returns-in-0 c =
    rw c.in-0.is

pub returns-in-1 : goal.returns-in-1
unfolding is_optional
returns-in-1 c =
    rw c.in-1.is c.is_span.ensures

pub returns-in_default : goal.returns-in_default
unfolding is_optional
returns-in_default c =
    rw (ne_eqb _ 0 c.in_default.in_default-own.rest.0.1, ne_eqb _ 1 c.in_default.in_default-own.rest.1)
