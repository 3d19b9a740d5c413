-- `or_none`: without bytes, or with some.
use borrow.Author.Tests.{eq-eqb, ne_eqb}
use Rattle.heads.proofs.styles.or_none.Goals as goal

pub returns-then-c-eq0 : goal.returns-then-c-eq0
returns-then-c-eq0 c =
    rw (eq-eqb _ _ c.if-c-eq0.true)

pub returns-else-c-eq0 : goal.returns-else-c-eq0
returns-else-c-eq0 c =
    rw (ne_eqb _ _ c.if-c-eq0.false)
