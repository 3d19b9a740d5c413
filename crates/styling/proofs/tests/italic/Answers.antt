-- `italic`: one word or the other.
use mathlib.Core.Path.{sym, ◌∙◌}
use Rattle.styling.proofs.tests.italic.Goals as goal

pub returns-then-eq_ignore_ascii_case : goal.returns-then-eq_ignore_ascii_case
returns-then-eq_ignore_ascii_case c =
    let e = sym c.eq_ignore_ascii_case.ensures ∙ c.if-eq_ignore_ascii_case.true in rw (c.eq_ignore_ascii_case.ensures, e)

pub returns-else-eq_ignore_ascii_case : goal.returns-else-eq_ignore_ascii_case
returns-else-eq_ignore_ascii_case c =
    let e = sym c.eq_ignore_ascii_case.ensures ∙ c.if-eq_ignore_ascii_case.false in rw (c.eq_ignore_ascii_case-else-eq_ignore_ascii_case.ensures, e)
