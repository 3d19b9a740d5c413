-- `mode_in`: one of two words, or what is inherited.
use mathlib.Core.Path.{sym, ◌∙◌}
use Rattle.styling.proofs.space.mode_in.Goals as goal

pub returns-then-same : goal.returns-then-same
returns-then-same c =
    let e = sym c.same.ensures ∙ c.if-same.true in rw e

pub returns-then-same-2 : goal.returns-then-same-2
returns-then-same-2 c =
    let e = sym c.same.ensures ∙ c.if-same.false in let f = sym c.same-else-same.ensures ∙ c.if-same-2.true in rw (e, f)

pub returns-else-same-2 : goal.returns-else-same-2
returns-else-same-2 c =
    let e = sym c.same.ensures ∙ c.if-same.false in let f = sym c.same-else-same.ensures ∙ c.if-same-2.false in rw (e, f)
