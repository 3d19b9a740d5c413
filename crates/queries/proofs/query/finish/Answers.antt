-- `finish` meets its contract. Assumes nothing.
use borrow.Author.Tests.{not-true, not-false}
use Rattle.queries.proofs.Promising.{finish_none, finish_some}
use Rattle.queries.proofs.query.finish.Goals as goal

pub returns-then-not-w : goal.returns-then-not-w
returns-then-not-w c =
    rw c.in-Some.is (finish_none c.args.name c.in-Some.w c.args.ids.now (not-true
    c.in-Some.w.found c.if-not-w.true))

pub returns-in_default : goal.returns-in_default
returns-in_default c =
    rw c.in_default.is (c.refused.ensures, c.clear.ensures)

pub returns : goal.returns
returns c =
    rw c.in-Some.is (finish_some c.args.name c.in-Some.w c.args.ids.now (not-false
    c.in-Some.w.found c.if-not-w.false))
