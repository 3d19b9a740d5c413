-- `over_long` meets its contract: where no byte before `end` stops the run, it ends where the run from there does.
use borrow.Author.Rules.{rules}
use Rattle.scan.proofs.Splits.{whole_part}
use Rattle.scan.proofs.bytes.over_long.Goals as goal

pub returns-then-i-end : goal.returns-then-i-end
returns-then-i-end c =
    c.over_near-i.ensures.1 c.if-i-end.true

pub returns : goal.returns
returns c =
    let o = rw (whole_part c.args.src.now) at c.over_far.ensures in
    search (rules, o)
