-- `collect_break` meets its contract: the siblings ended, then a row. Assumes nothing.
use Prim.Native.Nat.{◌≤◌}
use lib.ListN.{length}
use Rattle.content.proofs.Giving.{break-given}
use borrow.Author.Rules.{rules}
use Rattle.content.proofs.collect.collect_break.Goals as goal

pub returns : goal.returns
returns c =
    λ hi.
    let wide : 98304 ≤ length c.end_siblings.new.segments = search rules in
    rw c.added.ensures
    (break-given c.args.ws c.args.place hi c.args.first c.args.rows c.args.segments.now c.end_siblings.new.segments c.add_break-a.new.segments c.args.texts.now
    c.end_siblings.new.texts c.end_siblings.ensures wide c.add_break-a.result c.add_break-a.ensures)
