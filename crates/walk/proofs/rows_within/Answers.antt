use mathlib.Core.Path.{sym, ◌∙◌}
use Rattle.track.proofs.Chains.{fails, holds}
use Rattle.track.proofs.RowLaws.{rows-stop, rows_next, rows-done}
use Rattle.walk.proofs.Rows.{rows-from}
use Rattle.walk.proofs.rows_within.Goals as goal

pub loop-i-init : goal.loop-i-init
loop-i-init c =
    rows-from _ _ _

pub returns-then-not-row_within : goal.returns-then-not-row_within
returns-then-not-row_within c =
    sym (c.loop-i.invariant ∙ rows-stop _ c.loop-i-test.true (fails c.row_within.ensures c.if-not-row_within.true-raw))

pub loop-i-preserved : goal.loop-i-preserved
loop-i-preserved c =
    let h = holds c.row_within.ensures c.if-not-row_within.false-raw in
    c.loop-i.invariant ∙ rows_next _ c.loop-i-test.true h

pub returns : goal.returns
returns c =
    sym (c.loop-i.invariant ∙ rows-done _ c.loop-i-test.false)
