use mathlib.Core.Path.{sym, ◌∙◌}
use Rattle.track.proofs.Chains.{fails, holds}
use Rattle.track.proofs.RowLaws.{rows_all, rows-stop, rows_next, rows-done}
use Rattle.track.proofs.params.are_params.Goals as goal

pub loop-i-init : goal.loop-i-init
loop-i-init c =
    rows_all _ _

pub returns-then-not-is_param : goal.returns-then-not-is_param
returns-then-not-is_param c =
    sym (c.loop-i.invariant ∙ rows-stop _ c.loop-i-test.true (fails c.is_param.ensures c.if-not-is_param.true-raw))

pub loop-i-preserved : goal.loop-i-preserved
loop-i-preserved c =
    (c.loop-i.invariant ∙ rows_next _ c.loop-i-test.true (holds c.is_param.ensures c.if-not-is_param.false-raw))

pub returns : goal.returns
returns c =
    sym (c.loop-i.invariant ∙ rows-done _ c.loop-i-test.false)
