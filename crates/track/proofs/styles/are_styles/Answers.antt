use mathlib.Core.Path.{sym, ◌∙◌}
use Rattle.track.proofs.Chains.{fails, holds}
use Rattle.track.proofs.RowLaws.{rows_all, rows-stop, rows_next, rows-done}
use Rattle.track.proofs.styles.are_styles.Goals as goal

pub loop-i-init : goal.loop-i-init
loop-i-init c =
    rows_all _ _

pub returns-then-not-is_style : goal.returns-then-not-is_style
returns-then-not-is_style c =
    sym (c.loop-i.invariant ∙ rows-stop _ c.loop-i-test.true (fails c.is_style.ensures c.if-not-is_style.true-raw))

pub loop-i-preserved : goal.loop-i-preserved
loop-i-preserved c =
    (c.loop-i.invariant ∙ rows_next _ c.loop-i-test.true (holds c.is_style.ensures c.if-not-is_style.false-raw))

pub returns : goal.returns
returns c =
    sym (c.loop-i.invariant ∙ rows-done _ c.loop-i-test.false)
