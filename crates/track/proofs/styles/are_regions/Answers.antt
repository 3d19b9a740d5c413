use mathlib.Core.Path.{sym, ◌∙◌}
use Rattle.track.proofs.Chains.{fails, holds}
use Rattle.track.proofs.RowLaws.{rows_all, rows-stop, rows_next, rows-done}
use Rattle.track.proofs.styles.are_regions.Goals as goal

pub loop-i-init : goal.loop-i-init
loop-i-init c =
    rows_all _ _

pub returns-then-not-is_region : goal.returns-then-not-is_region
returns-then-not-is_region c =
    sym (c.loop-i.invariant ∙ rows-stop _ c.loop-i-test.true (fails c.is_region.ensures c.if-not-is_region.true-raw))

pub loop-i-preserved : goal.loop-i-preserved
loop-i-preserved c =
    (c.loop-i.invariant ∙ rows_next _ c.loop-i-test.true (holds c.is_region.ensures c.if-not-is_region.false-raw))

pub returns : goal.returns
returns c =
    sym (c.loop-i.invariant ∙ rows-done _ c.loop-i-test.false)
