use mathlib.Core.Path.{sym, ◌∙◌}
use native.Mathlib.Nat.{sub-zero}
use native.Mathlib.Omega.{arith}
use Rattle.track.specs.Tables.{cell}
use Rattle.track.proofs.Chains.{fails, holds}
use Rattle.track.proofs.CueRows.{cues_stop, cues_next, cues_done, cue_within}
use Rattle.track.proofs.cues.are_cues.Goals as goal

pub loop-i-init : goal.loop-i-init
loop-i-init c =
    (omega arith, rw (sub-zero _))

pub is_cue-requires : goal.is_cue-requires
is_cue-requires c =
    (omega arith, omega arith, omega arith, omega arith)

pub returns-then-not-is_cue : goal.returns-then-not-is_cue
returns-then-not-is_cue c =
    sym (c.loop-i.invariant.1 ∙ cues_stop _ _ _ _ _ _ _ _ _ c.loop-i-test.true (fails c.is_cue.ensures c.if-not-is_cue.true-raw))

pub overflow_add-from : goal.overflow_add-from
unfolding cell
overflow_add-from c =
    omega (arith, c.get-from.ensures, cue_within _ _ _ _ _ _ _ _ (holds c.is_cue.ensures c.if-not-is_cue.false-raw))

pub loop-i-preserved : goal.loop-i-preserved
unfolding cell
loop-i-preserved c =
    let h = holds c.is_cue.ensures c.if-not-is_cue.false-raw in (
      omega (arith, c.get-from.ensures, cue_within _ _ _ _ _ _ _ _ h),
      rw c.get-from.ensures (c.loop-i.invariant.1 ∙ cues_next _ _ _ _ _ _ _ _ _ c.loop-i-test.true h),
    )

pub returns : goal.returns
returns c =
    sym (c.loop-i.invariant.1 ∙ cues_done _ _ _ _ _ _ _ _ _ c.loop-i-test.false)
