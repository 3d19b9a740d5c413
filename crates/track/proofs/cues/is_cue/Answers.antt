-- `is_cue` meets its contract: its segments are such.
use mathlib.Core.Path.{sym, ◌∙◌}
use mathlib.Core.Bool.{true≢false}
use borrow.Author.Tests.{leb-true}
use native.Mathlib.Omega.{arith}
use Rattle.track.specs.Tables.{cell}
use Rattle.track.proofs.CueRows.{cue_is}
use Rattle.track.proofs.cues.is_cue.Goals as goal
use Rattle.track.proofs.cues.is_cue.Goals.{then-first-from, else-first-from}

pub returns-then-n-most : goal.returns-then-n-most
unfolding cell
returns-then-n-most c =
    elim c.if-first-from.branch [
      | then-first-from w ↦
          let first = w.if-first-from.true in
          let room = leb-true c.get-n.result _ (sym w.value-is ∙ c.if-n-most.true) in
          rw c.get-n.ensures at c.are_segments.ensures
          ∙ sym (cue_is _ _ _ _ _ _ _ _ (sym c.cue_values.ensures ∙ first.0) (sym c.get-first.ensures ∙ first.1) (omega (arith, c.get-n.ensures, room)))
      | else-first-from w ↦ absurd (true≢false (sym c.if-n-most.true ∙ w.value-is ∙ w.if-first-from.false-raw))
    ]
