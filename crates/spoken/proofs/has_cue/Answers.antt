-- `has_cue` meets its contract: each test settles a part of the definition.
use native.Mathlib.Omega.{arith}
use Rattle.track.specs.Tables.{cell}
use Rattle.spoken.proofs.Promised.{rows-far, cue_decided}
use Rattle.spoken.proofs.has_cue.Goals as goal
use Rattle.spoken.proofs.has_cue.Goals.{then-first-gt-SEGMENTS-via-then-first-gt-SEGMENTS, then-first-gt-SEGMENTS-via-else-first-gt-SEGMENTS+then-first-n}

pub returns-then-first-gt-SEGMENTS : goal.returns-then-first-gt-SEGMENTS
unfolding cell
returns-then-first-gt-SEGMENTS c =
    rows-far _ _ _ _ c.get-first.ensures c.get-n.ensures (elim c.then-first-gt-SEGMENTS.branch [
      | then-first-gt-SEGMENTS-via-then-first-gt-SEGMENTS w ↦ omega (arith, w.if-first-gt-SEGMENTS.true)
      | then-first-gt-SEGMENTS-via-else-first-gt-SEGMENTS+then-first-n w ↦ omega (arith, w.if-first-n.true)
    ])

pub returns : goal.returns
unfolding cell
returns c =
    cue_decided _ _ _ _ c.get-first.ensures c.get-n.ensures (omega arith) (omega arith) (omega arith) _ c.rows_within.ensures
