-- `cue_at` meets its contract. Assumes nothing.
use Prim.Native.Nat.{◌+◌, ◌*◌}
use native.Mathlib.Nat.{add_assoc, add-zero}
use lib.ListN.{get_or}
use lib.IntN.{pos}
use Rattle.records.proofs.Parts.{same_time}
use Rattle.track.specs.Tables.{cell, cue_at}
use Rattle.records.proofs.cues.cue_at.Goals as goal

pub returns : goal.returns
unfolding cell cue_at
returns c =
    let from = same_time (get_or c.args.times.now (c.args.i * 2) (pos 0)) c.result-1.given in
    let to = same_time (get_or c.args.times.now (c.args.i * 2 + 1) (pos 0)) c.result-2-1.given in
    rw (from, to, c.optional_at.ensures, c.optional_at-2.ensures, c.rows_at.ensures, c.rows_at-2.ensures)
    (simp (add_assoc, add-zero))
