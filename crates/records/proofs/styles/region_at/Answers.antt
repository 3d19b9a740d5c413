-- `region_at` meets its contract: a string and the rows of extras. Assumes nothing.
use native.Mathlib.Nat.{add_assoc, add-zero}
use Rattle.track.specs.Tables.{cell, region_at}
use Rattle.records.proofs.styles.region_at.Goals as goal

pub returns : goal.returns
unfolding cell region_at
returns c =
    rw (c.span_at.ensures, c.rows_at.ensures) (simp (add_assoc, add-zero))
