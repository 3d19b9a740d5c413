-- `extra_at` meets its contract: a number and a string. Assumes nothing.
use native.Mathlib.Nat.{add_assoc, add-zero}
use Rattle.track.specs.Tables.{cell, extra_at}
use Rattle.records.proofs.params.extra_at.Goals as goal

pub returns : goal.returns
unfolding cell extra_at
returns c =
    rw (c.get.ensures, c.span_at.ensures) (simp (add_assoc, add-zero))
