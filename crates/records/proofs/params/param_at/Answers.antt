-- `param_at` meets its contract: two strings. Assumes nothing.
use native.Mathlib.Nat.{add_assoc, add-zero}
use Rattle.track.specs.Tables.{cell, param_at}
use Rattle.records.proofs.params.param_at.Goals as goal

pub returns : goal.returns
unfolding cell param_at
returns c =
    rw (c.span_at.ensures, c.span_at-2.ensures) (simp (add_assoc, add-zero))
