-- `row_within` meets its contract: a text by its place, and then by its length.
use native.Mathlib.Omega.{arith}
use Rattle.walk.proofs.Rows.{within-near}
use Rattle.walk.proofs.row_within.Goals as goal

pub returns-then-place-le-BYTES : goal.returns-then-place-le-BYTES
returns-then-place-le-BYTES c =
    within-near c.args.segments.now c.args.i (omega arith) _ _ c.get-place.ensures c.get-len.ensures (omega arith)
