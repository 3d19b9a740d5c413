-- `drop_segment` meets its contract: cells are pulled over the row, and the last row is cleared. Assumes nothing.
use Prim.Native.Nat.{◌*◌}
use native.Mathlib.Omega.{arith}
use Rattle.records.proofs.Dropping.{dropped}
use Rattle.records.proofs.segments.drop_segment.Goals as goal

pub returns : goal.returns
returns c =
    dropped 0 c.args.segments.now _ _ (c.args.at * 6) (c.args.end * 6) 6 (omega (arith, c.requires.0)) c.requires.1 c.pull_cells.ensures c.put_kind.ensures
