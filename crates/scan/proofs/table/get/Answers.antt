-- `get` meets its contract: a cell of 32 bits fits a `usize`.
use native.Mathlib.Omega.{arith}
use Rattle.scan.proofs.table.get.Goals as goal

pub overflow_cast-result : goal.overflow_cast-result
overflow_cast-result c =
    omega (arith, c.shared_slice_known-1.given c.args.at)
