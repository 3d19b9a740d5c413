-- `turns` meets its contract: one bit of a byte of the name. Assumes nothing.
use Prim.Native.Nat.{◌-◌, ◌/◌}
use native.Mathlib.Omega.{arith}
use lib.ListN.{length}
use borrow.Author.Tests.{le-leb, lt-leb}
use Rattle.styles.specs.Ids.{turn}
use Rattle.styles.proofs.ids.turns.Goals as goal

pub returns-then-name-back : goal.returns-then-name-back
unfolding turn
returns-then-name-back c =
    rw (le-leb _ _ c.if-name-back.true)

pub overflow_cast-byte : goal.overflow_cast-byte
overflow_cast-byte c =
    omega (arith, c.shared_slice_known-1.given (length c.args.name.now - 1 - c.args.depth / 8))

pub returns : goal.returns
unfolding turn
returns c =
    rw (lt-leb _ _ c.if-name-back.false)
