-- `next_row` meets its contract. Assumes nothing.
use Prim.Native.Nat.{◌+◌, ◌*◌}
use native.Mathlib.Omega.{arith}
use lib.ListN.{get_or}
use Rattle.styles.proofs.Search.{next-none, next-some, half_le}
use Rattle.styles.proofs.ids.next_row.Goals as goal

pub returns-then-next-eq0 : goal.returns-then-next-eq0
returns-then-next-eq0 c =
    next-none _ _ (rw c.get-link.ensures at c.half_of-next.ensures) c.if-next-eq0.true

pub overflow_add-result : goal.overflow_add-result
overflow_add-result c =
    let e = rw c.get-link.ensures at c.half_of-next.ensures in
    let k = half_le c.args.second (get_or c.args.ids.now (c.args.row * 4 + 3) 0) in
    omega (arith, e, k, c.shared_slice_known-1.given (c.args.row * 4 + 3))

pub returns : goal.returns
returns c =
    next-some _ _ (rw c.get-link.ensures at c.half_of-next.ensures) c.if-next-eq0.false
