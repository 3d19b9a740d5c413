use Prim.Native.Nat.{◌-◌}
use mathlib.Core.Path.{◌≡◌, refl}
use native.Mathlib.Omega.{arith}
use Rattle.records.proofs.RowMoves.{rows_none, row_moved}
use Rattle.records.proofs.segments.shift_segments.Goals as goal

pub loop-i-init : goal.loop-i-init
loop-i-init c =
    (omega arith, refl, rows_none c.args.segments.now _ _ (omega arith))

pub move_row-requires : goal.move_row-requires
move_row-requires c =
    (omega arith, omega arith)

pub returns : goal.returns
returns c =
    let e : c.loop-i.i ≡ c.args.at = omega arith in
    rw e at c.loop-i.invariant.2.is

pub loop-i-preserved : goal.loop-i-preserved
loop-i-preserved c = (
  omega arith,
  omega arith,
  row_moved c.args.segments.now c.loop-i.segments _ c.args.end c.args.by c.loop-i.i (c.loop-i.i - 1) c.loop-i.invariant.2 (omega arith)
      c.loop-i.invariant.1 c.move_row.ensures,
)
