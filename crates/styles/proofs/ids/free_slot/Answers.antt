use native.Mathlib.Omega.{arith}
use Rattle.styles.proofs.Search.{falling_start, falling_step, falling_deep, falling_row, falling_ends}
use Rattle.styles.proofs.ids.free_slot.Goals as goal

pub get-next-requires : goal.get-next-requires
get-next-requires c =
    omega (arith, c.requires.0.buckets, c.requires.2)

pub loop-next-init : goal.loop-next-init
loop-next-init c =
    falling_start _ _ _ _ _ _ c.requires.1 c.get-next.ensures

pub next_row-next-requires : goal.next_row-next-requires
next_row-next-requires c =
    falling_row _ _ _ _ _ _ _ _ c.requires.0 c.loop-next.invariant (omega arith)

pub overflow_add-depth : goal.overflow_add-depth
overflow_add-depth c =
    omega (arith, falling_deep _ _ _ _ _ _ _ _ c.requires.0 c.loop-next.invariant (omega arith))

pub loop-next-smaller : goal.loop-next-smaller
loop-next-smaller c =
    omega (arith, falling_deep _ _ _ _ _ _ _ _ c.requires.0 c.loop-next.invariant (omega arith))

pub loop-next-preserved : goal.loop-next-preserved
loop-next-preserved c =
    falling_step _ _ _ _ _ _ _ _ c.requires.0 c.loop-next.invariant (omega arith) _ c.turns-second.ensures _ c.next_row-next.ensures

pub returns : goal.returns
returns c =
    falling_ends _ _ _ _ _ _ _ _ c.requires.0 c.loop-next.invariant (omega arith)
