use mathlib.Core.Path.{sym, ◌∙◌}
use native.Mathlib.Omega.{arith}
use Rattle.styles.proofs.Search.{search_start, search_deep, search_row, search_within, search_hit, search_step, search_none}
use Rattle.styles.proofs.ids.is_visited.Goals as goal

pub get-next-requires : goal.get-next-requires
get-next-requires c =
    omega (arith, c.requires.0.tree.buckets, c.requires.2)

pub loop-next-init : goal.loop-next-init
loop-next-init c =
    search_start _ _ _ _ _ _ _ c.requires.1 c.get-next.ensures

pub is_id-requires : goal.is_id-requires
is_id-requires c = (
  search_row _ _ _ _ _ _ c.requires.0 _ _ c.loop-next.invariant (omega arith),
  search_within _ _ _ _ _ _ c.requires.0 _ _
      c.loop-next.invariant (omega arith),
)

pub returns-then-is_id : goal.returns-then-is_id
returns-then-is_id c =
    sym (search_hit _ _ _ _ _ _ c.requires.0 _ _ c.loop-next.invariant (omega arith) (sym c.is_id.ensures ∙ c.if-is_id.true))

pub next_row-next-requires : goal.next_row-next-requires
next_row-next-requires c =
    search_row _ _ _ _ _ _ c.requires.0 _ _ c.loop-next.invariant (omega arith)

pub overflow_add-depth : goal.overflow_add-depth
overflow_add-depth c =
    omega (arith, search_deep _ _ _ _ _ _ c.requires.0 _ _ c.loop-next.invariant (omega arith))

pub loop-next-smaller : goal.loop-next-smaller
loop-next-smaller c =
    omega (arith, search_deep _ _ _ _ _ _ c.requires.0 _ _ c.loop-next.invariant (omega arith))

pub loop-next-preserved : goal.loop-next-preserved
loop-next-preserved c =
    search_step _ _ _ _ _ _ c.requires.0 _ _ c.loop-next.invariant (omega arith) (sym c.is_id.ensures
    ∙ c.if-is_id.false) _ c.turns-second.ensures _ c.next_row-next.ensures

pub returns : goal.returns
returns c =
    sym (search_none _ _ _ _ _ _ c.requires.0 _ _ c.loop-next.invariant (omega arith))
