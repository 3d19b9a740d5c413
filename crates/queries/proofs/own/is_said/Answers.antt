-- `is_said` meets its contract. Assumes nothing.
use native.Mathlib.Omega.{arith}
use borrow.Author.Tests.{not-true, not-false}
use Rattle.scan.specs.Part.{string_at}
use Rattle.queries.proofs.Owning.{value_in, said_none, said_some}
use Rattle.queries.proofs.own.is_said.Goals as goal

pub returns-then-not-v : goal.returns-then-not-v
returns-then-not-v c =
    said_none _ _ _ _ _ _ c.value_of-v.ensures _ (not-true _ c.if-not-v.true)

pub overflow_add-s : goal.overflow_add-s
overflow_add-s c =
    let x = value_in _ _ _ _ _ _ c.value_of-v.ensures c.args.kept.now.has_extras in omega (arith, x.within, x.few)

pub slice_bounds-eq_ignore_ascii_case-end : goal.slice_bounds-eq_ignore_ascii_case-end
slice_bounds-eq_ignore_ascii_case-end c =
    let x = value_in _ _ _ _ _ _ c.value_of-v.ensures c.args.kept.now.has_extras in omega (arith, x.within)

pub returns : goal.returns
unfolding string_at
returns c =
    said_some _ _ _ _ _ _ c.value_of-v.ensures _ _ (not-false _ c.if-not-v.false) c.eq_ignore_ascii_case.ensures
