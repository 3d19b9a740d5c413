-- `bytes_of` meets its contract: a value stands among the strings. Assumes nothing.
use native.Mathlib.Omega.{arith}
use Rattle.scan.specs.Part.{string_at}
use Rattle.queries.proofs.Owning.{value_in}
use Rattle.queries.proofs.own.bytes_of.Goals as goal

pub overflow_add-result : goal.overflow_add-result
overflow_add-result c =
    let x = value_in _ _ _ _ _ _ c.value_of.ensures c.args.kept.now.has_extras in omega (arith, x.within, x.few)

pub slice_bounds-result-end : goal.slice_bounds-result-end
slice_bounds-result-end c =
    let x = value_in _ _ _ _ _ _ c.value_of.ensures c.args.kept.now.has_extras in omega (arith, x.within)

pub returns : goal.returns
unfolding string_at
returns c =
    rw (← c.value_of.ensures)
