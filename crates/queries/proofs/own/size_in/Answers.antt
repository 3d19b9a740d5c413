-- `size_in` meets its contract. Assumes nothing.
use Rattle.std.specs.Prelude.{Err}
use mathlib.Core.Path.{ap, refl, sym, ◌∙◌}
use native.Mathlib.Omega.{arith}
use lib.ListN.{length-take}
use lib.Ieee.{of_bits}
use Rattle.decimals.proofs.Reading.{decimal-limits}
use Rattle.queries.proofs.Owning.{size-post, size_none, size-beyond}
use Rattle.queries.proofs.own.size_in.Goals as goal

pub slice_bounds-read_decimal-end : goal.slice_bounds-read_decimal-end
slice_bounds-read_decimal-end c =
    omega (arith, c.leading_end-end.ensures.0, length-take c.leading_end-end.result c.args.value.now)

pub size_of-requires : goal.size_of-requires
size_of-requires c =
    let w = decimal-limits 6 10 _ (sym c.read_decimal.ensures.is ∙ c.in-Ok.is) in (w.small, w.near)

pub returns-in-Err-Invalid : goal.returns-in-Err-Invalid
unfolding of_bits
returns-in-Err-Invalid c =
    size_none _ _ c.leading_end-end.ensures.1 (sym c.read_decimal.ensures.is ∙ (c.in-Err-Invalid.is ∙ ap Err c.in-Err-Invalid.field-0-is)) _ refl

pub returns-in-Err-Beyond : goal.returns-in-Err-Beyond
returns-in-Err-Beyond c =
    size-beyond _ _ c.leading_end-end.ensures.1 (sym c.read_decimal.ensures.is ∙ (c.in-Err-Beyond.is ∙ ap Err c.in-Err-Beyond.field-0-is))

pub returns-in-Ok : goal.returns-in-Ok
returns-in-Ok c =
    size-post _ _ c.leading_end-end.ensures.1 _ _ (sym c.read_decimal.ensures.is ∙ c.in-Ok.is) c.size_of.ensures
