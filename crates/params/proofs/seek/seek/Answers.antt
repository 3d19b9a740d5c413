use mathlib.Core.Path.{sym, ◌∙◌}
use native.Mathlib.Omega.{arith}
use Rattle.xml.proofs.RowFacts.{has_rows}
use Rattle.xml.proofs.AttrRows.{rest-start, row_fits, end_fits}
use Rattle.params.specs.Named.{sought_by}
use Rattle.params.proofs.Seeking.{sought_here, sought_next, sought_nowhere}
use Rattle.params.proofs.seek.seek.Goals as goal

pub overflow_add-end : goal.overflow_add-end
overflow_add-end c =
    record { fits = end_fits (has_rows c.args.attrs.now.room c.args.attrs.now.within) _ (omega arith) (omega arith) }

pub loop-k-init : goal.loop-k-init
loop-k-init c =
    λ l y. rest-start y

pub is_row-requires : goal.is_row-requires
is_row-requires c =
    row_fits (has_rows c.args.attrs.now.room c.args.attrs.now.within) c.loop-k.invariant c.loop-k-test.true

pub attr_at-requires : goal.attr_at-requires
attr_at-requires c =
    (row_fits (has_rows c.args.attrs.now.room c.args.attrs.now.within) c.loop-k.invariant c.loop-k-test.true).0

pub returns-then-is_row : goal.returns-then-is_row
returns-then-is_row c =
    λ l y. sought_here (sought_by c.args.sought c.args.name.now) (c.loop-k.invariant l y) c.loop-k-test.true _ c.attr_at.ensures
    (sym c.is_row.ensures ∙ c.if-is_row.true)

pub loop-k-preserved : goal.loop-k-preserved
loop-k-preserved c =
    λ l y. sought_next (sought_by c.args.sought c.args.name.now) (c.loop-k.invariant l y) c.loop-k-test.true
    (sym c.is_row.ensures ∙ c.if-is_row.false)

pub returns : goal.returns
returns c =
    λ l y. sought_nowhere (sought_by c.args.sought c.args.name.now) (c.loop-k.invariant l y) c.loop-k-test.false
