use mathlib.Core.Path.{sym, ◌∙◌}
use native.Mathlib.Omega.{arith}
use Rattle.xml.proofs.RowFacts.{has_rows}
use Rattle.xml.proofs.AttrRows.{rest-start, row_fits, end_fits, value-here, value-next, value-nowhere}
use Rattle.xml.proofs.attributes.Attributes.attr.Goals as goal

pub overflow_add-end : goal.overflow_add-end
overflow_add-end c =
    record { fits = end_fits (has_rows c.args.self.now.room c.args.self.now.within) _ (omega arith) (omega arith) }

pub loop-k-init : goal.loop-k-init
loop-k-init c =
    λ l y. rest-start y

pub is_attr-requires : goal.is_attr-requires
is_attr-requires c =
    row_fits (has_rows c.args.self.now.room c.args.self.now.within) c.loop-k.invariant c.loop-k-test.true

pub attr_at-requires : goal.attr_at-requires
attr_at-requires c =
    (row_fits (has_rows c.args.self.now.room c.args.self.now.within) c.loop-k.invariant c.loop-k-test.true).0

pub returns-then-is_attr : goal.returns-then-is_attr
returns-then-is_attr c =
    let e = sym c.is_attr.ensures ∙ c.if-is_attr.true in
    λ l y. rw c.attr_at.ensures (value-here c.args.name.now (c.loop-k.invariant l y) c.loop-k-test.true e)

pub loop-k-preserved : goal.loop-k-preserved
loop-k-preserved c =
    let e = sym c.is_attr.ensures ∙ c.if-is_attr.false in
    λ l y. value-next c.args.name.now (c.loop-k.invariant l y) c.loop-k-test.true e

pub returns : goal.returns
returns c =
    let name = c.args.name.now in
    λ l y. value-nowhere name (c.loop-k.invariant l y) c.loop-k-test.false
