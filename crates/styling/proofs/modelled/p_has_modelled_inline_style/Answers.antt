use mathlib.Core.Path.{sym, ◌∙◌}
use native.Mathlib.Omega.{arith}
use Rattle.xml.proofs.RowFacts.{has_rows}
use Rattle.xml.proofs.AttrRows.{rest-start, row_fits, end_fits}
use Rattle.styling.proofs.Shown.{asked_here, asked-next, asked-none}
use Rattle.styling.proofs.modelled.p_has_modelled_inline_style.Goals as goal

pub overflow_add-end : goal.overflow_add-end
overflow_add-end c =
    record { fits = end_fits (has_rows c.args.attrs.now.room c.args.attrs.now.within) _ (omega arith) (omega arith) }

pub loop-k-init : goal.loop-k-init
loop-k-init c =
    λ l y. rest-start y

pub is_shown-requires : goal.is_shown-requires
is_shown-requires c =
    row_fits (has_rows c.args.attrs.now.room c.args.attrs.now.within) c.loop-k.invariant c.loop-k-test.true

pub returns-then-is_shown : goal.returns-then-is_shown
returns-then-is_shown c =
    λ l y. sym (asked_here (c.loop-k.invariant l y) c.loop-k-test.true (sym c.is_shown.ensures ∙ c.if-is_shown.true))

pub loop-k-preserved : goal.loop-k-preserved
loop-k-preserved c =
    λ l y. asked-next (c.loop-k.invariant l y) c.loop-k-test.true (sym c.is_shown.ensures ∙ c.if-is_shown.false)

pub returns : goal.returns
returns c =
    λ l y. sym (asked-none (c.loop-k.invariant l y) c.loop-k-test.false)
