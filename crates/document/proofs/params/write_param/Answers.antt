-- `write_param` meets its contract.
use Rattle.writer.proofs.Chaining.{writes_stop, writes_then}
use Rattle.scan.specs.Part.{string_at}
use Rattle.document.specs.Roots.{param_text}
use borrow.Author.Rules.{rules}
use Rattle.document.proofs.params.write_param.Goals as goal

pub overflow_add-end : goal.overflow_add-end
overflow_add-end c =
    let h = rw (← c.param_at-x.ensures) at c.requires.name in
    search (rules, h)

pub slice_bounds-put-end : goal.slice_bounds-put-end
slice_bounds-put-end c =
    let h = rw (← c.param_at-x.ensures) at c.requires.name in
    search (rules, h)

pub span_attr-requires : goal.span_attr-requires
span_attr-requires c =
    rw c.param_at-x.ensures c.requires.value

pub returns-in_err-put_prefix : goal.returns-in_err-put_prefix
unfolding param_text string_at
returns-in_err-put_prefix c =
    rw c.from_residual.ensures (writes_stop _ (rw c.is_imsc-imsc.ensures at c.in_err-put_prefix.ensures))

pub returns-in_err-put : goal.returns-in_err-put
unfolding param_text string_at
returns-in_err-put c =
    rw c.from_residual-in_err-put.ensures (writes_then (rw c.is_imsc-imsc.ensures at c.in_ok-put_prefix.ensures) (writes_stop _ (rw c.param_at-x.ensures at c.in_err-put.ensures)))

pub returns : goal.returns
unfolding param_text string_at
returns c =
    writes_then (rw c.is_imsc-imsc.ensures at c.in_ok-put_prefix.ensures) (writes_then (rw c.param_at-x.ensures at c.in_ok-put.ensures) (rw c.param_at-x.ensures at c.span_attr.ensures))
