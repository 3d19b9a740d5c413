-- `put_look` meets its contract.
use Rattle.writer.proofs.Chaining.{writes_stop, writes_then}
use Rattle.document.specs.Styles.{look_text}
use Rattle.document.proofs.styles.put_look.Goals as goal

pub returns-in_err-rgba_attr : goal.returns-in_err-rgba_attr
unfolding look_text
returns-in_err-rgba_attr c =
    rw c.from_residual.ensures (writes_stop _ c.in_err-rgba_attr.ensures)

pub returns-in_err-rgba_attr-2 : goal.returns-in_err-rgba_attr-2
unfolding look_text
returns-in_err-rgba_attr-2 c =
    rw c.from_residual-in_err-rgba_attr-2.ensures (writes_then c.in_ok-rgba_attr.ensures (writes_stop _ c.in_err-rgba_attr-2.ensures))

pub returns-in_err-optional_attr : goal.returns-in_err-optional_attr
unfolding look_text
returns-in_err-optional_attr c =
    rw c.from_residual-in_err-optional_attr.ensures (writes_then c.in_ok-rgba_attr.ensures (writes_then c.in_ok-rgba_attr-2.ensures (writes_stop _ c.in_err-optional_attr.ensures)))

pub returns : goal.returns
unfolding look_text
returns c =
    writes_then c.in_ok-rgba_attr.ensures (writes_then c.in_ok-rgba_attr-2.ensures (writes_then c.in_ok-optional_attr.ensures c.size_attr.ensures))
