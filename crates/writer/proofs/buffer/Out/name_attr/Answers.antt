-- `name_attr` meets its contract.
use mathlib.Core.Path.{refl}
use Rattle.writer.proofs.Chaining.{writes_on, writes_out, writes_stop, writes_then}
use Rattle.writer.proofs.buffer.Out.name_attr.Goals as goal

pub returns-in_err-put : goal.returns-in_err-put
returns-in_err-put c =
    rw c.from_residual.ensures (writes_stop _ c.in_err-put.ensures)

pub returns-in_err-self : goal.returns-in_err-self
returns-in_err-self c =
    rw c.from_residual-in_err-self.ensures (writes_then c.in_ok-put.ensures (writes_stop _ (writes_out refl c.in_err-self.ensures)))

pub returns : goal.returns
returns c =
    writes_then c.in_ok-put.ensures (writes_then (writes_on refl c.in_ok-self.ensures) c.span_attr.ensures)
