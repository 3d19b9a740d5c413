-- `put_namespaces` meets its contract.
use Rattle.writer.proofs.Chaining.{writes_stop, writes_then}
use Rattle.document.specs.Roots.{namespaces}
use Rattle.document.proofs.root.put_namespaces.Goals as goal

pub any_param-ttp-requires : goal.any_param-ttp-requires
any_param-ttp-requires c =
    rw c.get-n.ensures c.requires.params

pub any_param-ittp-requires : goal.any_param-ittp-requires
any_param-ittp-requires c =
    rw c.get-n.ensures c.requires.params

pub returns-in_err-put_if : goal.returns-in_err-put_if
unfolding namespaces
returns-in_err-put_if c =
    rw c.from_residual.ensures (writes_stop _ (rw (rw c.get-n.ensures at c.any_param-ttp.ensures) at c.in_err-put_if.ensures))

pub returns-in_err-put_if-2 : goal.returns-in_err-put_if-2
unfolding namespaces
returns-in_err-put_if-2 c =
    rw c.from_residual-in_err-put_if-2.ensures (writes_then (rw (rw c.get-n.ensures at c.any_param-ttp.ensures) at c.in_ok-put_if.ensures) (writes_stop _ (rw (rw c.get-n.ensures at c.any_param-ittp.ensures) at c.in_err-put_if-2.ensures)))

pub returns : goal.returns
unfolding namespaces
returns c =
    writes_then (rw (rw c.get-n.ensures at c.any_param-ttp.ensures) at c.in_ok-put_if.ensures) (writes_then (rw (rw c.get-n.ensures at c.any_param-ittp.ensures) at c.in_ok-put_if-2.ensures) (rw c.uses_itts-itts.ensures at c.put_if-3.ensures))
