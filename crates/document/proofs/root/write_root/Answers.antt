-- `write_root` meets its contract.
use Rattle.writer.proofs.Chaining.{writes_stop, writes_then}
use Rattle.document.specs.Roots.{root_text}
use Rattle.document.proofs.root.write_root.Goals as goal

pub write_params-requires : goal.write_params-requires
write_params-requires c =
    rw c.get.ensures c.requires.params

pub put_lang-requires : goal.put_lang-requires
put_lang-requires c =
    (c.requires.head, c.requires.lang)

pub returns-in_err-put : goal.returns-in_err-put
unfolding root_text
returns-in_err-put c =
    rw c.from_residual.ensures (writes_stop _ c.in_err-put.ensures)

pub returns-in_err-put_namespaces : goal.returns-in_err-put_namespaces
unfolding root_text
returns-in_err-put_namespaces c =
    rw c.from_residual-in_err-put_namespaces.ensures (writes_then c.in_ok-put.ensures (writes_stop _ c.in_err-put_namespaces.ensures))

pub returns-in_err-write_params : goal.returns-in_err-write_params
unfolding root_text
returns-in_err-write_params c =
    rw c.from_residual-in_err-write_params.ensures (writes_then c.in_ok-put.ensures (writes_then c.in_ok-put_namespaces.ensures (writes_stop _ (rw c.get.ensures at c.in_err-write_params.ensures))))

pub returns-in_err-put_lang : goal.returns-in_err-put_lang
unfolding root_text
returns-in_err-put_lang c =
    rw c.from_residual-in_err-put_lang.ensures (writes_then c.in_ok-put.ensures (writes_then c.in_ok-put_namespaces.ensures (writes_then (rw c.get.ensures at c.in_ok-write_params.ensures) (writes_stop _ c.in_err-put_lang.ensures))))

pub returns : goal.returns
unfolding root_text
returns c =
    writes_then c.in_ok-put.ensures (writes_then c.in_ok-put_namespaces.ensures (writes_then (rw c.get.ensures at c.in_ok-write_params.ensures) (writes_then c.in_ok-put_lang.ensures c.put-2.ensures)))
