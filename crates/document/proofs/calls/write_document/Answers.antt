-- `write_document` meets its contract.
use Rattle.writer.proofs.Chaining.{writes_stop, writes_then}
use Rattle.document.proofs.Whole.{whole-writes}
use borrow.Author.Rules.{rules}
use Rattle.document.proofs.calls.write_document.Goals as goal

pub write_head-requires : goal.write_head-requires
write_head-requires c =
    (rw c.get-n.ensures c.requires.styles, rw c.get-m.ensures c.requires.regions)

pub get-k-requires : goal.get-k-requires
get-k-requires c =
    let h = c.requires.root.head in
    search (rules, h)

pub write_cues-requires : goal.write_cues-requires
write_cues-requires c =
    rw c.get-k.ensures c.requires.cues

pub returns-in_err-put : goal.returns-in_err-put
returns-in_err-put c =
    rw c.from_residual.ensures (whole-writes _ _ _ _ (writes_stop _ c.in_err-put.ensures))

pub returns-in_err-write_root : goal.returns-in_err-write_root
returns-in_err-write_root c =
    rw c.from_residual-in_err-write_root.ensures (whole-writes _ _ _ _ (writes_then c.in_ok-put.ensures (writes_stop _ c.in_err-write_root.ensures)))

pub returns-in_err-write_head : goal.returns-in_err-write_head
returns-in_err-write_head c =
    rw c.from_residual-in_err-write_head.ensures (whole-writes _ _ _ _ (writes_then c.in_ok-put.ensures (writes_then c.in_ok-write_root.ensures (writes_stop _ (rw (c.get-n.ensures, c.get-m.ensures) at c.in_err-write_head.ensures)))))

pub returns-in_err-put-2 : goal.returns-in_err-put-2
returns-in_err-put-2 c =
    rw c.from_residual-in_err-put-2.ensures (whole-writes _ _ _ _ (writes_then c.in_ok-put.ensures (writes_then c.in_ok-write_root.ensures (writes_then (rw (c.get-n.ensures, c.get-m.ensures) at c.in_ok-write_head.ensures) (writes_stop _ c.in_err-put-2.ensures)))))

pub returns-in_err-write_cues : goal.returns-in_err-write_cues
returns-in_err-write_cues c =
    rw c.from_residual-in_err-write_cues.ensures (whole-writes _ _ _ _ (writes_then c.in_ok-put.ensures (writes_then c.in_ok-write_root.ensures (writes_then (rw (c.get-n.ensures, c.get-m.ensures) at c.in_ok-write_head.ensures) (writes_then c.in_ok-put-2.ensures (writes_stop _ (rw c.get-k.ensures at c.in_err-write_cues.ensures)))))))

pub returns : goal.returns
returns c =
    whole-writes _ _ _ _ (writes_then c.in_ok-put.ensures (writes_then c.in_ok-write_root.ensures (writes_then (rw (c.get-n.ensures, c.get-m.ensures) at c.in_ok-write_head.ensures) (writes_then c.in_ok-put-2.ensures (writes_then (rw c.get-k.ensures at c.in_ok-write_cues.ensures) c.put-3.ensures)))))
