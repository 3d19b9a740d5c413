-- `write_layout` meets its contract.
use Rattle.writer.proofs.Chaining.{writes_none, writes_stop, writes_then}
use Rattle.document.proofs.RegionLaws.{layout-none, layout-some}
use Rattle.document.proofs.regions.write_layout.Goals as goal

pub returns-then-n-eq0 : goal.returns-then-n-eq0
returns-then-n-eq0 c =
    rw (layout-none _ c.args.n c.if-n-eq0.true) (writes_none _)

pub returns-in_err-put : goal.returns-in_err-put
returns-in_err-put c =
    rw c.from_residual.ensures (rw (layout-some _ c.args.n c.if-n-eq0.false) (writes_stop _ c.in_err-put.ensures))

pub returns-in_err-write_regions : goal.returns-in_err-write_regions
returns-in_err-write_regions c =
    rw c.from_residual-in_err-write_regions.ensures (rw (layout-some _ c.args.n c.if-n-eq0.false) (writes_then c.in_ok-put.ensures (writes_stop _ c.in_err-write_regions.ensures)))

pub returns : goal.returns
returns c =
    rw (layout-some _ c.args.n c.if-n-eq0.false) (writes_then c.in_ok-put.ensures (writes_then c.in_ok-write_regions.ensures c.put-2.ensures))
