-- `write_region` meets its contract.
use Rattle.writer.proofs.Chaining.{writes_stop, writes_then}
use Rattle.document.proofs.RegionLaws.{region_writes}
use Rattle.document.proofs.regions.write_region.Goals as goal

pub span_attr-requires : goal.span_attr-requires
span_attr-requires c =
    rw c.region_at-x.ensures c.requires.id

pub write_extras-requires : goal.write_extras-requires
write_extras-requires c =
    rw c.region_at-x.ensures c.requires.extras

pub returns-in_err-span_attr : goal.returns-in_err-span_attr
returns-in_err-span_attr c =
    rw c.from_residual.ensures (region_writes _ _ _ c.region_at-x.ensures _ _ _ (writes_stop _ c.in_err-span_attr.ensures))

pub returns-in_err-write_extras : goal.returns-in_err-write_extras
returns-in_err-write_extras c =
    rw c.from_residual-in_err-write_extras.ensures (region_writes _ _ _ c.region_at-x.ensures _ _ _ (writes_then c.in_ok-span_attr.ensures (writes_stop _ c.in_err-write_extras.ensures)))

pub returns : goal.returns
returns c =
    region_writes _ _ _ c.region_at-x.ensures _ _ _ (writes_then c.in_ok-span_attr.ensures (writes_then c.in_ok-write_extras.ensures c.put.ensures))
