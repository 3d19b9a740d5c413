-- `name_at`: the name that stands in the row, from its first colon on.
use Rattle.params.proofs.Adding.{span-is}
use Rattle.params.proofs.params.name_at.Goals as goal

pub returns : goal.returns
returns c =
    let u = c.args.attrs.now.attrs.now in
    let z = c.args.attrs.now.strings.now in
    let f = rw c.name-name.ensures at c.strip_ns-at.ensures in
    span-is u z c.args.k c.strip_ns-at.result c.requires f _ (rw c.get.ensures) (rw c.name-name.ensures)
