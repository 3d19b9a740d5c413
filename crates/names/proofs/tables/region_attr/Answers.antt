-- `region_attr` answers the names of its list: the row holds the name, and the first blank ends it.
use Rattle.names.specs.declared.tables.Listed.{Listed}
use Rattle.names.proofs.Padded.{held_first, held_second}
use borrow.Author.Rules.{rules}
use Rattle.names.proofs.tables.region_attr.Goals as goal

pub returns-then-i-lt28 : goal.returns-then-i-lt28
returns-then-i-lt28 c =
    held_first Listed.RegionAttr 28 c.args.i (search rules) c.cut.result (search rules) c.cut.ensures

pub returns-else-i-lt28 : goal.returns-else-i-lt28
returns-else-i-lt28 c =
    held_second Listed.RegionAttr 28 c.args.i (search rules) c.cut-else-i-lt28.result (search rules) c.cut-else-i-lt28.ensures
