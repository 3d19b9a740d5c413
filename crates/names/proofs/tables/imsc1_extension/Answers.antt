-- `imsc1_extension` answers the names of its list: the row holds the name, and the first blank ends it.
use borrow.Author.Rules.{rules}
use Rattle.names.specs.declared.tables.Listed.{Listed}
use Rattle.names.proofs.Padded.{held}
use Rattle.names.proofs.tables.imsc1_extension.Goals as goal

pub returns : goal.returns
returns c =
    held Listed.Imsc1Extension c.args.i (search rules) c.cut.result c.cut.ensures
