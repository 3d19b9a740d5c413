-- `style_extra` answers the names of its list: the row holds the name, and the first blank ends it.
use Rattle.names.specs.declared.tables.Listed.{Listed}
use Rattle.names.proofs.Padded.{held_first, held_second}
use borrow.Author.Rules.{rules}
use Rattle.names.proofs.tables.style_extra.Goals as goal

pub returns-then-i-lt22 : goal.returns-then-i-lt22
returns-then-i-lt22 c =
    held_first Listed.StyleExtra 22 c.args.i (search rules) c.cut.result (search rules) c.cut.ensures

pub returns-else-i-lt22 : goal.returns-else-i-lt22
returns-else-i-lt22 c =
    held_second Listed.StyleExtra 22 c.args.i (search rules) c.cut-else-i-lt22.result (search rules) c.cut-else-i-lt22.ensures
