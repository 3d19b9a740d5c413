-- `named` meets its contract: the check finds all but the colour of the row whose name the text is.
use mathlib.Core.Path.{sym, ◌∙◌}
use Rattle.colors.proofs.Names.{name_hit}
use Rattle.colors.proofs.named.named.Goals as goal

pub returns-then-row_is : goal.returns-then-row_is
returns-then-row_is c =
    sym (c.loop-i.invariant.1 ∙ name_hit c.loop-i.i c.loop-i-test.true c.args.text.now (sym c.row_is.ensures ∙ c.if-row_is.true))
