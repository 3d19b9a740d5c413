-- `hex_channel` answers the channel between the two places: the check finds all but the digit that is taken twice.
use mathlib.Core.Path.{sym, ◌∙◌}
use borrow.Author.Tests.{not-false}
use Rattle.colors.proofs.Reading.{channel_is, narrow}
use Rattle.colors.proofs.read.hex_channel.Goals as goal

pub returns-then-width-eq1 : goal.returns-then-width-eq1
returns-then-width-eq1 c =
    let s = c.args.text.now in
    c.channel.ensures
    ∙ sym (channel_is s c.args.at _ _ _ (sym c.is_boundary.ensures ∙ not-false _ c.if-not-is_boundary.false-raw)
    (sym c.is_boundary-else-not-is_boundary.ensures ∙ not-false _ c.if-not-is_boundary-2.false-raw)
    (narrow s c.args.at c.args.width c.if-width-eq1.true c.requires.2))
