-- `collect_p_inline_extras`: those of its list.
use Rattle.meaning.specs.Styling.{inline_extras}
use Rattle.extras.proofs.extras.collect_p_inline_extras.Goals as goal

pub returns : goal.returns
unfolding inline_extras
returns c =
    c.collect.ensures
