-- `check_query` meets its contract. Assumes nothing.
use Rattle.track.proofs.Exactly.{checked-is}
use mathlib.Core.Path.{◌∙◌}
use Rattle.queries.specs.Steps.{query_check}
use Rattle.queries.proofs.check.check_query.Goals as goal

pub returns : goal.returns
unfolding query_check
returns c =
    c.check_text.ensures ∙ rw (checked-is _ c.check_track.ensures)
