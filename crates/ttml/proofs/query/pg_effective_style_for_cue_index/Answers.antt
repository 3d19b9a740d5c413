-- `pg_effective_style_for_cue_index` meets its contract: the query's promise, and its answer told.
use Rattle.told.proofs.Queries.{as_promised}
use Rattle.ttml.proofs.query.pg_effective_style_for_cue_index.Goals as goal

pub returns : goal.returns
returns c =
    as_promised c.ids-1.given c.effective_style_for_cue_index-answer.ensures c.tell_style.ensures
