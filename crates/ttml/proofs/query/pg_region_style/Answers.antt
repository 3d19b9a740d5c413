-- `pg_region_style` meets its contract: the query's promise, and its answer told.
use Rattle.told.proofs.Queries.{as_promised}
use Rattle.ttml.proofs.query.pg_region_style.Goals as goal

pub returns : goal.returns
returns c =
    as_promised c.ids-1.given c.region_style-answer.ensures c.tell_style.ensures
