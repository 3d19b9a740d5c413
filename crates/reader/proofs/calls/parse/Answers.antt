-- `parse` meets its contract: it is `read_text` for a track. Assumes nothing.
use Rattle.reader.specs.Steps.{meant_by}
use Rattle.reader.proofs.calls.parse.Goals as goal

pub returns : goal.returns
unfolding meant_by
returns c =
    c.read_text.ensures
