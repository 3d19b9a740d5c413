-- `bytes_to_cue` meets its contract: it is `read_text` for a cue. Assumes nothing.
use Rattle.reader.specs.Steps.{meant_by}
use Rattle.reader.proofs.calls.bytes_to_cue.Goals as goal

pub returns : goal.returns
unfolding meant_by
returns c =
    c.read_text.ensures
