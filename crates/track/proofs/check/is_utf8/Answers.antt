-- `is_utf8` meets its contract: bytes are UTF-8 where the longest valid beginning is all of them.
use Rattle.track.specs.Meaning.{is_utf8}
use Rattle.track.proofs.check.is_utf8.Goals as goal

pub returns : goal.returns
unfolding is_utf8
returns c =
    rw c.utf8_end.ensures.is
