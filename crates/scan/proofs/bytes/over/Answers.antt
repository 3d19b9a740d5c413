-- `over` meets its contract: a text ends at its first `<`, and the other runs are read byte by byte.
use Rattle.scan.specs.Bytes.{text_byte}
use Rattle.scan.proofs.bytes.over.Goals as goal

pub returns-in-Text : goal.returns-in-Text
unfolding text_byte
returns-in-Text c =
    rw c.in-Text.is c.find_far.ensures
