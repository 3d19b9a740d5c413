-- `name` gives the part of the strings that the row says.
use Rattle.scan.specs.Part.{string_at}
use Rattle.xml.proofs.attributes.Attributes.name.Goals as goal

pub returns : goal.returns
unfolding string_at
returns c =
    rw (c.get-start.ensures, c.get.ensures)
