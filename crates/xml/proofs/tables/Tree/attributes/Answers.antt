-- `attributes`: rows that are attributes have room, and their strings stand.
use Rattle.xml.proofs.RowFacts.{room_of, within_of}
use Rattle.xml.proofs.tables.Tree.attributes.Goals as goal

pub invariant_of-result : goal.invariant_of-result
invariant_of-result c =
    record { room = room_of c.requires; within = within_of c.requires }
