-- `attr`: rows that are attributes have room, and their strings stand.
use Rattle.xml.proofs.RowFacts.{room_of, within_of}
use Rattle.xml.proofs.find.attr.Goals as goal

pub invariant_of-these : goal.invariant_of-these
invariant_of-these c =
    record { room = room_of c.requires; within = within_of c.requires }
