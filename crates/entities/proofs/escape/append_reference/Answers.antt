-- `append_reference` meets its contract: the tests of its `match` say which byte it is, and what is written for that byte.
use Rattle.entities.specs.Escape.{escape_byte}
use Rattle.entities.proofs.Escapes.{escape_quote}
use Rattle.entities.proofs.escape.append_reference.Goals as goal

pub returns-in-38 : goal.returns-in-38
unfolding escape_byte
returns-in-38 c =
    rw c.in-38.is c.append.ensures

pub returns-in-60 : goal.returns-in-60
unfolding escape_byte
returns-in-60 c =
    rw c.in-60.is c.append-in-60.ensures

pub returns-in-62 : goal.returns-in-62
unfolding escape_byte
returns-in-62 c =
    rw c.in-62.is c.append-in-62.ensures

pub returns-in_default : goal.returns-in_default
returns-in_default c =
    rw (escape_quote _ _ c.in_default.in_default-own.rest.0.0.1 c.in_default.in_default-own.rest.0.1 c.in_default.in_default-own.rest.1 c.requires.1) c.append-in_default.ensures
