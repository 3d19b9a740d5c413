-- `contains` says whether the name is an entry: it can be only the one with its number.
use mathlib.Core.Path.{sym, ◌∙◌}
use Rattle.names.proofs.NameLaws.{number-name, contains-at, contains-nowhere}
use Rattle.names.proofs.lookup.contains.Goals as goal

pub is_exactly-requires : goal.is_exactly-requires
is_exactly-requires c =
    (number-name c.args.list c.args.name.now _
    (sym c.number_of.ensures ∙ c.in-Some.is)).0

pub returns-in-Some : goal.returns-in-Some
returns-in-Some c =
    c.is_exactly.ensures
    ∙ sym (contains-at c.args.list
    c.args.name.now _
    (sym c.number_of.ensures ∙ c.in-Some.is))

pub returns-in-None : goal.returns-in-None
returns-in-None c =
    sym (contains-nowhere c.args.list c.args.name.now
    (sym c.number_of.ensures ∙ c.in-None.is))
