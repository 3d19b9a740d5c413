-- `reference` meets its contract: the check finds all but a reference that is known.
use mathlib.Core.Path.{sym, ◌∙◌}
use native.Mathlib.Omega.{arith}
use Rattle.entities.proofs.References.{refers_to}
use Rattle.entities.proofs.reference.reference.Goals as goal

pub returns : goal.returns
returns c =
    refers_to c.args.src.now _ _ c.name_end-end.ensures (omega arith) c.if-src-end-ne59.false _ (sym c.lookup_entity.ensures ∙ c.in_ok-c.was)
