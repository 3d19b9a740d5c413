-- `is_sought`, by what is sought.
use mathlib.Core.Path.{sym, ap, ◌∙◌}
use Rattle.params.specs.declared.seek.Sought.{Sought}
use Rattle.params.specs.Named.{sought_by}
use Rattle.params.proofs.seek.is_sought.Goals as goal

pub returns-in-Whole : goal.returns-in-Whole
returns-in-Whole c =
    c.same.ensures ∙ sym (ap (λ (x : Sought). sought_by x c.args.name.now c.args.found.now) c.in-Whole.is)

pub returns-in-Param : goal.returns-in-Param
returns-in-Param c =
    c.is_param_named.ensures ∙ sym (ap (λ (x : Sought). sought_by x c.args.name.now c.args.found.now) c.in-Param.is)
