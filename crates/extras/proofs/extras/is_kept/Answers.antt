-- `is_kept`, list by list.
use mathlib.Core.Path.{sym, ap, ◌∙◌}
use Rattle.names.specs.declared.tables.Listed.{Listed}
use Rattle.names.specs.Lists.{name_of}
use Rattle.extras.specs.Kept.{wanted_by}
use Rattle.extras.proofs.extras.is_kept.Goals as goal

pub style_keeps-requires : goal.style_keeps-requires
style_keeps-requires c =
    rw c.in-StyleExtra.is at c.requires

pub returns-in-StyleExtra : goal.returns-in-StyleExtra
returns-in-StyleExtra c =
    c.style_keeps.ensures ∙ sym (ap (λ (x : Listed). wanted_by x (name_of x c.args.i) c.args.value.now) c.in-StyleExtra.is)
